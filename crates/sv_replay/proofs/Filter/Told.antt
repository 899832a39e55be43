-- The filter removes all that an explained replay adds for an event.
use Rattle.std.proofs.Common.{◌≡◌, ℕ, zero, suc, cond, Bool, true, false, List, [], ◌∷◌, ◌++◌, map, codes, Option, Some, None, Result, Ok, Err, slice_index_or, ◌==◌, ◌&&◌, ℤ, refl, sym, subst, inl, inr}
use Rattle.std.specs.Prelude.{decimal}
use Rattle.std.specs.List.{concat, list_all, range_with_len}
use Rattle.std.specs.Option.{option_map_or}
use Rattle.std.specs.Cmp.Lexicographic.{pointwise}
use Rattle.std.specs.Ordering.{int_eq}
use Rattle.hex.specs.Hex.{encode_lower}
use Rattle.sv_instrument.specs.declared.looking.Step.{Step}
use Rattle.sv_instrument.specs.declared.looking.Step.TheVariants as step
use Rattle.sv_history.specs.declared.event.Config.{Config}
use Rattle.sv_history.specs.declared.event.Did.{Did}
use Rattle.sv_history.specs.declared.event.Refused.{Refused}
use Rattle.sv_history.specs.Event.{PlainEvent, Bytes, Turn, Refuse}
use Rattle.sv_history.specs.Act.{Act, of}
use Rattle.sv_history.specs.Connection.{next_call}
use Rattle.sv_explain.specs.declared.value.Word.TheVariants as word
use Rattle.sv_explain.specs.declared.value.Value.{Value}
use Rattle.sv_explain.specs.declared.shown.RegisterShown.{RegisterShown}
use Rattle.sv_explain.specs.declared.shown.Listed.{Listed}
use Rattle.sv_explain.specs.declared.shown.ConnShown.{ConnShown}
use Rattle.sv_explain.specs.declared.shown.LinksShown.{LinksShown}
use Rattle.sv_explain.specs.declared.shown.ScannerShown.{ScannerShown}
use Rattle.sv_explain.specs.declared.shown.ExchangeShown.{ExchangeShown}
use Rattle.sv_explain.specs.declared.shown.StatusesShown.{StatusesShown}
use Rattle.sv_explain.specs.declared.shown.Shown.{Shown}
use Rattle.sv_explain.specs.declared.step.Due.{Due}
use Rattle.sv_explain.specs.declared.step.Due.TheVariants as due
use Rattle.sv_explain.specs.Value.{value_text, same_value}
use Rattle.sv_explain.specs.Shown.{never_opened}
use Rattle.sv_explain.specs.Values.{channel_values, conn_values, measurement_values, message_values, number_or_word, register_values, settings_values, status_values}
use Rattle.sv_explain.specs.Lines.{value_line, lines_of, numbers_text, numbers_line, links_lines, links_without}
use Rattle.sv_explain.specs.Changes.{conn_lines, conns_lines, all_links_lines, scanner_lines, exchange_lines, register_lines, status_lines, changes}
use Rattle.sv_explain.specs.Steps.{head_line, end_line, call_line, unit_line, exchange_line, step_line}
use Rattle.sv_server.specs.Explain.Telling.{TellsIn, ToldOf, BytesTold, Told, taken_line, clock_at, clock_after}
use Rattle.sv_replay.specs.Filtered.{is_told}
use Rattle.sv_replay.proofs.Filter.Left.{has_no_newline, HasNoNewline, no_newline_cons, no_newline_append, newline_is_line, prepend_to_line, byte_before_line, IsFilteredOut, hidden_none, hidden_append, hidden_line, hidden_all, hidden_if}
use Rattle.sv_replay.proofs.Filter.Unbroken.{decimal_has_no_newline, value_has_no_newline, unbroken_numbers, hex_has_no_newline}

-- ---- lines of events and steps

hidden_head : (line clock : ℕ) → IsFilteredOut (head_line line clock)
hidden_head line clock =
    hidden_line (head_line line clock) (prepend_to_line (codes "@ ") (decimal line ++ 32 ∷ (decimal clock ++ 10 ∷ [])) refl
    (prepend_to_line (decimal line) (32 ∷ (decimal clock ++ 10 ∷ [])) (decimal_has_no_newline line)
    (byte_before_line 32 (decimal clock ++ 10 ∷ []) refl
    (prepend_to_line (decimal clock) (10 ∷ []) (decimal_has_no_newline clock) newline_is_line)))) refl

pub hidden_end : (clock : ℕ) → IsFilteredOut (end_line clock)
hidden_end clock = hidden_line (end_line clock) (prepend_to_line (codes "@ end ") (decimal clock ++ 10 ∷ []) refl
    (prepend_to_line (decimal clock) (10 ∷ []) (decimal_has_no_newline clock) newline_is_line)) refl

hidden_call : (c : ℕ) (bytes : List ℕ) → IsFilteredOut (call_line c bytes)
hidden_call c bytes =
    hidden_line (call_line c bytes) (prepend_to_line (codes "- call c") (decimal c ++ 32 ∷ (encode_lower bytes ++ 10 ∷ [])) refl
    (prepend_to_line (decimal c) (32 ∷ (encode_lower bytes ++ 10 ∷ [])) (decimal_has_no_newline c)
    (byte_before_line 32 (encode_lower bytes ++ 10 ∷ []) refl
    (prepend_to_line (encode_lower bytes) (10 ∷ []) (hex_has_no_newline bytes) newline_is_line)))) refl

-- A line that ends with a number.
hidden_conn : (words : List ℕ) (c : ℕ) → HasNoNewline words → is_told (words ++ (decimal c ++ 10 ∷ [])) ≡ true
    → IsFilteredOut (words ++ (decimal c ++ 10 ∷ []))
hidden_conn words c whole told = hidden_line (words ++ (decimal c ++ 10 ∷ [])) (prepend_to_line words (decimal c ++ 10 ∷ []) whole
    (prepend_to_line (decimal c) (10 ∷ []) (decimal_has_no_newline c) newline_is_line)) told

hidden_unit : (words : List ℕ) (place : ℕ) (unit : List ℕ) → HasNoNewline words → is_told (unit_line words place unit) ≡ true
    → IsFilteredOut (unit_line words place unit)
hidden_unit words place unit whole told = hidden_line (unit_line words place unit)
    (prepend_to_line words (decimal place ++ 32 ∷ (encode_lower unit ++ 10 ∷ [])) whole
    (prepend_to_line (decimal place) (32 ∷ (encode_lower unit ++ 10 ∷ [])) (decimal_has_no_newline place)
    (byte_before_line 32 (encode_lower unit ++ 10 ∷ []) refl
    (prepend_to_line (encode_lower unit) (10 ∷ []) (hex_has_no_newline unit) newline_is_line)))) told

hidden_exchange : (s : Step) → IsFilteredOut (exchange_line s)
hidden_exchange step.Release = hidden_line (codes "- release\n") (codes "- release", refl, refl) refl
hidden_exchange step.Overrun = hidden_line (codes "- overrun\n") (codes "- overrun", refl, refl) refl
hidden_exchange (step.Interrupt place unit) = hidden_unit (codes "- interrupt ") place unit.now refl refl
hidden_exchange (step.Unit place unit) = hidden_unit (codes "- unit ") place unit.now refl refl
hidden_exchange step.Finish = hidden_line (codes "- finish\n") (codes "- finish", refl, refl) refl

hidden_step : (name : Due) → IsFilteredOut (step_line name)
hidden_step due.Nothing = hidden_none
hidden_step due.Fire = hidden_line (codes "- fire\n") (codes "- fire", refl, refl) refl
hidden_step (due.Resume c) = hidden_conn (codes "- resume c") c refl refl
hidden_step (due.Exchange s) = hidden_exchange s
hidden_step (due.TimeOut c) = hidden_conn (codes "- timeout c") c refl refl

-- ---- lines of values

hidden_value : (name text : List ℕ) → HasNoNewline name → HasNoNewline text → IsFilteredOut (value_line name text)
hidden_value name text h k = hidden_line (value_line name text) (prepend_to_line (codes "= ") (name ++ 32 ∷ (text ++ 10 ∷ [])) refl
    (prepend_to_line name (32 ∷ (text ++ 10 ∷ [])) h
    (byte_before_line 32 (text ++ 10 ∷ []) refl (prepend_to_line text (10 ∷ []) k newline_is_line)))) refl

-- No name contains a new line.
abbrev HaveNoNewline : List (List ℕ) → Type 0
HaveNoNewline names = list_all has_no_newline names ≡ true

names_uncons : (name : List ℕ) (names : List (List ℕ)) → HaveNoNewline (name ∷ names) → HasNoNewline name × HaveNoNewline names
names_uncons name names h = here (has_no_newline name) h
  where
    here : (t : Bool) → (t && list_all has_no_newline names) ≡ true → (t ≡ true) × HaveNoNewline names
    here true e = (refl, e)
    here false e = absurd cc

hidden_lines : (owner : List ℕ) (names : List (List ℕ)) (old new : List Value) → HasNoNewline owner → HaveNoNewline names
    → IsFilteredOut (lines_of owner names old new)
hidden_lines owner [] old new h k = hidden_none
hidden_lines owner (name ∷ names) [] new h k = hidden_none
hidden_lines owner (name ∷ names) (o ∷ old) [] h k = hidden_none
hidden_lines owner (name ∷ names) (o ∷ old) (n ∷ new) h k =
    let (first, rest) = names_uncons name names k in
    hidden_append (cond (same_value o n) [] (value_line (owner ++ name) (value_text n))) (lines_of owner names old new)
    (hidden_if (same_value o n) (value_line (owner ++ name) (value_text n))
    (hidden_value (owner ++ name) (value_text n) (no_newline_append owner name h first) (value_has_no_newline n)))
    (hidden_lines owner names old new h rest)

hidden_numbers : (name : List ℕ) (old new : List ℤ) → HasNoNewline name → IsFilteredOut (numbers_line name old new)
hidden_numbers name old new h = hidden_if (pointwise int_eq old new) (codes "= " ++ (name ++ (numbers_text new ++ 10 ∷ [])))
    (hidden_line (codes "= " ++ (name ++ (numbers_text new ++ 10 ∷ []))) (prepend_to_line (codes "= ") (name ++
    (numbers_text new ++ 10 ∷ [])) refl
    (prepend_to_line name (numbers_text new ++ 10 ∷ []) h
    (prepend_to_line (numbers_text new) (10 ∷ []) (unbroken_numbers new) newline_is_line))) refl)

hidden_links : (name off : List ℕ) (on : Listed → List ℕ) (old new : List Listed) → HasNoNewline name → HasNoNewline off
    → ((link : Listed) → HasNoNewline (on link)) → IsFilteredOut (links_lines name off on old new)
hidden_links name off on old new h k each =
    let place : (link : Listed) → HasNoNewline (name ++ decimal link.lid) =
    λ link. no_newline_append name (decimal link.lid) h (decimal_has_no_newline link.lid) in
    hidden_append (concat (map (λ link. value_line (name ++ decimal link.lid) off) (links_without old new)))
    (concat (map (λ link. value_line (name ++ decimal link.lid) (on link)) (links_without new old)))
    (hidden_all (λ link. value_line (name ++ decimal link.lid) off) (links_without old new)
    (λ link. hidden_value (name ++ decimal link.lid) off (place link) k))
    (hidden_all (λ link. value_line (name ++ decimal link.lid) (on link)) (links_without new old)
    (λ link. hidden_value (name ++ decimal link.lid) (on link) (place link) (each link)))

-- ---- the names of values

abbrev settings_names : List (List ℕ)
settings_names = codes "source" ∷ codes "count" ∷ codes "range" ∷ codes "monitor" ∷ codes "upper" ∷ codes "lower" ∷ codes "limits" ∷ []

abbrev measurement_names : List (List ℕ)
measurement_names = codes "state" ∷ codes "scan" ∷ codes "place" ∷ codes "readings" ∷ codes "reading" ∷ []

abbrev conn_names : List (List ℕ)
conn_names = codes "role" ∷ codes "faulted" ∷ codes "wait" ∷ codes "output" ∷ []

abbrev message_names : List (List ℕ)
message_names = codes "text" ∷ codes "held" ∷ codes "answers" ∷ codes "response" ∷ codes "lost" ∷ []

abbrev register_names : List (List ℕ)
register_names = codes "enable" ∷ codes "ptr" ∷ codes "ntr" ∷ codes "cond" ∷ codes "event" ∷ []

abbrev status_names : List (List ℕ)
status_names = codes "opc" ∷ codes "ese" ∷ codes "esr" ∷ codes "sre" ∷ codes "stb" ∷ codes "rqs" ∷ []

-- ---- changed values

-- The beginning of a value's name, such as `c1.` for a connection, contains no new line.
owner_has_no_newline : (letter c : ℕ) → (letter == 10) ≡ false → HasNoNewline (letter ∷ decimal c ++ 46 ∷ [])
owner_has_no_newline letter c h = no_newline_cons letter (decimal c ++ 46 ∷ []) h
    (no_newline_append (decimal c) (46 ∷ []) (decimal_has_no_newline c) refl)

hidden_conn_lines : (c : ℕ) (old new : ConnShown) → IsFilteredOut (conn_lines c old new)
hidden_conn_lines c old new = hidden_append
    (lines_of (99 ∷ decimal c ++ 46 ∷ []) conn_names (conn_values old) (conn_values new))
    (lines_of (105 ∷ decimal c ++ 46 ∷ []) (codes "open" ∷ codes "output" ∷ []) (channel_values old) (channel_values new))
    (hidden_lines (99 ∷ decimal c ++ 46 ∷ []) conn_names (conn_values old) (conn_values new)
    (owner_has_no_newline 99 c refl) refl)
    (hidden_lines (105 ∷ decimal c ++ 46 ∷ []) (codes "open" ∷ codes "output" ∷ []) (channel_values old) (channel_values new)
    (owner_has_no_newline 105 c refl) refl)

hidden_conns : (old new : List ConnShown) → IsFilteredOut (conns_lines old new)
hidden_conns old new = hidden_all (λ c. conn_lines c (slice_index_or old c never_opened) (slice_index_or new c never_opened))
    (range_with_len 0 16) (λ c. hidden_conn_lines c (slice_index_or old c never_opened) (slice_index_or new c never_opened))

hidden_all_links : (old new : LinksShown) → IsFilteredOut (all_links_lines old new)
hidden_all_links old new = hidden_append (links_lines (codes "link.") (codes "none")
    (λ link. 99 ∷ decimal link.conn) old.links.items new.links.items)
    (lines_of [] (codes "lock" ∷ []) (number_or_word word.None old.lock ∷ []) (number_or_word word.None new.lock ∷ [])
    ++ links_lines (codes "srq.") (codes "off") (λ link. codes "on") old.asking.items new.asking.items)
    (hidden_links (codes "link.") (codes "none") (λ link. 99 ∷ decimal link.conn) old.links.items new.links.items refl refl
    (λ link. no_newline_cons 99 (decimal link.conn) refl (decimal_has_no_newline link.conn)))
    (hidden_append (lines_of [] (codes "lock" ∷ []) (number_or_word word.None old.lock ∷ []) (number_or_word word.None new.lock ∷ []))
    (links_lines (codes "srq.") (codes "off") (λ link. codes "on") old.asking.items new.asking.items)
    (hidden_lines [] (codes "lock" ∷ []) (number_or_word word.None old.lock ∷ []) (number_or_word word.None new.lock ∷ []) refl refl)
    (hidden_links (codes "srq.") (codes "off") (λ link. codes "on") old.asking.items new.asking.items refl refl (λ link. refl)))

hidden_scanner : (old new : ScannerShown) → IsFilteredOut (scanner_lines old new)
hidden_scanner old new =
    hidden_append _ _ (hidden_lines [] settings_names (settings_values old.settings) (settings_values new.settings) refl refl)
    (hidden_append _ _ (hidden_numbers (codes "list") old.list.items new.list.items refl)
    (hidden_lines [] measurement_names (measurement_values old.measurement) (measurement_values new.measurement) refl refl))

hidden_exchange_lines : (old new : ExchangeShown) → IsFilteredOut (exchange_lines old new)
hidden_exchange_lines old new =
    hidden_append _ _ (hidden_lines [] message_names (message_values old.message) (message_values new.message) refl refl)
    (hidden_numbers (codes "errors") old.errors.items new.errors.items refl)

hidden_register : (owner : List ℕ) (old new : RegisterShown) → HasNoNewline owner → IsFilteredOut (register_lines owner old new)
hidden_register owner old new h = hidden_lines owner register_names (register_values old) (register_values new) h refl

hidden_status : (old new : StatusesShown) → IsFilteredOut (status_lines old new)
hidden_status old new = hidden_append _ _ (hidden_register (codes "lim.") old.limit new.limit refl)
    (hidden_append _ _ (hidden_register (codes "ques.") old.questionable new.questionable refl)
    (hidden_append _ _ (hidden_register (codes "oper.") old.operation new.operation refl)
    (hidden_lines [] status_names (status_values old.standard) (status_values new.standard) refl refl)))

hidden_changes : (old new : Shown) → IsFilteredOut (changes old new)
hidden_changes old new = hidden_append (conns_lines old.conns.items new.conns.items) _ (hidden_conns old.conns.items new.conns.items)
    (hidden_append (all_links_lines old.links new.links) _ (hidden_all_links old.links new.links)
    (hidden_append (scanner_lines old.scanner new.scanner) _ (hidden_scanner old.scanner new.scanner)
    (hidden_append (exchange_lines old.exchange new.exchange) (status_lines old.statuses new.statuses)
    (hidden_exchange_lines old.exchange new.exchange) (hidden_status old.statuses new.statuses))))

-- ---- the whole text of an event

hidden_taken_call : (c : ℕ) (call : Option (List ℕ)) → IsFilteredOut (option_map_or (call_line c) call [])
hidden_taken_call c None = hidden_none
hidden_taken_call c (Some bytes) = hidden_call c bytes

hidden_taken : (event : PlainEvent) (log : List Act) → IsFilteredOut (taken_line event log)
hidden_taken (Turn c) log = hidden_taken_call c (next_call (of c log))
hidden_taken (Refuse c) log = hidden_taken_call c (next_call (of c log))
hidden_taken _ log = hidden_none

hidden_steps : (n : ℕ) (config : Config) (log : List Act) (shown : Shown) (text : List ℕ) (new : List Act)
    → TellsIn n config log shown text new → IsFilteredOut text
hidden_steps zero config log shown text new (settled, names, same, none) = subst IsFilteredOut (sym none) hidden_none
hidden_steps (suc n) config log shown text new (middle, name, next, rest, steps, names, is, whole, more) =
    subst IsFilteredOut (sym whole) (hidden_append (step_line name) (changes shown next ++ rest) (hidden_step name)
    (hidden_append (changes shown next) rest (hidden_changes shown next) (hidden_steps n config middle next rest new more)))

hidden_told_of : (line : ℕ) (config : Config) (event : PlainEvent) (log : List Act) (did : Result Did Refused) (told : List ℕ)
    → ToldOf line config event log did told → IsFilteredOut told
hidden_told_of line config event log (Err refused) told whole =
    subst IsFilteredOut (sym whole) (hidden_append (head_line line (clock_at config log)) (taken_line event log)
    (hidden_head line (clock_at config log)) (hidden_taken event log))
hidden_told_of line config event log (Ok did) told (polled, before, after, n, steps, end, is_polled, shows, shows_after, more, whole) =
    subst IsFilteredOut (sym whole) (hidden_append (head_line line (clock_after config event log))
    (taken_line event log ++ (changes before after ++ steps)) (hidden_head line (clock_after config event log))
    (hidden_append (taken_line event log) (changes before after ++ steps) (hidden_taken event log)
    (hidden_append (changes before after) steps (hidden_changes before after) (hidden_steps n config _ after steps end more))))

hidden_bytes : (line : ℕ) (config : Config) (event : PlainEvent) (log : List Act) (did : Result Did Refused) (told : List ℕ)
    → BytesTold line config event log did told → IsFilteredOut told
hidden_bytes line config (Bytes c piece) log (Ok did) told (before, after, shows, shows_after, whole) =
    subst IsFilteredOut (sym whole) (hidden_append (head_line line (clock_at config log)) (conn_lines c before after)
    (hidden_head line (clock_at config log)) (hidden_conn_lines c before after))
hidden_bytes line config (Bytes c piece) log (Err refused) told none = absurd none
hidden_bytes line config _ log did told none = absurd none

pub hidden_told : (line : ℕ) (config : Config) (event : PlainEvent) (log : List Act) (did : Result Did Refused) (told : List ℕ)
    → Told line config event log did told → IsFilteredOut told
hidden_told line config event log did told (inl (still, none)) = subst IsFilteredOut (sym none) hidden_none
hidden_told line config event log did told (inr (moves, inl tells)) = hidden_told_of line config event log did told tells
hidden_told line config event log did told (inr (moves, inr tells)) = hidden_bytes line config event log did told tells
