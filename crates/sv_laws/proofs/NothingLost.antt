-- An event that agrees with what the server's methods say (`Suits`), such as bytes for which there
-- is room, is applied and needs no memory.
use Rattle.std.proofs.Common.{◌≡◌, ℕ, ◌<◌, Bool, true, false, cond, eqb, List, [], ◌∷◌, ◌++◌, length, filter, Option, Some, None, refl, sym, ap, subst, ◌∙◌, inl, inr, arith, le-ltb, append-nil}
use Rattle.std.specs.Prelude.{map, not, is_some, ◌||◌, Result, Ok, Err}
use Rattle.std.proofs.lemmas.Bool.{cases_Bool}
use Rattle.sv_logs.proofs.Each.{Each}
use Rattle.sv_links.specs.declared.request.Peer.{Peer}
use Rattle.sv_links.specs.Links.{LinkAct, Made, closing, links_made}
use Rattle.sv_links.specs.Waiting.{Left, waits, is_creating, creating, connections}
use Rattle.sv_links.specs.Channels.{ChannelAct, ChannelClosed, is_channel_open, waiting as channel_waiting}
use Rattle.sv_laws.proofs.LinksAlike.{MakesNone}
use Rattle.sv_laws.proofs.Closed.{closing_makes_no_link}
use Rattle.sv_layers.specs.Act.{Act as InstrumentAct}
use Rattle.sv_instrument.specs.Stimulus.{external_acts}
use Rattle.sv_history.specs.declared.event.Config.{Config}
use Rattle.sv_history.specs.declared.event.Dial.{Dial}
use Rattle.sv_history.specs.declared.event.Role.{Role}
use Rattle.sv_history.specs.declared.event.Port.TheVariants.{Conn, Intr}
use Rattle.sv_history.specs.declared.event.Did.{Did}
use Rattle.sv_history.specs.declared.event.Did.TheVariants.{Done}
use Rattle.sv_history.specs.declared.event.Refused.{Refused}
use Rattle.sv_history.specs.declared.event.Refused.TheVariants.{NoMemory}
use Rattle.sv_history.specs.Event.{PlainEvent, Open, Bytes, Took, Close, Dialed, Input, External}
use Rattle.sv_history.specs.Act.{Act, ConnAct, DeviceAct, Linked, Waited, Channel, Applied, Ticked, PortClosed, On, OnDevice, of, device_acts, link_acts, wait_acts, instrument_acts}
use Rattle.sv_history.specs.Connection.{is_open, room, waiting, open_role, pending_call}
use Rattle.sv_history.specs.CoreCall.{CoreCall}
use Rattle.sv_history.specs.Request.{core_call_in}
use Rattle.sv_history.specs.Effect.{acts_of}
use Rattle.sv_history.specs.Interrupts.{has_channel, is_dialing, dialing, dial_in}
use Rattle.sv_history.proofs.Dialing.{peer_named_by, connect_outcome_for, connect_outcome_by_peer}
use Rattle.sv_history.specs.Resuming.{connect_effect}
use Rattle.sv_history.specs.History.{is_shut, refusal, own_acts, did, wants_memory, AnswersBy, IsLogOf}
use Rattle.sv_laws.specs.Laws.{NothingLost}
use Rattle.sv_history.proofs.Projections.{device_effect, device_acts_append, link_acts_links, wait_acts_links, link_acts_applied, wait_acts_applied}
use Rattle.sv_history.proofs.Telling.{channel_log_unique, channel_open_by_channel_log}
use Rattle.sv_laws.proofs.ShutIsClear.{clear_has_no_pending_call, shut_is_clear}
use Rattle.sv_laws.proofs.Facts.{none_is_not_some, true_is_not_false}

-- ---- an event that isn't refused and needs no memory succeeds

pub done_if_not_refused : (config : Config) (channel_log : List ChannelAct) (event : PlainEvent) (log : List Act)
    (result : Result Did Refused)
    → refusal config channel_log event log ≡ None → did event log ≡ Done
    → ((polled : ℕ) → wants_memory (device_acts (own_acts config polled event log)) ≡ false)
    → AnswersBy config channel_log event log result → result ≡ Ok Done
done_if_not_refused config channel_log event log (Ok what) free does modest h = ap Ok (h.1 ∙ does)
done_if_not_refused config channel_log event log (Err NoMemory) free does modest h = true_is_not_false _ h.3 (modest h.1)
done_if_not_refused config channel_log event log (Err _) free does modest h = none_is_not_some _ _ free h

-- ---- events that need no memory

waits_none : (c d : ℕ) → waits d (Left c ∷ []) ≡ None
waits_none c d = elim (cases_Bool (eqb c d)) [ inl e ↦ rw e refl | inr e ↦ rw e refl ]

pub filter_false_is_empty : (p : ℕ → Bool) (xs : List ℕ) → ((x : ℕ) → p x ≡ false) → length (filter p xs) ≡ 0
filter_false_is_empty p [] h = refl
filter_false_is_empty p (x ∷ xs) h = rw (h x) (filter_false_is_empty p xs h)

pub leaving_needs_no_memory : (c : ℕ) (acts : List DeviceAct) → links_made (link_acts acts) ≡ 0 → wait_acts acts ≡ Left c ∷ []
    → wants_memory acts ≡ false
leaving_needs_no_memory c acts no_link is =
    let none : creating (wait_acts acts) ≡ 0 =
    rw is (filter_false_is_empty (is_creating (Left c ∷ [])) connections (λ d. rw (waits_none c d) refl)) in
    let nobody : dialing (wait_acts acts) ≡ 0 =
    rw is (filter_false_is_empty (λ d. is_dialing d (Left c ∷ [])) connections (λ d. rw (waits_none c d) refl)) in
    rw (no_link, none, nobody) refl

made_none : (links before : List LinkAct) → Each (λ before act. MakesNone act) links before → links_made links ≡ 0
made_none [] before h = refl
made_none (Made lid conn ∷ links) before h = absurd h.0
made_none (_ ∷ links) before h = made_none links before h.1

close_needs_no_memory : (c : ℕ) (log : List Act) → wants_memory (device_acts (map OnDevice
    (Channel (ChannelClosed c) ∷ map Linked (closing c (link_acts (device_acts log))) ++ Waited (Left c) ∷ [])
    ++ On c PortClosed ∷ [])) ≡ false
close_needs_no_memory c log =
    let links = closing c (link_acts (device_acts log)) in
    let adds = Channel (ChannelClosed c) ∷ map Linked links ++ Waited (Left c) ∷ [] in
    let is : device_acts (map OnDevice adds ++ On c PortClosed ∷ []) ≡ adds =
    device_acts_append adds (On c PortClosed ∷ []) ∙ append-nil adds in
    rw is (leaving_needs_no_memory c adds
    (ap links_made (link_acts_links links (Waited (Left c) ∷ []) ∙ append-nil links)
    ∙ made_none links (link_acts (device_acts log)) (closing_makes_no_link c (link_acts (device_acts log))))
    (wait_acts_links links (Waited (Left c) ∷ [])))

dialed_needs_no_memory : (c : ℕ) (ok : Bool) (call : Option CoreCall) → wants_memory (device_acts (acts_of c (connect_effect c ok call)))
    ≡ false
dialed_needs_no_memory c ok call =
    let effect = connect_effect c ok call in
    let is : device_acts (acts_of c effect) ≡ effect.adds =
    ap device_acts (sym (append-nil (acts_of c effect))) ∙ device_effect c effect [] ∙ append-nil effect.adds in
    rw is (by call)
  where
    at_peer : (ok : Bool) (call : CoreCall) (found : Option Peer)
        → wants_memory ((connect_outcome_for c ok call.arguments found).adds ++ Waited (Left c) ∷ []) ≡ false
    at_peer true call (Some one) =
        leaving_needs_no_memory c ((connect_outcome_for c true call.arguments (Some one)).adds ++ Waited (Left c) ∷ []) refl refl
    at_peer false call (Some one) =
        leaving_needs_no_memory c ((connect_outcome_for c false call.arguments (Some one)).adds ++ Waited (Left c) ∷ []) refl refl
    at_peer ok call None = leaving_needs_no_memory c ((connect_outcome_for c ok call.arguments None).adds ++ Waited (Left c) ∷ []) refl refl

    by : (call : Option CoreCall) → wants_memory (connect_effect c ok call).adds ≡ false
    by (Some call) = rw (connect_outcome_by_peer c ok call.arguments) (at_peer ok call (peer_named_by call.arguments))
    by None = leaving_needs_no_memory c (Waited (Left c) ∷ []) refl refl

none_wanted : (acts : List DeviceAct) → link_acts acts ≡ [] → wait_acts acts ≡ [] → wants_memory acts ≡ false
none_wanted acts none still =
    let a : links_made (link_acts acts) ≡ 0 = ap links_made none in
    let b : creating (wait_acts acts) ≡ 0 = ap creating still in
    let c : dialing (wait_acts acts) ≡ 0 = ap dialing still in rw (a, b, c) refl

none_behind : (adds : List InstrumentAct) (log : List Act) → link_acts (device_acts log) ≡ [] → wait_acts (device_acts log) ≡ []
    → wants_memory (device_acts (map OnDevice (map Applied adds) ++ log)) ≡ false
none_behind adds log none still = rw (device_acts_append (map Applied adds) log) (none_wanted (map Applied adds ++ device_acts log)
    (link_acts_applied adds (device_acts log) ∙ none) (wait_acts_applied adds (device_acts log) ∙ still))

pub instrument_needs_no_memory : (adds : List InstrumentAct) → wants_memory (device_acts (map OnDevice (map Applied adds))) ≡ false
instrument_needs_no_memory adds = subst (λ (acts : List Act). wants_memory (device_acts acts) ≡ false)
    (append-nil (map OnDevice (map Applied adds))) (none_behind adds [] refl refl)

pub tick_needs_no_memory : (adds : List InstrumentAct)
    → wants_memory (device_acts (map OnDevice (map Applied adds) ++ OnDevice Ticked ∷ [])) ≡ false
tick_needs_no_memory adds = none_behind adds (OnDevice Ticked ∷ []) refl refl

-- ---- room, bytes that wait, or a peer to dial mean that a port is open

not_shut : (c : ℕ) (log : List Act) → c < 16 → is_open (of c log) ≡ true → is_shut c log ≡ false
not_shut c log lt opened = ap (λ (b : Bool). b || not (is_open (of c log))) (le-ltb 15 c (omega (arith, lt))) ∙ ap not opened

open_if : (opened : Bool) (n : ℕ) → (opened ≡ false → n ≡ 0) → 0 < n → opened ≡ true
open_if true n shut lt = refl
open_if false n shut lt = absurd (let none = shut refl in omega (arith, lt, none))

pub open_room : (acts : List ConnAct) → 0 < room acts → is_open acts ≡ true
open_room acts lt = open_if (is_open acts) (room acts) (λ e. rw e refl) lt

pub open_waiting : (acts : List ConnAct) → 0 < length (waiting acts) → is_open acts ≡ true
open_waiting acts lt = open_if (is_open acts) (length (waiting acts)) (λ e. rw e refl) lt

pub channel_open_if_some_wait : (c : ℕ) (channel_log : List ChannelAct) → 0 < length (channel_waiting c channel_log)
    → is_channel_open c channel_log ≡ true
channel_open_if_some_wait c channel_log lt =
    open_if (is_channel_open c channel_log) (length (channel_waiting c channel_log)) (λ e. rw e refl) lt

pub some_role : (found : Option Role) → (found ≡ None → ⊥) → is_some found ≡ true
some_role (Some role) h = refl
some_role None h = absurd (h refl)

dials : (is : Bool) (found : Option Dial) (dial : Dial) → cond is found None ≡ Some dial → (is ≡ true) × (found ≡ Some dial)
dials true found dial e = (refl, e)
dials false found dial e = absurd cc

open_dialing : (config : Config) (history : List PlainEvent) (log : List Act) (c : ℕ) (dial : Dial) → IsLogOf config history log
    → dial_in (core_call_in (pending_call (of c log))) ≡ Some dial → is_open (of c log) ≡ true
open_dialing config history log c dial was some = some_role (open_role (of c log)) (λ shut.
    let none = clear_has_no_pending_call (of c log) (shut_is_clear config history log c was shut) in
    let z : None ≡ Some dial = sym (ap (λ (call : Option (List ℕ)). dial_in (core_call_in call)) none) ∙ some in cc)

-- ---- the law

pub nothing_lost : NothingLost
nothing_lost config history (Open c role) channel_log log result was tells suits (also, hears, h) =
    let lt = suits.0 in
    done_if_not_refused config also (Open c role) log result (rw (le-ltb 15 c (omega (arith, lt)), suits.1) refl) refl (λ polled. refl) h
nothing_lost config history (Bytes c piece) channel_log log result was tells suits (also, hears, h) =
    let open_one = not_shut c log suits.0 (open_room (of c log) suits.1) in
    done_if_not_refused config also (Bytes c piece) log result (rw (open_one, le-ltb (room (of c log)) (length piece) suits.2) refl) refl
    (λ polled. refl) h
nothing_lost config history (Took (Conn c) n) channel_log log result was tells suits (also, hears, h) =
    let open_one = not_shut c log suits.0 (open_waiting (of c log) suits.1) in
    done_if_not_refused config also (Took (Conn c) n) log result (rw (open_one, le-ltb (length (waiting (of c log))) n suits.2) refl) refl
    (λ polled. refl) h
nothing_lost config history (Took (Intr c) n) channel_log log result was tells suits (also, hears, h) =
    let same = channel_log_unique (device_acts log) also channel_log hears tells in
    let there : has_channel c (device_acts log) ≡ true =
    sym (channel_open_by_channel_log c (device_acts log) channel_log tells) ∙ channel_open_if_some_wait c channel_log suits.1 in
    let lt = suits.0 in
    done_if_not_refused config channel_log (Took (Intr c) n) log result
    (rw (le-ltb 15 c (omega (arith, lt)), there, le-ltb (length (channel_waiting c channel_log)) n suits.2) refl) refl (λ polled. refl)
    (subst (λ (l : List ChannelAct). AnswersBy config l (Took (Intr c) n) log result) same h)
nothing_lost config history (Close (Conn c)) channel_log log result was tells suits (also, hears, h) =
    done_if_not_refused config also (Close (Conn c)) log result (rw suits refl) refl (λ polled. close_needs_no_memory c log) h
nothing_lost config history (Close (Intr c)) channel_log log result was tells suits (also, hears, h) =
    done_if_not_refused config also (Close (Intr c)) log result (rw suits refl) refl (λ polled. refl) h
nothing_lost config history (Dialed c ok) channel_log log result was tells suits (also, hears, h) =
    let both = dials (is_dialing c (wait_acts (device_acts log))) _ suits.1 suits.2 in
    let open_one = not_shut c log suits.0 (open_dialing config history log c suits.1 was both.1) in
    done_if_not_refused config also (Dialed c ok) log result (rw (open_one, both.0) refl) refl
    (λ polled. dialed_needs_no_memory c ok (core_call_in (pending_call (of c log)))) h
nothing_lost config history (Input channel microvolts) channel_log log result was tells suits (also, hears, h) =
    done_if_not_refused config also (Input channel microvolts) log result suits refl (λ polled. refl) h
nothing_lost config history External channel_log log result was tells suits (also, hears, h) =
    done_if_not_refused config also External log result refl refl
    (λ polled. instrument_needs_no_memory (external_acts (instrument_acts (device_acts log)))) h
nothing_lost config history _ channel_log log result was tells suits answers = absurd suits
