-- What common commands and queries set, change and keep: the laws of specs/Conformance.antt.
use Rattle.std.proofs.Common.{◌≡◌, ◌≢◌, ℕ, ◌+◌, ◌<◌, Bool, true, false, List, [], ◌∷◌, refl, sym, ap, subst, ◌∙◌, inl, inr, arith}
use Rattle.std.specs.Int.{bit_at}
use Rattle.std.specs.Prelude.{◌↔◌, ◌&&◌, ◌||◌}
use Rattle.std.specs.List.{range_with_len}
use Rattle.sv_logs.specs.Since.{is_since}
use Rattle.sv_logs.proofs.Since.{since_empty, since_step, since_kept, since_skips_act, since_same, since_not_kept, iff_transitive}
use Rattle.sv_errors.specs.declared.error_queue.QueueAct.{QueueAct}
use Rattle.sv_errors.specs.ErrorQueue.{entries}
use Rattle.sv_errors.proofs.Queue.{codes_after_report, codes_after_take}
use Rattle.sv_status.specs.declared.register_name.RegisterName.{RegisterName}
use Rattle.sv_status.specs.declared.register_name.RegisterName.TheVariants.{Operation, Questionable, Limit}
use Rattle.sv_scan.specs.declared.acts.ScanAct.{ScanAct}
use Rattle.sv_scan.specs.declared.acts.ScanAct.TheVariants.{Reset}
use Rattle.sv_scan.specs.Counted.{effective}
use Rattle.sv_exchange.specs.Exchange.{ExchangeAct, Answered, UnitDone, response, is_something}
use Rattle.sv_layers.specs.declared.change.StatusChange.TheVariants.{ReadStandard}
use Rattle.sv_layers.specs.Act.{Act, Exchanged, Purged, Scanned, EntryTaken, Cleared, Preset, Polled, exchange_acts, queue_acts, scan_acts, StatusChanged}
use Rattle.sv_layers.specs.Condition.{effective_acts, is_idle, scan_word, word, summary, condition}
use Rattle.sv_layers.specs.Filter.{rise, fall, enable, has_bit, passes, leaves}
use Rattle.sv_layers.specs.Event.{EventStands}
use Rattle.sv_layers.specs.Standard.{IsAsked, cancels, IsPending, Waits, Completes, Occurs, NotCleared, Stands}
use Rattle.sv_layers.specs.StatusByte.{SummaryBit, ServiceRequested, Master, Reason, Lasts, Request}
use Rattle.sv_layers.proofs.Transitions.{has_bit_is_one, unchanged_bit_passes_none}
use Rattle.sv_layers.proofs.Bits.{top_bit}
use Rattle.sv_scan.specs.Scan.{last_reading}
use Rattle.sv_scan.specs.Condition.{bit, is_overload}
use Rattle.sv_instrument.specs.CommandEffect.{done, after_answering}
use Rattle.sv_history.specs.Act.{instrument_acts}
use Rattle.sv_laws.specs.Conformance.{SameSettings, SameElse, SameRegisters, HasDefaults, PollEndsRequest, StatusByteLeaves, ClearClears, ResetLeaves, StandardReadOnce, PresetLeaves, ErrorsInOrder, ClearRests}
use Rattle.sv_laws.proofs.Facts.{true_is_not_false}
use Rattle.sv_layers.proofs.LimitSummary.{any_of_equal_tests}

-- ---- an act that isn't of the scanner

-- A condition bit that doesn't change sets no event bit.
bit_passes_none : (condition : List Act → ℕ) (name : RegisterName) (k : ℕ) (act : Act) (log : List Act)
    → has_bit (condition (act ∷ log)) k ≡ has_bit (condition log) k → passes condition name k (act ∷ log) ≡ false
bit_passes_none condition name k act log same =
    rw same (unchanged_bit_passes_none (has_bit (condition log) k) (has_bit (rise name log) k) (has_bit (fall name log) k))

same_condition_passes_none : (condition : List Act → ℕ) (name : RegisterName) (k : ℕ) (act : Act) (log : List Act)
    → condition (act ∷ log) ≡ condition log → passes condition name k (act ∷ log) ≡ false
same_condition_passes_none condition name k act log same = bit_passes_none condition name k act log (ap (λ (n : ℕ). has_bit n k) same)

since_on : (a b c : Bool) → a ≡ true → b ≡ false → (a && (b || c)) ≡ c
since_on a b c on off = rw (on, off) refl

limit_same : (act : Act) (log : List Act) → scan_acts (act ∷ log) ≡ scan_acts log → leaves Limit (act ∷ log) ≡ true
    → enable Limit (act ∷ log) ≡ enable Limit log → summary Limit (act ∷ log) ≡ summary Limit log
limit_same act log same kept enables = any_of_equal_tests (range_with_len 0 16)
    (λ k. is_since (passes (word Limit) Limit k) (leaves Limit) (act ∷ log) && has_bit (enable Limit (act ∷ log)) k)
    (λ k. is_since (passes (word Limit) Limit k) (leaves Limit) log && has_bit (enable Limit log) k)
    (λ k.
    let none = same_condition_passes_none (word Limit) Limit k act log (ap (λ (l : List ScanAct). scan_word Limit (effective l)) same) in
    let on = since_on (leaves Limit (act ∷ log)) (passes (word Limit) Limit k (act ∷ log))
    (is_since (passes (word Limit) Limit k) (leaves Limit) log) kept none in
    ap (λ (b : Bool). b && has_bit (enable Limit (act ∷ log)) k) on
    ∙ ap (λ (m : ℕ). is_since (passes (word Limit) Limit k) (leaves Limit) log && has_bit m k) enables)

condition_same : (name : RegisterName) (act : Act) (log : List Act) → scan_acts (act ∷ log) ≡ scan_acts log
    → leaves Limit (act ∷ log) ≡ true → enable Limit (act ∷ log) ≡ enable Limit log → condition name (act ∷ log) ≡ condition name log
condition_same Operation act log same kept enables = ap (λ (l : List ScanAct). scan_word Operation (effective l)) same
condition_same Limit act log same kept enables = ap (λ (l : List ScanAct). scan_word Limit (effective l)) same
condition_same Questionable act log same kept enables =
    rw (ap (λ (l : List ScanAct). scan_word Questionable (effective l)) same, limit_same act log same kept enables) refl

events_same : (name : RegisterName) (k : ℕ) (act : Act) (log : List Act) → condition name (act ∷ log) ≡ condition name log
    → leaves name (act ∷ log) ≡ true → EventStands name k (act ∷ log) ↔ EventStands name k log
events_same name k act log same kept = since_same (λ place. passes (condition name) name k place ≡ true) (λ place. leaves name place ≡ true)
    act log kept (λ on. true_is_not_false _ on (same_condition_passes_none (condition name) name k act log same))

-- Of the questionable condition, only bit 9 depends on anything but the scanner: it is the summary
-- of the limit register. So STATus:PRESet changes no other bit of this condition.
bit_is_small : (b : Bool) → bit 0 b < 512
bit_is_small true = omega arith
bit_is_small false = omega arith

other_bit : (b : Bool) (w k : ℕ) → w < 512 → k ≢ 9 → (bit_at (w + bit 9 b) k ≡ 1) ↔ (bit_at w k ≡ 1)
other_bit b w k less ne =
    let top = top_bit 9 b w k less in
    let swap : bit 9 b + w ≡ w + bit 9 b = omega arith in (
      (λ h. elim (top.0 (ap (λ (n : ℕ). bit_at n k) swap ∙ h)) [ inl nine ↦ absurd (ne nine.0) | inr on ↦ on ]),
      (λ on. ap (λ (n : ℕ). bit_at n k) (sym swap) ∙ top.1 (inr on)),
    )

bool_by_iff : (a b : Bool) → (a ≡ true) ↔ (b ≡ true) → a ≡ b
bool_by_iff true b same = sym (same.0 refl)
bool_by_iff false true same = same.1 refl
bool_by_iff false false same = refl

has_alike : (a b w k : ℕ) → (bit_at a k ≡ 1) ↔ (bit_at w k ≡ 1) → (bit_at b k ≡ 1) ↔ (bit_at w k ≡ 1) → has_bit a k ≡ has_bit b k
has_alike a b w k one two = bool_by_iff (has_bit a k) (has_bit b k) (
  (λ h. (has_bit_is_one b k).1 (two.1 (one.0 ((has_bit_is_one a k).0 h)))),
  (λ h. (has_bit_is_one a k).1 (one.1 (two.0 ((has_bit_is_one b k).0 h)))),
)

questionable_same : (k : ℕ) (log : List Act) → k ≢ 9
    → has_bit (condition Questionable (Preset ∷ log)) k ≡ has_bit (condition Questionable log) k
questionable_same k log ne =
    let w = word Questionable log in
    let less = bit_is_small (is_overload (last_reading (effective_acts log))) in
    has_alike (condition Questionable (Preset ∷ log)) (condition Questionable log) w k
    (other_bit (summary Limit (Preset ∷ log)) w k less ne) (other_bit (summary Limit log) w k less ne)

questionable_events : (k : ℕ) (log : List Act) → k ≢ 9 → EventStands Questionable k (Preset ∷ log) ↔ EventStands Questionable k log
questionable_events k log ne = since_same (λ place. passes (condition Questionable) Questionable k place ≡ true)
    (λ place. leaves Questionable place ≡ true) Preset log refl
    (λ on. true_is_not_false _ on (bit_passes_none (condition Questionable) Questionable k Preset log (questionable_same k log ne)))

-- ---- a pending *OPC

waits_busy : (log : List Act) → Waits log → is_idle log ≡ false
waits_busy [] s = absurd ((since_empty IsAsked IsPending).0 s).0
waits_busy (act ∷ log) s = ((since_step IsAsked IsPending act log).0 s).0.0

not_done : {A : Type 0} (log : List Act) (idle : Bool) → idle ≡ is_idle log → idle ≡ true → Waits log → A
not_done {A} log idle same on s = true_is_not_false idle on (same ∙ waits_busy log s)

waits_same : (act : Act) (log : List Act) → is_idle (act ∷ log) ≡ is_idle log → (IsAsked (act ∷ log) → ⊥) → cancels act ≡ false
    → Waits (act ∷ log) ↔ Waits log
waits_same act log same none goes =
    since_skips_act IsAsked IsPending act log none (λ s. (same ∙ waits_busy log s, goes))

completes_none : (act : Act) (log : List Act) → is_idle (act ∷ log) ≡ is_idle log → (IsAsked (act ∷ log) → ⊥) → Completes (act ∷ log) → ⊥
completes_none act log same none (idle, inl asked) = none asked
completes_none act log same none (idle, inr (s, goes)) = not_done log (is_idle (act ∷ log)) same idle s

-- ---- a poll, and message exchange

polled_same : (log : List Act) → SameRegisters (Polled ∷ log) log
polled_same log = record {
  settings = ((λ name. (refl, refl, refl)), refl, refl);
  events = λ name k. events_same name k Polled log (condition_same name Polled log refl refl refl) refl;
  standard = λ k. since_same (Occurs k) NotCleared Polled log tt (λ h. completes_none Polled log refl (λ asked. asked) h.1);
  waits = waits_same Polled log refl (λ asked. asked) refl;
  queue = refl;
  scanner = refl;
}

pub poll_ends_request : PollEndsRequest
poll_ends_request config polled c lid flags lock_timeout io_timeout acts outcome told is =
    let log = instrument_acts acts in
    rw is (refl, polled_same log, refl, since_not_kept Reason Lasts Polled log (λ lasts. lasts), (refl, refl))

-- An act of message exchange changes no register.
exchanged_same : (act : ExchangeAct) (log : List Act) → SameRegisters (Exchanged act ∷ log) log
exchanged_same act log = record {
  settings = ((λ name. (refl, refl, refl)), refl, refl);
  events = λ name k. events_same name k (Exchanged act) log (condition_same name (Exchanged act) log refl refl refl) refl;
  standard = λ k. since_same (Occurs k) NotCleared (Exchanged act) log tt
      (λ h. completes_none (Exchanged act) log refl (λ asked. asked) h.1);
  waits = waits_same (Exchanged act) log refl (λ asked. asked) refl;
  queue = refl;
  scanner = refl;
}

pub settings_then : (one two three : List Act) → SameSettings one two → SameSettings two three → SameSettings one three
settings_then one two three f g = (
  (λ name.
      let a = f.0 name in
      let b = g.0 name in (a.0 ∙ b.0, a.1 ∙ b.1, a.2 ∙ b.2)),
  f.1 ∙ g.1,
  f.2 ∙ g.2,
)

registers_then : (one two three : List Act) → SameRegisters one two → SameRegisters two three → SameRegisters one three
registers_then one two three f g = record {
  settings = settings_then one two three f.settings g.settings;
  events = λ name k. iff_transitive (f.events name k) (g.events name k);
  standard = λ k. iff_transitive (f.standard k) (g.standard k);
  waits = iff_transitive f.waits g.waits;
  queue = f.queue ∙ g.queue;
  scanner = f.scanner ∙ g.scanner;
}

registers_turned : (one two : List Act) → SameRegisters one two → SameRegisters two one
registers_turned one two f = record {
  settings = (
    (λ name. let a = f.settings.0 name in (sym a.0, sym a.1, sym a.2)),
    sym f.settings.1,
    sym f.settings.2,
  );
  events = λ name k. ((f.events name k).1, (f.events name k).0);
  standard = λ k. ((f.standard k).1, (f.standard k).0);
  waits = (f.waits.1, f.waits.0);
  queue = sym f.queue;
  scanner = sym f.scanner;
}

-- ---- a request for service

-- If two logs have the same registers and the same response, each summary bit that is set in one is
-- set in the other.
summary_moved : (one two : List Act) → SameRegisters one two → response (exchange_acts one) ≡ response (exchange_acts two) → (k : ℕ)
    → SummaryBit k one → SummaryBit k two
summary_moved one two f same k (inl (is, (bit, stands, on))) = inl (
  is,
  (
    bit,
    (f.events Operation bit).0 stands,
    subst (λ (m : ℕ). bit_at m bit ≡ 1) (f.settings.0 Operation).2 on,
  ),
)
summary_moved one two f same k (inr (inl (is, (bit, stands, on)))) = inr (inl (
  is,
  (
    bit,
    (f.standard bit).0 stands,
    subst (λ (m : ℕ). bit_at m bit ≡ 1) f.settings.1 on,
  ),
))
summary_moved one two f same k (inr (inr (inl (is, some)))) =
    inr (inr (inl (is, subst (λ (r : List ℕ). is_something r ≡ true) same some)))
summary_moved one two f same k (inr (inr (inr (inl (is, (bit, stands, on)))))) = inr (inr (inr (inl (
  is,
  (
    bit,
    (f.events Questionable bit).0 stands,
    subst (λ (m : ℕ). bit_at m bit ≡ 1) (f.settings.0 Questionable).2 on,
  ),
))))
summary_moved one two f same k (inr (inr (inr (inr (is, some))))) =
    inr (inr (inr (inr (is, subst (λ (q : List QueueAct). is_something (entries q) ≡ true) f.queue some))))

requested_moved : (one two : List Act) → SameRegisters one two → response (exchange_acts one) ≡ response (exchange_acts two) → (k : ℕ)
    → ServiceRequested k one → ServiceRequested k two
requested_moved one two f same k (is, on) =
    (summary_moved one two f same k is, subst (λ (m : ℕ). bit_at m k ≡ 1) f.settings.2 on)

pub lasts_master : (log : List Act) → Lasts log → Master log
lasts_master [] h = h
lasts_master (Polled ∷ log) h = absurd h
lasts_master (_ ∷ log) h = h

-- While a request for service is pending, the master summary bit is set.
pub request_master : (log : List Act) → Request log → Master log
request_master [] s = absurd ((since_empty Reason Lasts).0 s).0
request_master (act ∷ log) s = lasts_master (act ∷ log) ((since_step Reason Lasts act log).0 s).0

-- An act of message exchange that doesn't change the response neither raises nor ends a request for
-- service.
request_same : (act : ExchangeAct) (log : List Act) → response (exchange_acts (Exchanged act ∷ log)) ≡ response (exchange_acts log)
    → Request (Exchanged act ∷ log) ↔ Request log
request_same act log same =
    let now = exchanged_same act log in
    let back = registers_turned (Exchanged act ∷ log) log now in
    since_skips_act Reason Lasts (Exchanged act) log
    (λ (h : Reason (Exchanged act ∷ log)). h.2 (requested_moved (Exchanged act ∷ log) log now same h.0 h.1))
    (λ s. let h = request_master log s in (h.0, requested_moved log (Exchanged act ∷ log) back (sym same) h.0 h.1))

pub status_byte_leaves : StatusByteLeaves
status_byte_leaves log new (text, says, is) = (
  text,
  says,
  is,
  λ fits. rw (is, fits) (
    registers_then (Exchanged (Answered text) ∷ done log) (done log) log (exchanged_same (Answered text) (done log))
        (exchanged_same UnitDone log),
    iff_transitive (request_same (Answered text) (done log) refl) (request_same UnitDone log refl),
  ),
)

-- ---- *CLS

clear_leaves_no_event : (name : RegisterName) (k : ℕ) (log : List Act) → EventStands name k (Cleared ∷ log) → ⊥
clear_leaves_no_event name k log = since_not_kept (λ place. passes (condition name) name k place ≡ true) (λ place. leaves name place ≡ true)
    Cleared log
    (λ kept. cc)

clear_leaves_no_standard : (k : ℕ) (log : List Act) → Stands k (Cleared ∷ log) → ⊥
clear_leaves_no_standard k log = since_not_kept (Occurs k) NotCleared Cleared log (λ kept. kept)

only_mav_after_clear : (k : ℕ) (log : List Act) → SummaryBit k (Cleared ∷ log) → k ≡ 4
only_mav_after_clear k log (inl (is, (bit, stands, on))) = absurd (clear_leaves_no_event Operation bit log stands)
only_mav_after_clear k log (inr (inl (is, (bit, stands, on)))) = absurd (clear_leaves_no_standard bit log stands)
only_mav_after_clear k log (inr (inr (inl (is, some)))) = is
only_mav_after_clear k log (inr (inr (inr (inl (is, (bit, stands, on)))))) = absurd (clear_leaves_no_event Questionable bit log stands)
only_mav_after_clear k log (inr (inr (inr (inr (is, some))))) = absurd (let z : false ≡ true = some in cc)

pub clear_clears : ClearClears
clear_clears log new is =
    let cleared = Cleared ∷ log in
    let end = exchanged_same UnitDone cleared in
    rw is (record {
      events = λ name k s. clear_leaves_no_event name k log ((end.events name k).0 s);
      standard = λ k s. clear_leaves_no_standard k log ((end.standard k).0 s);
      queue = refl;
      waits = λ s. since_not_kept IsAsked IsPending Cleared log (λ pending. let z : true ≡ false = pending.1 in cc) (end.waits.0 s);
      settings = ((λ name. (refl, refl, refl)), refl, refl);
      scanner = refl;
      response = (refl, refl);
      summary = λ k s. only_mav_after_clear k log (summary_moved (done cleared) cleared end refl k s);
    })

-- ---- *RST

events_kept : (name : RegisterName) (k : ℕ) (act : Act) (log : List Act) → leaves name (act ∷ log) ≡ true → EventStands name k log
    → EventStands name k (act ∷ log)
events_kept name k act log kept s =
    (since_kept (λ place. passes (condition name) name k place ≡ true) (λ place. leaves name place ≡ true) act log kept).1 (inr s)

reset_completes : (log : List Act) → Completes (Scanned Reset ∷ log) → ⊥
reset_completes log (idle, inl asked) = asked
reset_completes log (idle, inr (s, goes)) = let z : true ≡ false = goes in cc

default_settings : (log : List Act) → HasDefaults (done (Scanned Reset ∷ log))
default_settings log = record {
  list = refl;
  monitored = refl;
  range = refl;
  upper = refl;
  lower = refl;
  limits = refl;
  source = refl;
  count = refl;
  idle = refl;
}

pub reset_leaves : ResetLeaves
reset_leaves log new is =
    let reset = Scanned Reset ∷ log in
    let end = exchanged_same UnitDone reset in
    rw is (record {
      defaults = default_settings log;
      settings = ((λ name. (refl, refl, refl)), refl, refl);
      events = λ name k s. (end.events name k).1 (events_kept name k (Scanned Reset) log refl s);
      standard = λ k. iff_transitive (end.standard k)
          (since_same (Occurs k) NotCleared (Scanned Reset) log tt (λ h. reset_completes log h.1));
      waits = λ s. since_not_kept IsAsked IsPending (Scanned Reset) log (λ pending. let z : true ≡ false = pending.1 in cc)
          (end.waits.0 s);
      queue = refl;
      response = (refl, refl);
    })

-- ---- *ESR?

read_clears_standard : (k : ℕ) (log : List Act) → Stands k (done (StatusChanged ReadStandard ∷ log)) → ⊥
read_clears_standard k log s = since_not_kept (Occurs k) NotCleared (StatusChanged ReadStandard) log (λ kept. kept)
    (((exchanged_same UnitDone (StatusChanged ReadStandard ∷ log)).standard k).0 s)

pub standard_read_once : StandardReadOnce
standard_read_once log new (text, says, is) =
    let read = StatusChanged ReadStandard ∷ log in
    let end = exchanged_same UnitDone read in (
      text,
      says,
      done read,
      is,
      (λ k. read_clears_standard k log),
      refl,
      (
        ((λ name. (refl, refl, refl)), refl, refl),
        (λ name k. iff_transitive (end.events name k)
            (events_same name k (StatusChanged ReadStandard) log (condition_same name (StatusChanged ReadStandard) log refl refl refl)
            refl)),
        iff_transitive end.waits (waits_same (StatusChanged ReadStandard) log refl (λ asked. asked) refl),
        refl,
        (refl, refl),
      ),
    )

-- ---- STATus:PRESet

pub preset_leaves : PresetLeaves
preset_leaves log new is =
    let preset = Preset ∷ log in
    let end = exchanged_same UnitDone preset in
    rw is (record {
      masks = λ name. (refl, refl, refl);
      kept = λ name k s. (end.events name k).1 (events_kept name k Preset log refl s);
      operation = λ k. iff_transitive (end.events Operation k) (events_same Operation k Preset log refl refl);
      limit = λ k. iff_transitive (end.events Limit k) (events_same Limit k Preset log refl refl);
      questionable = λ k ne. iff_transitive (end.events Questionable k) (questionable_events k log ne);
      standard = λ k. iff_transitive (end.standard k)
          (since_same (Occurs k) NotCleared Preset log tt (λ h. completes_none Preset log refl (λ asked. asked) h.1));
      enables = (refl, refl);
      waits = iff_transitive end.waits (waits_same Preset log refl (λ asked. asked) refl);
      queue = refl;
      scanner = refl;
      response = (refl, refl);
    })

-- ---- SYSTem:ERRor?

-- Removing the oldest error from the queue changes no register.
taken_same : (log : List Act) → ((k : ℕ) → Stands k (done (EntryTaken ∷ log)) ↔ Stands k log) × SameElse (done (EntryTaken ∷ log)) log
taken_same log =
    let end = exchanged_same UnitDone (EntryTaken ∷ log) in (
      (λ k. iff_transitive (end.standard k)
          (since_same (Occurs k) NotCleared EntryTaken log tt (λ h. completes_none EntryTaken log refl (λ asked. asked) h.1))),
      (
        ((λ name. (refl, refl, refl)), refl, refl),
        (λ name k. iff_transitive (end.events name k)
            (events_same name k EntryTaken log (condition_same name EntryTaken log refl refl refl) refl)),
        iff_transitive end.waits (waits_same EntryTaken log refl (λ asked. asked) refl),
        refl,
        (refl, refl),
      ),
    )

pub errors_in_order : ErrorsInOrder
errors_in_order = (
  (λ log new (text, says, is).
      let same = taken_same log in (
        done (EntryTaken ∷ log),
        is ∙ ap (λ (t : List ℕ). after_answering t (done (EntryTaken ∷ log))) says,
        codes_after_take (queue_acts log),
        same.0,
        same.1,
      )),
  (λ log code few. codes_after_report code (queue_acts log) few),
)

-- ---- device_clear

purge_completes : (log : List Act) → Completes (Purged ∷ log) → ⊥
purge_completes log (idle, inl asked) = asked
purge_completes log (idle, inr (s, goes)) = let z : true ≡ false = goes in cc

pub clear_rests : ClearRests
clear_rests config polled c lid flags lock_timeout io_timeout acts outcome is =
    let log = instrument_acts acts in
    rw is (
      refl,
      record {
        rest = record { text_left = refl; none_left = refl };
        held = refl;
        waits = since_not_kept IsAsked IsPending Purged log (λ pending. let z : true ≡ false = pending.1 in cc);
        settings = ((λ name. (refl, refl, refl)), refl, refl);
        events = λ name k. events_same name k Purged log (condition_same name Purged log refl refl refl) refl;
        standard = λ k. since_same (Occurs k) NotCleared Purged log tt (λ h. purge_completes log h.1);
        queue = refl;
        scanner = refl;
      },
      (refl, refl),
    )
