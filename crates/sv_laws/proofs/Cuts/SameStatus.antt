-- Two logs of the instrument that are the same but for how program text was accepted have the same
-- status byte and the same registers.
use Rattle.std.proofs.Common.{◌≡◌, ℕ, Bool, true, false, List, [], ◌∷◌, refl, sym, ap, ◌∙◌, inl, inr, arith}
use Rattle.std.specs.Prelude.{◌↔◌, ◌&&◌, ◌||◌}
use Rattle.std.specs.Int.{bit_at}
use Rattle.sv_errors.specs.declared.error_queue.QueueAct.{QueueAct}
use Rattle.sv_errors.specs.declared.error_queue.QueueAct.TheVariants as queue_act
use Rattle.sv_errors.specs.ErrorQueue.{entries, is_full}
use Rattle.std.specs.List.{range_with_len}
use Rattle.sv_logs.specs.Since.{is_since}
use Rattle.sv_logs.proofs.Since.{since_empty, since_agrees, since_skips_act, iff_transitive}
use Rattle.sv_status.specs.declared.register_name.RegisterName.{RegisterName}
use Rattle.sv_status.specs.declared.register_name.RegisterName.TheVariants.{Operation, Questionable}
use Rattle.sv_scan.specs.Counted.{effective}
use Rattle.sv_exchange.specs.Exchange.{Accepted, TextDropped, Interrupted, is_something}
use Rattle.sv_layers.specs.declared.change.RegisterChange.TheVariants.{ReadEvents}
use Rattle.sv_layers.specs.declared.change.StatusChange.TheVariants.{ReadStandard, Register}
use Rattle.sv_layers.specs.Act.{Act, Exchanged, Purged, Reported, EntryTaken, Cleared, OpcAsked, Polled, exchange_acts, scan_acts, queue_acts, StatusChanged}
use Rattle.sv_layers.specs.Filter.{rise, fall, enable, has_bit, passes, leaves}
use Rattle.sv_layers.specs.Condition.{word, summary, condition, effective_acts, is_idle}
use Rattle.sv_layers.specs.Event.{EventStands}
use Rattle.sv_layers.specs.Standard as standard
use Rattle.sv_layers.specs.StatusByte.{SummaryBit, service, ServiceRequested, Master, Reason, Lasts, Request, IsRaised, PolledBit, MasterBit}
use Rattle.sv_layers.proofs.Either.{iff_refl, either_congruent, both_congruent, iff_from_equal}
use Rattle.sv_layers.proofs.Transitions.{Passes, NotCleared, changes, unchanged_bit_passes_none}
use Rattle.sv_layers.proofs.LimitSummary.{any_of_equal_tests}
use Rattle.sv_layers.proofs.EachRegister.{condition_same}
use Rattle.sv_laws.proofs.Cuts.SameExchange.{SameExchange, same_exchange_refl, act_keeps_same_exchange, text_keeps_same_exchange, same_exchange_sym, response_same}
use Rattle.sv_laws.proofs.Conformance.{lasts_master}
use Rattle.sv_layers.proofs.SameEvents.{iff_sym}

-- ---- two logs

-- Whether an event bit is set in a register, if only the condition bits of the scanner count: a
-- transition passed its filter since the register was last cleared.
abbrev set_by_scanner : RegisterName → ℕ → List Act → Bool
set_by_scanner name k log = is_since (passes (word name) name k) (leaves name) log

-- The two logs agree on everything but the pending request for service.
pub record SameParts (log other : List Act) : Type 0 where
  pub scanned : scan_acts log ≡ scan_acts other
  pub queued : queue_acts log ≡ queue_acts other
  pub since : (name : RegisterName) (k : ℕ) → set_by_scanner name k log ≡ set_by_scanner name k other
  pub rises : (name : RegisterName) → rise name log ≡ rise name other
  pub falls : (name : RegisterName) → fall name log ≡ fall name other
  pub enables : (name : RegisterName) → enable name log ≡ enable name other
  pub standards : standard.enable log ≡ standard.enable other
  pub serves : service log ≡ service other
  pub events : (name : RegisterName) (k : ℕ) → EventStands name k log ↔ EventStands name k other
  pub waits : standard.Waits log ↔ standard.Waits other
  pub stands : (k : ℕ) → standard.Stands k log ↔ standard.Stands k other
  pub exchange : SameExchange (exchange_acts log) (exchange_acts other)

-- They agree on the pending request for service too.
pub record SameStatus (log other : List Act) : Type 0 where
  pub parts : SameParts log other
  pub open parts use *
  pub request : Request log ↔ Request other

nested_same : (name : RegisterName) (log other : List Act) → enable name log ≡ enable name other
    → ((k : ℕ) → set_by_scanner name k log ≡ set_by_scanner name k other) → summary name log ≡ summary name other
nested_same name log other mask same = any_of_equal_tests (range_with_len 0 16) _ _ (λ k.
    ap (λ (b : Bool). b && has_bit (enable name log) k) (same k) ∙ ap (λ (w : ℕ). set_by_scanner name k other && has_bit w k) mask)

pub status_condition : (name : RegisterName) (log other : List Act) → SameParts log other → condition name log ≡ condition name other
status_condition name log other v =
    condition_same name log other (ap effective v.scanned) (λ below. nested_same below log other (v.enables below) (v.since below))

pub idle_same : (log other : List Act) → scan_acts log ≡ scan_acts other → is_idle log ≡ is_idle other
idle_same log other same = rw same refl

-- ---- the status byte

-- A summary bit is set if some event bit is set and enabled. The bit is the same if the events and
-- the enables are the same.
summary_same : (P Q : ℕ → Type 0) (mask also : ℕ) → mask ≡ also → ((k : ℕ) → P k ↔ Q k)
    → ((k : ℕ) × P k × (bit_at mask k ≡ 1)) ↔ ((k : ℕ) × Q k × (bit_at also k ≡ 1))
summary_same P Q mask also same events = (
  (λ s. (s.0, (events s.0).0 s.1, rw same at s.2)),
  (λ s. (s.0, (events s.0).1 s.1, rw (← same) at s.2)),
)

summary_bits_same : (k : ℕ) (log other : List Act) → SameParts log other → SummaryBit k log ↔ SummaryBit k other
summary_bits_same k log other v =
    either_congruent iff_refl (both_congruent (summary_same _ _ _ _ (v.enables Operation) (v.events Operation)))
    (either_congruent iff_refl (both_congruent (summary_same _ _ _ _ v.standards v.stands))
    (either_congruent iff_refl
    (both_congruent (iff_from_equal _ _ (ap is_something (response_same (exchange_acts log) (exchange_acts other) v.exchange))))
    (either_congruent iff_refl (both_congruent (summary_same _ _ _ _ (v.enables Questionable) (v.events Questionable)))
    (both_congruent (iff_from_equal _ _ (ap (λ (l : List QueueAct). is_something (entries l)) v.queued))))))

service_requested_same : (k : ℕ) (log other : List Act) → SameParts log other → ServiceRequested k log ↔ ServiceRequested k other
service_requested_same k log other v =
    let bits = summary_bits_same k log other v in
    ((λ h. (bits.0 h.0, rw v.serves at h.1)), (λ h. (bits.1 h.0, rw (← v.serves) at h.1)))

masters_same : (log other : List Act) → SameParts log other → Master log ↔ Master other
masters_same log other v =
    ((λ m. (m.0, (service_requested_same m.0 log other v).0 m.1)), (λ m. (m.0, (service_requested_same m.0 log other v).1 m.1)))

request_act : (act : Act) (log other : List Act) → SameParts (act ∷ log) (act ∷ other) → SameParts log other
    → Request log ↔ Request other → Request (act ∷ log) ↔ Request (act ∷ other)
request_act act log other now was before = since_agrees Reason Lasts act log other (
  (λ r. (r.0, (service_requested_same r.0 _ _ now).0 r.1, λ a. r.2 ((service_requested_same r.0 _ _ was).1 a))),
  (λ r. (r.0, (service_requested_same r.0 _ _ now).1 r.1, λ a. r.2 ((service_requested_same r.0 _ _ was).0 a))),
) (lasts act now) before
  where
    lasts : (act : Act) → SameParts (act ∷ log) (act ∷ other) → Lasts (act ∷ log) ↔ Lasts (act ∷ other)
    lasts Polled now = iff_refl
    lasts act now = masters_same (act ∷ log) (act ∷ other) now

-- ---- the same act

queue_more : (act : Act) (log other : List Act) → queue_acts log ≡ queue_acts other → queue_acts (act ∷ log) ≡ queue_acts (act ∷ other)
queue_more (Reported code) log other same = ap (λ (l : List QueueAct). queue_act.Report code ∷ l) same
queue_more EntryTaken log other same = ap (λ (l : List QueueAct). queue_act.Take ∷ l) same
queue_more Cleared log other same = ap (λ (l : List QueueAct). queue_act.Clear ∷ l) same
queue_more _ log other same = same

exchange_more : (act : Act) (log other : List Act) → SameExchange (exchange_acts log) (exchange_acts other)
    → SameExchange (exchange_acts (act ∷ log)) (exchange_acts (act ∷ other))
exchange_more (Exchanged act) log other v = act_keeps_same_exchange act (exchange_acts log) (exchange_acts other) v
exchange_more Purged log other v = act_keeps_same_exchange Interrupted (TextDropped ∷ exchange_acts log) (TextDropped ∷ exchange_acts other)
    (act_keeps_same_exchange TextDropped (exchange_acts log) (exchange_acts other) v)
exchange_more _ log other v = v

-- ---- events of a status register

passes_act : (name : RegisterName) (k : ℕ) (act : Act) (log other : List Act) → condition name (act ∷ log) ≡ condition name (act ∷ other)
    → SameParts log other → Passes name k (act ∷ log) ↔ Passes name k (act ∷ other)
passes_act name k act log other now v = rw (now, status_condition name log other v, v.rises name, v.falls name) iff_refl

leaves_act : (name : RegisterName) (act : Act) (log other : List Act) → leaves name (act ∷ log) ≡ leaves name (act ∷ other)
leaves_act name (StatusChanged (Register which ReadEvents)) log other = refl
leaves_act name act log other = refl

stood_act : (name : RegisterName) (k : ℕ) (act : Act) (log other : List Act) → effective_acts (act ∷ log) ≡ effective_acts (act ∷ other)
    → SameParts log other → set_by_scanner name k (act ∷ log) ≡ set_by_scanner name k (act ∷ other)
stood_act name k act log other now v =
    rw (now, ap effective v.scanned, v.rises name, v.falls name, v.since name k, leaves_act name act log other) refl

-- ---- standard events

asked_act : (act : Act) (log other : List Act) → standard.IsAsked (act ∷ log) ↔ standard.IsAsked (act ∷ other)
asked_act OpcAsked log other = iff_refl
asked_act _ log other = iff_refl

completes_act : (act : Act) (log other : List Act) → is_idle (act ∷ log) ≡ is_idle (act ∷ other) → SameParts log other
    → standard.Completes (act ∷ log) ↔ standard.Completes (act ∷ other)
completes_act act log other same v =
    let asks = asked_act act log other in (
      (λ h. (sym same ∙ h.0, elim h.1 [ inl a ↦ inl (asks.0 a) | inr w ↦ inr (v.waits.0 w.0, w.1) ])),
      (λ h. (same ∙ h.0, elim h.1 [ inl a ↦ inl (asks.1 a) | inr w ↦ inr (v.waits.1 w.0, w.1) ])),
    )

occurs_act : (k : ℕ) (act : Act) (log other : List Act) → is_idle (act ∷ log) ≡ is_idle (act ∷ other) → SameParts log other
    → standard.Occurs k (act ∷ log) ↔ standard.Occurs k (act ∷ other)
occurs_act k (Reported code) log other same v = either_congruent iff_refl iff_refl (either_congruent iff_refl
    (both_congruent (iff_from_equal _ _ (ap (λ (l : List QueueAct). is_full l) v.queued)))
    (both_congruent (completes_act (Reported code) log other same v)))
occurs_act k act log other same v = both_congruent (completes_act act log other same v)

kept_act : (act : Act) (log other : List Act) → standard.NotCleared (act ∷ log) ↔ standard.NotCleared (act ∷ other)
kept_act (StatusChanged ReadStandard) log other = iff_refl
kept_act _ log other = iff_refl

-- ---- the same act in both logs

parts_act : (act : Act) (log other : List Act) → SameParts log other → SameParts (act ∷ log) (act ∷ other)
parts_act act log other v =
    let scanned : scan_acts (act ∷ log) ≡ scan_acts (act ∷ other) = rw v.scanned refl in
    let enables : (name : RegisterName) → enable name (act ∷ log) ≡ enable name (act ∷ other) = λ name. rw (v.enables name) refl in
    let since = λ (name : RegisterName) (k : ℕ). stood_act name k act log other (ap effective scanned) v in
    let now = λ (name : RegisterName). condition_same name (act ∷ log) (act ∷ other) (ap effective scanned)
    (λ below. nested_same below (act ∷ log) (act ∷ other) (enables below) (since below)) in
    let idle = idle_same (act ∷ log) (act ∷ other) scanned in
    record {
      scanned = scanned;
      queued = queue_more act log other v.queued;
      since = since;
      rises = λ name. rw (v.rises name) refl;
      falls = λ name. rw (v.falls name) refl;
      enables = enables;
      standards = rw v.standards refl;
      serves = rw v.serves refl;
      events = λ name k. since_agrees (Passes name k) (NotCleared name) act log other (passes_act name k act log other (now name) v)
          (rw (leaves_act name act log other) iff_refl) (v.events name k);
      waits = since_agrees standard.IsAsked standard.IsPending act log other (asked_act act log other) (rw idle iff_refl) v.waits;
      stands = λ k. since_agrees (standard.Occurs k) standard.NotCleared act log other (occurs_act k act log other idle v)
          (kept_act act log other) (v.stands k);
      exchange = exchange_more act log other v.exchange;
    }

pub act_keeps_same_status : (act : Act) (log other : List Act) → SameStatus log other → SameStatus (act ∷ log) (act ∷ other)
act_keeps_same_status act log other v =
    let parts = parts_act act log other v.parts in
    record { parts = parts; request = request_act act log other parts v.parts v.request }

-- ---- text that is accepted in one of the logs

abbrev accepted : List ℕ → Bool → Act
accepted bytes ended = Exchanged (Accepted bytes ended)

stood_over : (name : RegisterName) (k : ℕ) (bytes : List ℕ) (ended : Bool) (log : List Act)
    → set_by_scanner name k (accepted bytes ended ∷ log) ≡ set_by_scanner name k log
stood_over name k bytes ended log = ap (λ (b : Bool). b || set_by_scanner name k log)
    (unchanged_bit_passes_none (has_bit (word name log) k) (has_bit (rise name log) k) (has_bit (fall name log) k))

never_passes : (name : RegisterName) (k : ℕ) (bytes : List ℕ) (ended : Bool) (log : List Act)
    → Passes name k (accepted bytes ended ∷ log) → ⊥
never_passes name k bytes ended log h =
    let same = condition_same name (accepted bytes ended ∷ log) log refl
    (λ below. nested_same below (accepted bytes ended ∷ log) log refl (λ bit. stood_over below bit bytes ended log)) in
    let told : changes k (condition name log) (condition name log) (rise name log) (fall name log) ≡ true =
    sym (ap (λ (w : ℕ). changes k (condition name log) w (rise name log) (fall name log)) same) ∙ h in
    let none = sym (unchanged_bit_passes_none (has_bit (condition name log) k) (has_bit (rise name log) k) (has_bit (fall name log) k))
    ∙ told in
    absurd cc

pending_over : (bytes : List ℕ) (ended : Bool) (log : List Act) → standard.Waits log → standard.IsPending (accepted bytes ended ∷ log)
pending_over bytes ended [] s = absurd ((since_empty standard.IsAsked standard.IsPending).0 s).0
pending_over bytes ended (act ∷ log) s = ((s.kept 0 (omega arith)).0, refl)

never_completes : (bytes : List ℕ) (ended : Bool) (log : List Act) → standard.Completes (accepted bytes ended ∷ log) → ⊥
never_completes bytes ended log h = elim h.1 [
  | inl asked ↦ absurd asked
  | inr waits ↦ absurd (let z : true ≡ false = sym h.0 ∙ (pending_over bytes ended log waits.0).0 in cc)
]

parts_accepted : (bytes : List ℕ) (ended : Bool) (log other : List Act) → SameParts log other → SameParts (accepted bytes ended ∷ log) other
parts_accepted bytes ended log other v = assumption (
  (λ (name : RegisterName) (k : ℕ). stood_over name k bytes ended log ∙ v.since name k),
  (λ (name : RegisterName) (k : ℕ). iff_transitive (since_skips_act (Passes name k) (NotCleared name) (accepted bytes ended) log
      (never_passes name k bytes ended log) (λ s. refl)) (v.events name k)),
  iff_transitive (since_skips_act standard.IsAsked standard.IsPending (accepted bytes ended) log (λ h. h) (pending_over bytes ended log))
      v.waits,
  (λ (k : ℕ). iff_transitive (since_skips_act (standard.Occurs k) standard.NotCleared (accepted bytes ended) log
      (λ h. never_completes bytes ended log h.1) (λ s. tt)) (v.stands k)),
  text_keeps_same_exchange bytes ended (exchange_acts log) (exchange_acts other) v.exchange,
)

parts_same : (log : List Act) → SameParts log log
parts_same log = assumption (same_exchange_refl (exchange_acts log))

request_over : (bytes : List ℕ) (ended : Bool) (log : List Act) → Request (accepted bytes ended ∷ log) ↔ Request log
request_over bytes ended log =
    let now = parts_accepted bytes ended log log (parts_same log) in
    since_skips_act Reason Lasts (accepted bytes ended) log (λ h. h.2 ((service_requested_same h.0 _ _ now).0 h.1))
    (λ s. (masters_same _ _ now).1 (lasts_master log (s.kept 0 (omega arith))))

-- Accepting text in one of the logs keeps the status the same.
pub text_keeps_same_status : (bytes : List ℕ) (ended : Bool) (log other : List Act) → SameStatus log other
    → SameStatus (accepted bytes ended ∷ log) other
text_keeps_same_status bytes ended log other v = record {
  parts = parts_accepted bytes ended log other v.parts;
  request = iff_transitive (request_over bytes ended log) v.request;
}

-- ---- requests for service that are raised

pub same_act_raises_same : (act : Act) (log other : List Act) → SameStatus log other → IsRaised (act ∷ log) ↔ IsRaised (act ∷ other)
same_act_raises_same act log other v =
    let now = (act_keeps_same_status act log other v).request in
    ((λ h. (now.0 h.0, λ b. h.1 (v.request.1 b))), (λ h. (now.1 h.0, λ b. h.1 (v.request.0 b))))

-- Accepting text raises no request for service.
pub text_raises_no_request : (bytes : List ℕ) (ended : Bool) (log : List Act) → IsRaised (Exchanged (Accepted bytes ended) ∷ log) → ⊥
text_raises_no_request bytes ended log h = h.1 ((request_over bytes ended log).0 h.0)

pub polled_same : (k : ℕ) (log other : List Act) → SameStatus log other → PolledBit k log ↔ PolledBit k other
polled_same k log other v = either_congruent iff_refl (summary_bits_same k log other v.parts) (both_congruent v.request)

pub master_same : (k : ℕ) (log other : List Act) → SameStatus log other → MasterBit k log ↔ MasterBit k other
master_same k log other v = either_congruent iff_refl (summary_bits_same k log other v.parts)
    (both_congruent (masters_same log other v.parts))

pub same_status_sym : (log other : List Act) → SameStatus log other → SameStatus other log
same_status_sym log other v = record {
  parts = search (sym, iff_sym, same_exchange_sym, v.since, v.rises, v.falls, v.enables, v.events, v.stands);
  request = iff_sym v.request;
}

pub same_status_refl : (log : List Act) → SameStatus log log
same_status_refl log = record { parts = parts_same log; request = iff_refl }
