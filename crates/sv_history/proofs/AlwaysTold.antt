-- Whatever the acts were, the definitions give a byte for a serial poll. They also give a log of the
-- interrupt channels.
use Rattle.std.proofs.Common.{◌≡◌, ℕ, Bool, true, false, eqb, List, [], ◌∷◌, refl, ◌⊎◌, inl, inr, bit_and, bit_or, arith}
use Rattle.std.specs.Prelude.{◌↔◌, ◌&&◌, ◌||◌, not, bit_xor}
use Rattle.std.specs.Int.{bit_at}
use Rattle.sv_logs.proofs.Since.{since_empty, since_step, iff_transitive, both_true, either_true}
use Rattle.sv_status.proofs.Words.{bit_of_and, bit_of_or, not_zero, bit_rises}
use Rattle.sv_links.specs.Channels.{ChannelAct}
use Rattle.sv_layers.specs.Act.{Act as InstrumentAct, Polled}
use Rattle.sv_layers.specs.StatusByte.{SummaryBit, service, ServiceRequested, Master, Reason, Lasts, Request, IsRaised, PolledBit}
use Rattle.sv_layers.proofs.SameSummaries.{same_summaries, no_summary}
use Rattle.sv_layers.proofs.AlwaysTold.{one_account}
use Rattle.sv_history.specs.Act.{DeviceAct, Linked, Waited, Channel, Applied, Ticked, instrument_acts}
use Rattle.sv_history.specs.Requests.{HearsOf, link_told, request_told}
use Rattle.sv_history.specs.PolledStatus.{IsPolled}
use Rattle.sv_status.proofs.StatusBytes.{zero_bit, six_alone}

-- ---- decidable properties

-- A test decides whether a property holds.
abbrev Test : Type 0 → Type 0
Test P = (is : Bool) × ((is ≡ true) ↔ P)

none_test : {P : Type 0} → (P → ⊥) → Test P
none_test none = (false, ((λ e. absurd cc), (λ p. absurd (none p))))

same_test : {P Q : Type 0} → Test P → P ↔ Q → Test Q
same_test p same = (p.0, iff_transitive p.1 same)

both_test : {P Q : Type 0} → Test P → Test Q → Test (P × Q)
both_test p q =
    let both = both_true p.0 q.0 in
    (p.0 && q.0, ((λ e. let h = both.0 e in (p.1.0 h.0, q.1.0 h.1)), (λ h. both.1 (p.1.1 h.0, q.1.1 h.1))))

either_test : {P Q : Type 0} → Test P → Test Q → Test (P ⊎ Q)
either_test p q =
    let either = either_true p.0 q.0 in (
      p.0 || q.0,
      (
        (λ e. elim (either.0 e) [ inl h ↦ inl (p.1.0 h) | inr h ↦ inr (q.1.0 h) ]),
        (λ s. elim s [ inl h ↦ either.1 (inl (p.1.1 h)) | inr h ↦ either.1 (inr (q.1.1 h)) ]),
      ),
    )

not_by : {P : Type 0} (is : Bool) → (is ≡ true) ↔ P → Test (P → ⊥)
not_by true same = none_test (λ none. none (same.0 refl))
not_by false same = (true, ((λ e. λ p. absurd (let z : false ≡ true = same.1 p in cc)), (λ none. refl)))

not_test : {P : Type 0} → Test P → Test (P → ⊥)
not_test p = not_by p.0 p.1

-- ---- requests for service

summary_word : (log : List InstrumentAct) → (word : ℕ) × ((k : ℕ) → (bit_at word k ≡ 1) ↔ SummaryBit k log)
summary_word [] = (0, same_summaries 0 [] no_summary)
summary_word (act ∷ log) = let channel_log = one_account (act ∷ log) in
    (channel_log.1.0, same_summaries channel_log.1.0 (act ∷ log) channel_log.1.2)

asking_word : (log : List InstrumentAct) → (word : ℕ) × ((k : ℕ) → (bit_at word k ≡ 1) ↔ ServiceRequested k log)
asking_word log =
    let summary = summary_word log in (
      bit_and summary.0 (service log),
      λ k.
          let both = bit_of_and summary.0 (service log) k in (
            (λ e. let h = both.0 e in ((summary.1 k).0 h.0, h.1)),
            (λ asks. both.1 ((summary.1 k).1 asks.0, asks.1)),
          ),
    )

master_test : (log : List InstrumentAct) → Test (Master log)
master_test log =
    let asks = asking_word log in
    let some = not_zero asks.0 in (
      not (eqb asks.0 0),
      (
        (λ e. let h = some.0 e in (h.0, (asks.1 h.0).0 h.1)),
        (λ m. some.1 (m.0, (asks.1 m.0).1 m.1)),
      ),
    )

reason_test : (act : InstrumentAct) (log : List InstrumentAct) → Test (Reason (act ∷ log))
reason_test act log =
    let was = asking_word log in
    let now = asking_word (act ∷ log) in
    let some = not_zero (bit_and (bit_xor was.0 now.0) now.0) in (
      not (eqb (bit_and (bit_xor was.0 now.0) now.0) 0),
      (
        (λ e.
            let h = some.0 e in
            let r = (bit_rises was.0 now.0 h.0).0 h.1 in
            (h.0, (now.1 h.0).0 r.1, λ old. let one = (was.1 h.0).1 old in absurd (omega arith))),
        (λ r. some.1 (
          r.0,
          (bit_rises was.0 now.0 r.0).1 (zero_bit was.0 r.0 (λ one. r.2 ((was.1 r.0).0 one)), (now.1 r.0).1 r.1),
        )),
      ),
    )

lasts_test : (act : InstrumentAct) (log : List InstrumentAct) → Test (Lasts (act ∷ log))
lasts_test Polled log = none_test (λ lasts. lasts)
lasts_test act log = master_test (act ∷ log)

request_test : (log : List InstrumentAct) → Test (Request log)
request_test [] = none_test (λ s. ((since_empty Reason Lasts).0 s).0)
request_test (act ∷ log) =
    let law = since_step Reason Lasts act log in
    same_test (both_test (lasts_test act log) (either_test (reason_test act log) (request_test log))) (law.1, law.0)

raised_test : (act : InstrumentAct) (log : List InstrumentAct) → Test (IsRaised (act ∷ log))
raised_test act log = both_test (request_test (act ∷ log)) (not_test (request_test log))

-- ---- the status byte of a serial poll

polled_by : (log : List InstrumentAct) (word : ℕ) (is : Bool) → ((k : ℕ) → (bit_at word k ≡ 1) ↔ SummaryBit k log)
    → (is ≡ true) ↔ Request log → (polled : ℕ) × ((k : ℕ) → (bit_at polled k ≡ 1) ↔ PolledBit k log)
polled_by log word true bits same = (
  bit_or word 64,
  λ k.
      let either = bit_of_or word 64 k in (
        (λ e. elim (either.0 e) [ inl h ↦ inl ((bits k).0 h) | inr h ↦ inr ((six_alone k).0 h, same.0 refl) ]),
        (λ s. elim s [ inl h ↦ either.1 (inl ((bits k).1 h)) | inr h ↦ either.1 (inr ((six_alone k).1 h.0)) ]),
      ),
)
polled_by log word false bits same = (
  word,
  λ k. (
    (λ e. inl ((bits k).0 e)),
    (λ s. elim s [ inl h ↦ (bits k).1 h | inr h ↦ absurd (let z : false ≡ true = same.1 h.1 in cc) ]),
  ),
)

pub polled_byte_exists : (acts : List DeviceAct) → (polled : ℕ) × IsPolled polled acts
polled_byte_exists acts =
    let log = instrument_acts acts in
    let summary = summary_word log in
    let request = request_test log in
    polled_by log summary.0 request.0 summary.1 request.1

-- ---- the acts of the interrupt channels

pub channel_log_exists : (acts : List DeviceAct) → (channel_log : List ChannelAct) × HearsOf acts channel_log
channel_log_exists [] = ([], refl)
channel_log_exists (Channel act ∷ acts) = let before = channel_log_exists acts in (act ∷ before.0, (before.0, before.1, refl))
channel_log_exists (Linked act ∷ acts) = let before = channel_log_exists acts in (link_told act before.0, (before.0, before.1, refl))
channel_log_exists (Applied act ∷ acts) =
    let before = channel_log_exists acts in
    let raised = raised_test act (instrument_acts acts) in
    (request_told raised.0 before.0, (before.0, raised.0, before.1, raised.1, refl))
channel_log_exists (Waited act ∷ acts) = channel_log_exists acts
channel_log_exists (Ticked ∷ acts) = channel_log_exists acts
