-- The status byte after one more act: whether service is requested, whether this request is new,
-- and that the stored bits agree with the acts.
use Rattle.std.proofs.Common.{◌≡◌, ◌≢◌, ◌⊎◌, ℕ, Bool, true, false, ◌&&◌, ◌||◌, eqb, List, [], ◌∷◌, refl, ap, ◌∙◌, sym, inl, inr, bit_and, bit_or, ◌<◌, arith}
use Rattle.std.specs.Prelude.{◌↔◌, not, bit_xor}
use Rattle.std.specs.Int.{bit_at}
use Rattle.std.proofs.lemmas.Bool.{and_from, and_parts, false_from_ne_true, not_from_false, or_cases, or_left, or_right, cases_eq}
use Rattle.std.proofs.lemmas.Nat.Bits.{bit_at-lt, bit_at-pow_other}
use Rattle.sv_logs.proofs.Since.{since_empty, since_step, since_not_kept}
use Rattle.sv_status.specs.declared.status_byte.StatusAct.{StatusAct}
use Rattle.sv_status.specs.declared.status_byte.StatusAct.TheVariants.{Update, Poll}
use Rattle.sv_status.specs.StatusByte.{Latches, StandsFor, ServiceRequested, ServiceRequestedAt, Master, Reason, Lasts, Request, IsRaised, StatusBit, MasterBit, bits, enable}
use Rattle.sv_status.proofs.Words.{not_zero, bit_rises, bit_of_or, without_six}

-- ---- whether a request for service is pending

pub request_none : Request [] → ⊥
request_none stands = ((since_empty Reason Lasts).0 stands).0

-- After an update, a request is pending if the master summary is set and either a reason arises or
-- one was pending.
pub request_updated : (word mask : ℕ) (acts : List StatusAct) → Request (Update word mask ∷ acts)
    ↔ (Master (Update word mask ∷ acts) × (Reason (Update word mask ∷ acts) ⊎ Request acts))
request_updated word mask acts = since_step Reason Lasts (Update word mask) acts

pub request_polled : (acts : List StatusAct) → Request (Poll ∷ acts) → ⊥
request_polled acts = since_not_kept Reason Lasts Poll acts (λ lasts. lasts)

-- ---- whether a request is raised

-- An update raises a request if a reason arises and none was pending.
pub raised_updated : (word mask : ℕ) (acts : List StatusAct)
    → IsRaised (Update word mask ∷ acts) ↔ (Reason (Update word mask ∷ acts) × (Request acts → ⊥))
raised_updated word mask acts =
    let law = request_updated word mask acts in (
      (λ raised. (elim (law.0 raised.0).1 [ inl r ↦ r | inr stood ↦ absurd (raised.1 stood) ], raised.1)),
      (λ h. let r = h.0 in (law.1 ((r.0, r.1), inl r), h.1)),
    )

-- ---- the state of the status byte

-- The word has exactly the summary bits that are set and enabled.
abbrev pub HasEnabledBits : ℕ → ℕ → ℕ → Type 0
HasEnabledBits word bits enable = (k : ℕ) → (bit_at word k ≡ 1) ↔ ServiceRequested k bits enable

-- The master summary is set exactly if this word isn't 0.
pub master_is : (word : ℕ) (latches : Latches) (acts : List StatusAct) → StandsFor latches acts
    → HasEnabledBits word latches.bits latches.enable → (not (eqb word 0) ≡ true) ↔ Master acts
master_is word latches acts is asks =
    let zero = not_zero word in
    let to : (k : ℕ) → ServiceRequested k latches.bits latches.enable → ServiceRequestedAt k acts = λ k h. rw (is.bits, is.enable) at h in
    let from : (k : ℕ) → ServiceRequestedAt k acts → ServiceRequested k latches.bits latches.enable = λ k h. rw (is.bits, is.enable) h in (
      (λ h. let some = zero.0 h in (some.0, to some.0 ((asks some.0).0 some.1))),
      (λ m. zero.1 (m.0, (asks m.0).1 (from m.0 m.1))),
    )

pub zero_bit : (w k : ℕ) → (bit_at w k ≡ 1 → ⊥) → bit_at w k ≡ 0
zero_bit w k none = elim (cases_eq (bit_at w k) 1) [ inl one ↦ absurd (none one) | inr other ↦ (let lt = bit_at-lt w k in omega arith) ]

-- A reason arises exactly if a bit is set in the new word that isn't in the old one.
reason_is : (before now : ℕ) (latches : Latches) (acts : List StatusAct) (word mask : ℕ) → StandsFor latches acts
    → HasEnabledBits before latches.bits latches.enable → HasEnabledBits now word mask
    → (not (eqb (bit_and (bit_xor before now) now) 0) ≡ true) ↔ Reason (Update word mask ∷ acts)
reason_is before now latches acts word mask is was asks =
    let zero = not_zero (bit_and (bit_xor before now) now) in (
      (λ h.
          let some = zero.0 h in
          let r = (bit_rises before now some.0).0 some.1 in
          (some.0, (asks some.0).0 r.1, λ old. let one = (was some.0).1 (rw (is.bits, is.enable) old) in absurd (omega arith))),
      (λ m. zero.1 (
        m.0,
        (bit_rises before now m.0).1 (
          zero_bit before m.0 (λ one. m.2 (rw (is.bits, is.enable) at ((was m.0).0 one))),
          (asks m.0).1 m.1,
        ),
      )),
    )

-- Whether a request is pending after an update, computed from both words.
request_is : (before now : ℕ) (latches : Latches) (acts : List StatusAct) (word mask : ℕ) → StandsFor latches acts
    → HasEnabledBits before latches.bits latches.enable → HasEnabledBits now word mask
    → (((not (eqb (bit_and (bit_xor before now) now) 0) || latches.request) && not (eqb now 0)) ≡ true) ↔ Request (Update word mask ∷ acts)
request_is before now latches acts word mask is was asks =
    let law = request_updated word mask acts in
    let reason = reason_is before now latches acts word mask is was asks in
    let zero = not_zero now in (
      (λ h.
          let both = and_parts (not (eqb (bit_and (bit_xor before now) now) 0) || latches.request) (not (eqb now 0)) h in
          let some = zero.0 both.1 in
          law.1 (
            (some.0, (asks some.0).0 some.1),
            elim (or_cases (not (eqb (bit_and (bit_xor before now) now) 0)) latches.request both.0) [
              | inl r ↦ inl (reason.0 r)
              | inr stood ↦
                  inr (is.request.0 stood)
            ],
          )),
      (λ s.
          let parts = law.0 s in
          and_from (not (eqb (bit_and (bit_xor before now) now) 0) || latches.request) (not (eqb now 0))
          (elim parts.1 [
            | inl r ↦ or_left _ latches.request (reason.1 r)
            | inr stood ↦
                or_right (not (eqb (bit_and (bit_xor before now) now) 0)) _ (is.request.1 stood)
          ])
          (zero.1 (parts.0.0, (asks parts.0.0).1 parts.0.1))),
    )

-- Whether an update raises a request, computed from both words.
pub raised_is : (before now : ℕ) (latches : Latches) (acts : List StatusAct) (word mask : ℕ) → StandsFor latches acts
    → HasEnabledBits before latches.bits latches.enable → HasEnabledBits now word mask
    → ((not (eqb (bit_and (bit_xor before now) now) 0) && not latches.request) ≡ true) ↔ IsRaised (Update word mask ∷ acts)
raised_is before now latches acts word mask is was asks =
    let law = raised_updated word mask acts in
    let reason = reason_is before now latches acts word mask is was asks in (
      (λ h.
          let both = and_parts (not (eqb (bit_and (bit_xor before now) now) 0)) (not latches.request) h in
          law.1 (reason.0 both.0, λ stood. let one = is.request.1 stood in absurd (cc))),
      (λ s.
          let parts = law.0 s in
          and_from (not (eqb (bit_and (bit_xor before now) now) 0)) (not latches.request) (reason.1 parts.0)
          (not_from_false latches.request (false_from_ne_true latches.request (λ one. parts.1 (is.request.0 one))))),
    )

-- The summary bits and the enable are updated.
pub stands_for_updated : (before now : ℕ) (latches : Latches) (acts : List StatusAct) (word mask : ℕ) → StandsFor latches acts
    → HasEnabledBits before latches.bits latches.enable → HasEnabledBits now word mask → StandsFor (record {
      bits = word;
      enable = mask;
      request =
          (not (eqb (bit_and (bit_xor before now) now) 0) || latches.request) && not (eqb now 0);
    }) (Update word mask ∷ acts)
stands_for_updated before now latches acts word mask is was asks =
    record { bits = refl; enable = refl; request = request_is before now latches acts word mask is was asks }

-- ---- the status byte as it is returned

-- These bits, with bit 6 set to the flag.
abbrev pub with_bit_six : Bool → ℕ → ℕ
with_bit_six true word = bit_or (bit_and word 191) 64
with_bit_six false word = bit_and word 191

-- A bit of the status byte, where bit 6 stands for `P`.
abbrev pub ShowsBit : ℕ → ℕ → Type 0 → Type 0
ShowsBit k word P = ((k ≢ 6) × (bit_at word k ≡ 1)) ⊎ ((k ≡ 6) × P)

pub six_alone : (k : ℕ) → (bit_at 64 k ≡ 1) ↔ (k ≡ 6)
six_alone k = (
  (λ h. elim (cases_eq k 6) [ inl e ↦ e | inr ne ↦ absurd (let none = bit_at-pow_other 6 k ne in omega arith) ]),
  (λ e. ap (bit_at 64) e),
)

pub shown_bit : (stands : Bool) (word k : ℕ) → word < 256 → (bit_at (with_bit_six stands word) k ≡ 1) ↔ ShowsBit k word (stands ≡ true)
shown_bit true word k fits =
    let without = without_six word k fits in
    let either = bit_of_or (bit_and word 191) 64 k in
    let six = six_alone k in (
      (λ h. elim (either.0 h) [ inl other ↦ inl (without.0 other) | inr status_log ↦ inr (six.0 status_log, refl) ]),
      (λ s. elim s [ inl other ↦ either.1 (inl (without.1 other)) | inr status_log ↦ either.1 (inr (six.1 status_log.0)) ]),
    )
shown_bit false word k fits =
    let without = without_six word k fits in (
      (λ h. inl (without.0 h)),
      (λ s. elim s [ inl other ↦ without.1 other | inr status_log ↦ absurd (let one = status_log.1 in cc) ]),
    )

same_shown : (k word found : ℕ) (P Q : Type 0) → word ≡ found → P ↔ Q → ShowsBit k word P ↔ ShowsBit k found Q
same_shown k word found P Q e same = (
  (λ s. elim s [
    | inl other ↦ inl (other.0, ap (λ (w : ℕ). bit_at w k) (sym e) ∙ other.1)
    | inr status_log ↦ inr (status_log.0, same.0 status_log.1)
  ]),
  (λ s. elim s [
    | inl other ↦ inl (other.0, ap (λ (w : ℕ). bit_at w k) e ∙ other.1)
    | inr status_log ↦ inr (status_log.0, same.1 status_log.1)
  ]),
)

-- The status byte that a serial poll returns.
pub polled_bit : (latches : Latches) (acts : List StatusAct) (k : ℕ) → StandsFor latches acts
    → ShowsBit k latches.bits (latches.request ≡ true) ↔ StatusBit k acts
polled_bit latches acts k is = same_shown k latches.bits (bits acts) (latches.request ≡ true) (Request acts) is.bits is.request

-- The status byte that `*STB?` returns.
pub master_bit : (latches : Latches) (acts : List StatusAct) (k : ℕ) (master : Bool) → StandsFor latches acts
    → (master ≡ true) ↔ Master acts → ShowsBit k latches.bits (master ≡ true) ↔ MasterBit k acts
master_bit latches acts k master is same = same_shown k latches.bits (bits acts) (master ≡ true) (Master acts) is.bits same
