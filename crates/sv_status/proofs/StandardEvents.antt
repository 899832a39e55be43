-- The standard events after one more act: which are set, and that the stored words agree with the
-- acts.
use Rattle.std.proofs.Common.{◌≡◌, ℕ, List, [], ◌∷◌, refl, ap, ◌⊎◌, inl, inr, bit_or, arith}
use Rattle.std.specs.Prelude.{◌↔◌}
use Rattle.std.specs.Int.{bit_at}
use Rattle.std.proofs.lemmas.Bool.{cases_eq}
use Rattle.std.proofs.lemmas.Nat.Bits.{bit_at-pow_other}
use Rattle.sv_logs.proofs.Since.{since_empty, since_step, since_kept, since_same, since_not_kept}
use Rattle.sv_status.specs.declared.standard_event.StandardAct.{StandardAct}
use Rattle.sv_status.specs.declared.standard_event.StandardAct.TheVariants.{Occur, Read, SetEnable, Clear}
use Rattle.sv_status.specs.StandardEvent.{Latches, StandsFor, Stands, Occurs, NotCleared}
use Rattle.sv_status.proofs.Words.{zero_has_no_bit, bit_of_or}

-- ---- which events are set

-- At first, only power on (bit 7) is set.
pub stands_none : (k : ℕ) → Stands k [] ↔ (k ≡ 7)
stands_none k = let law = since_empty (Occurs k) NotCleared in ((λ s. (law.0 s).0), (λ e. law.1 (e, tt)))

-- Events that occur are set, and all others stay.
pub stands_occurred : (k bits : ℕ) (acts : List StandardAct) → Stands k (Occur bits ∷ acts) ↔ ((bit_at bits k ≡ 1) ⊎ Stands k acts)
stands_occurred k bits acts = since_kept (Occurs k) NotCleared (Occur bits) acts tt

pub stands_enable : (k word : ℕ) (acts : List StandardAct) → Stands k (SetEnable word ∷ acts) ↔ Stands k acts
stands_enable k word acts = since_same (Occurs k) NotCleared (SetEnable word) acts tt (λ none. none)

-- Reading or clearing the register clears all events.
pub stands_read : (k : ℕ) (acts : List StandardAct) → Stands k (Read ∷ acts) → ⊥
stands_read k acts = since_not_kept (Occurs k) NotCleared Read acts (λ kept. kept)

pub stands_cleared : (k : ℕ) (acts : List StandardAct) → Stands k (Clear ∷ acts) → ⊥
stands_cleared k acts = since_not_kept (Occurs k) NotCleared Clear acts (λ kept. kept)

-- ---- the state of the register

-- Power on alone.
power_on : (k : ℕ) → (bit_at 128 k ≡ 1) ↔ Stands k []
power_on k =
    let law = since_empty (Occurs k) NotCleared in (
      (λ h. elim (cases_eq k 7) [ inl e ↦ law.1 (e, tt) | inr ne ↦ absurd (let none = bit_at-pow_other 7 k ne in omega arith) ]),
      (λ s. ap (bit_at 128) (law.0 s).0),
    )

pub stands_for_new : StandsFor (record { event = 128; enable = 0 }) []
stands_for_new = record { enable = refl; event = power_on }

pub stands_for_occurred : (latches : Latches) (acts : List StandardAct) (bits : ℕ) → StandsFor latches acts
    → StandsFor (record latches { event = bit_or latches.event bits }) (Occur bits ∷ acts)
stands_for_occurred latches acts bits is = record {
  enable = is.enable;
  event = λ k.
      let bit = bit_of_or latches.event bits k in
      let law = since_step (Occurs k) NotCleared (Occur bits) acts in (
        (λ h. law.1 (tt, elim (bit.0 h) [ inl event ↦ inr ((is.event k).0 event) | inr occurs ↦ inl occurs ])),
        (λ s. bit.1 (elim (law.0 s).1 [ inl occurs ↦ inr occurs | inr before ↦ inl ((is.event k).1 before) ])),
      );
}

pub stands_for_enable : (latches : Latches) (acts : List StandardAct) (word : ℕ) → StandsFor latches acts
    → StandsFor (record latches { enable = word }) (SetEnable word ∷ acts)
stands_for_enable latches acts word is = record {
  enable = refl;
  event = λ k.
      let law = since_step (Occurs k) NotCleared (SetEnable word) acts in
      ((λ h. law.1 (tt, inr ((is.event k).0 h))), (λ s. elim (law.0 s).1 [ inl none ↦ absurd none | inr before ↦ (is.event k).1 before ]));
}

-- The register is read or cleared.
pub stands_for_read : (latches : Latches) (acts : List StandardAct) → StandsFor latches acts
    → StandsFor (record latches { event = 0 }) (Read ∷ acts)
stands_for_read latches acts is =
    record { enable = is.enable; event = λ k. zero_has_no_bit k (Stands k (Read ∷ acts)) (stands_read k acts) }

pub stands_for_cleared : (latches : Latches) (acts : List StandardAct) → StandsFor latches acts
    → StandsFor (record latches { event = 0 }) (Clear ∷ acts)
stands_for_cleared latches acts is =
    record { enable = is.enable; event = λ k. zero_has_no_bit k (Stands k (Clear ∷ acts)) (stands_cleared k acts) }
