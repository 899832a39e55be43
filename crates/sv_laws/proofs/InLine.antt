-- Suspended calls are queued in the order in which they were taken.
use Rattle.std.proofs.Common.{◌≡◌, ◌≢◌, ℕ, ◌≤◌, true, eqb, List, [], ◌∷◌, length, Option, Some, None, refl, sym, ap, subst, ◌∙◌, inl, inr, eq-eqb, arith}
use Rattle.std.proofs.lemmas.Bool.{cases_Bool, cases_eq, ne_eqb}
use Rattle.sv_logs.specs.Since.{newest}
use Rattle.sv_links.specs.declared.waiting.Wait.{Wait}
use Rattle.sv_links.specs.declared.waiting.Wait.TheVariants.{Lock}
use Rattle.sv_links.specs.Waiting.{WaitAct, Entered, Again, Left, waits, arrival, enters}
use Rattle.sv_history.specs.Act.{Act, CallTaken, Waited, On, OnDevice, device_acts, wait_acts}
use Rattle.sv_laws.specs.LockFair.{IsFirst, is_later}
use Rattle.sv_laws.proofs.Facts.{none_is_not_some}
use Rattle.sv_laws.proofs.Placed.{AllPlaced}
use Rattle.sv_laws.proofs.EveryLog.Keeps.{IsEarliest}
use Rattle.sv_laws.proofs.EveryLog.Known.{mapped_was_some}
use Rattle.sv_links.proofs.Queues.{newest_le}

-- ---- when a call was suspended

-- A call that was just suspended was suspended later than any other.
entered_call_is_newest : (c d : ℕ) (named : Option ℕ) (wait : Wait) (last : Option ℕ) (acts : List WaitAct) → d ≢ c
    → arrival c (Entered c named wait last ∷ acts) ≤ arrival d (Entered c named wait last ∷ acts) → ⊥
entered_call_is_newest c d named wait last acts ne le =
    let most = newest_le (enters d) acts in
    let less : length (Entered c named wait last ∷ acts) ≤ length (newest (enters d) acts) =
    rw (eq-eqb c c refl, ne_eqb c d (λ e. ne (sym e))) at le in
    omega (arith, most, less)

-- ---- suspended calls after an act

entered_other : (e c : ℕ) (named : Option ℕ) (wait : Wait) (last : Option ℕ) (acts : List WaitAct) → e ≢ c
    → (waits c (Entered e named wait last ∷ acts) ≡ waits c acts) × (arrival c (Entered e named wait last ∷ acts) ≡ arrival c acts)
entered_other e c named wait last acts ne = rw (ne_eqb e c ne) (refl, refl)

again_before : (e c : ℕ) (wait : Wait) (last : Option ℕ) (v : Wait) (acts : List WaitAct) → waits c (Again e wait last ∷ acts) ≡ Some v
    → (u : Wait) × (waits c acts ≡ Some u)
again_before e c wait last v acts is = elim (cases_Bool (eqb e c)) [
  | inl on ↦ mapped_was_some wait v (waits c acts) (rw on at is)
  | inr off ↦ (v, rw off at is)
]

left_before : (e c : ℕ) (v : Wait) (acts : List WaitAct) → waits c (Left e ∷ acts) ≡ Some v → waits c acts ≡ Some v
left_before e c v acts is = elim (cases_Bool (eqb e c)) [
  | inl on ↦ absurd (let z : None ≡ Some v = rw on at is in cc)
  | inr off ↦ rw off at is
]

-- ---- the order of suspension is the order in which the calls were taken

-- Which of two calls was taken later doesn't change when a call is taken on a third connection.
third_call_keeps_later : (e c d : ℕ) (bytes : List ℕ) (log : List Act) → e ≢ c → e ≢ d → is_later c d log ≡ true
    → is_later c d (On e (CallTaken bytes) ∷ log) ≡ true
third_call_keeps_later e c d bytes log off_c off_d later = rw (ne_eqb e d off_d, ne_eqb e c off_c) later

-- Of two suspended calls, the one that was suspended later was taken later.
pub suspended_later_taken_later : (log : List Act) (c d : ℕ) (v w : Wait) → AllPlaced log → c ≢ d
    → waits c (wait_acts (device_acts log)) ≡ Some v → waits d (wait_acts (device_acts log)) ≡ Some w
    → arrival c (wait_acts (device_acts log)) ≤ arrival d (wait_acts (device_acts log)) → is_later c d log ≡ true
suspended_later_taken_later [] c d v w all ne x y le = absurd cc
suspended_later_taken_later (On e (CallTaken bytes) ∷ log) c d v w all ne x y le =
    let idle : (n : ℕ) (u : Wait) → waits n (wait_acts (device_acts log)) ≡ Some u → e ≢ n = λ n u is same.
    none_is_not_some (waits n (wait_acts (device_acts log))) u (ap (λ (m : ℕ). waits m (wait_acts (device_acts log))) (sym same) ∙ all.0) is
    in
    third_call_keeps_later e c d bytes log (idle c v x) (idle d w y) (suspended_later_taken_later log c d v w all.1 ne x y le)
suspended_later_taken_later (OnDevice (Waited (Entered e named wait last)) ∷ log) c d v w all ne x y le = elim (cases_eq e d) [
  | inl same ↦
      let behind : is_later c d (On e (CallTaken all.0.0) ∷ all.0.1) ≡ true = rw (eq-eqb e d same) refl in
      ap (is_later c d) all.0.2 ∙ behind
  | inr off_d ↦ elim (cases_eq e c) [
    | inl same ↦
        let acts = wait_acts (device_acts log) in
        absurd (entered_call_is_newest c d named wait last acts (λ s. ne (sym s))
        (subst (λ (n : ℕ). arrival c (Entered n named wait last ∷ acts) ≤ arrival d (Entered n named wait last ∷ acts)) same le))
    | inr off_c ↦
        let acts = wait_acts (device_acts log) in
        let at_c = entered_other e c named wait last acts off_c in
        let at_d = entered_other e d named wait last acts off_d in
        suspended_later_taken_later log c d v w all.1 ne (sym at_c.0 ∙ x) (sym at_d.0 ∙ y) (rw (at_c.1, at_d.1) at le)
  ]
]
suspended_later_taken_later (OnDevice (Waited (Again e wait last)) ∷ log) c d v w all ne x y le =
    let acts = wait_acts (device_acts log) in
    let at_c = again_before e c wait last v acts x in
    let at_d = again_before e d wait last w acts y in
    suspended_later_taken_later log c d at_c.0 at_d.0 all.1 ne at_c.1 at_d.1 le
suspended_later_taken_later (OnDevice (Waited (Left e)) ∷ log) c d v w all ne x y le =
    let acts = wait_acts (device_acts log) in
    suspended_later_taken_later log c d v w all.1 ne (left_before e c v acts x) (left_before e d w acts y) le
suspended_later_taken_later (_ ∷ log) c d v w all ne x y le = suspended_later_taken_later log c d v w all.1 ne x y le

-- Of the calls that wait for the lock, the one that was suspended first was taken first.
pub earliest_is_first : (c : ℕ) (log : List Act) → AllPlaced log → IsEarliest c (device_acts log) → IsFirst c log
earliest_is_first c log all first = (
  first.0,
  λ d waits_too ne. suspended_later_taken_later log c d Lock Lock all (λ same. ne (sym same)) first.0 waits_too
      (first.1 d waits_too),
)
