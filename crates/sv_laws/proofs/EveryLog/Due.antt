-- Either no deadline of a suspended call has come, or one of the calls whose deadline has come is
-- the oldest. The number of suspended calls falls when a call leaves the queue.
use Rattle.std.proofs.Common.{◌≡◌, ℕ, zero, suc, ◌+◌, ◌<◌, ◌≤◌, Bool, true, false, cond, eqb, ltb, List, ◌∷◌, Option, Some, None, refl, sym, ap, subst, ◌∙◌, inl, inr, eq-eqb, arith}
use Rattle.std.specs.Prelude.{is_some, ◌&&◌}
use Rattle.std.proofs.lemmas.Bool.{cases_Bool, cases_eq, ne_eqb, leb-true, le-leb, ltb-true, ltb-false}
use Rattle.sv_links.specs.declared.waiting.Wait.{Wait}
use Rattle.sv_links.specs.Waiting.{WaitAct, Left, waits, deadline, arrival, IsExpired, IsOldest}
use Rattle.sv_links.specs.Queue.{is_past}
use Rattle.sv_history.specs.Act.{DeviceAct, wait_acts}
use Rattle.sv_laws.proofs.EveryLog.Fit.{AllSuit}
use Rattle.sv_laws.proofs.EveryLog.Known.{suspended_below_16}
use Rattle.sv_laws.proofs.Facts.{true_is_not_false}

-- ---- the oldest suspended call whose deadline has come

abbrev is_due : ℕ → List WaitAct → ℕ → Bool
is_due clock acts d = is_some (waits d acts) && is_past clock (deadline d acts)

due_by : (clock d : ℕ) (acts : List WaitAct) (wait : Option Wait) (last : Option ℕ) → waits d acts ≡ wait → deadline d acts ≡ last
    → (is_some wait && is_past clock last) ≡ true → IsExpired clock acts d
due_by clock d acts (Some wait) (Some last) for until e = (wait, last, for, until, leb-true last clock e)
due_by clock d acts (Some wait) None for until e = absurd cc
due_by clock d acts None last for until e = absurd cc

due_expired : (clock d : ℕ) (acts : List WaitAct) → is_due clock acts d ≡ true → IsExpired clock acts d
due_expired clock d acts e = due_by clock d acts (waits d acts) (deadline d acts) refl refl e

expired_due : (clock d : ℕ) (acts : List WaitAct) → IsExpired clock acts d → is_due clock acts d ≡ true
expired_due clock d acts (wait, last, for, until, le) = rw (for, until) (le-leb last clock le)

-- If connection `d` passes the test, its call was suspended no earlier than that of connection `c`.
abbrev pub IsNoLater : List WaitAct → (ℕ → Bool) → ℕ → ℕ → Type 0
IsNoLater acts test c d = test d ≡ true → arrival c acts ≤ arrival d acts

-- Of the connections below `n` that pass the test, the one whose call was suspended first; `None`
-- if none passes.
abbrev pub Least : List WaitAct → (ℕ → Bool) → ℕ → Option ℕ → Type 0
Least acts test n None = (d : ℕ) → d < n → test d ≡ false
Least acts test n (Some c) = (test c ≡ true) × ((d : ℕ) → d < n → IsNoLater acts test c d)

below_successor : (IsSo : ℕ → Type 0) (n : ℕ) → IsSo n → ((d : ℕ) → d < n → IsSo d) → (d : ℕ) → d < suc n → IsSo d
below_successor IsSo n now before d lt =
    elim (cases_eq d n) [ inl e ↦ subst IsSo (sym e) now | inr ne ↦ before d (omega (arith, lt, ne)) ]

least_more : (acts : List WaitAct) (test : ℕ → Bool) (n : ℕ) (found : Option ℕ) → Least acts test n found
    → (next : Option ℕ) × Least acts test (suc n) next
least_more acts test n None h = elim (cases_Bool (test n)) [
  | inl e ↦ (
    Some n,
    (
      e,
      below_successor (IsNoLater acts test n) n (λ is. omega arith)
          (λ d less is. true_is_not_false (test d) is (h d less)),
    ),
  )
  | inr e ↦ (None, below_successor (λ d. test d ≡ false) n e h)
]
least_more acts test n (Some c) h = elim (cases_Bool (test n)) [
  | inl e ↦ elim (cases_Bool (ltb (arrival n acts) (arrival c acts))) [
    | inl k ↦
        let first = ltb-true (arrival n acts) (arrival c acts) k in
        let behind : (d : ℕ) → d < n → IsNoLater acts test n d = λ d less is. let le = h.1 d less is in omega (arith, le, first) in
        (Some n, (e, below_successor (IsNoLater acts test n) n (λ is. omega arith) behind))
    | inr k ↦ (Some c, (h.0, below_successor (IsNoLater acts test c) n (λ is. ltb-false (arrival n acts) (arrival c acts) k) h.1))
  ]
  | inr e ↦ (Some c, (h.0, below_successor (IsNoLater acts test c) n (λ is. true_is_not_false (test n) is e) h.1))
]

pub least_exists : (acts : List WaitAct) (test : ℕ → Bool) (n : ℕ) → (found : Option ℕ) × Least acts test n found
least_exists acts test zero = (None, (λ d lt. absurd (omega (arith, lt))))
least_exists acts test (suc n) = let before = least_exists acts test n in least_more acts test n before.0 before.1

oldest_by : (clock : ℕ) (acts : List WaitAct) → ((d : ℕ) (wait : Wait) → waits d acts ≡ Some wait → d < 16) → (found : Option ℕ)
    → Least acts (is_due clock acts) 16 found → IsOldest acts (IsExpired clock acts) found
oldest_by clock acts within None h = λ d such.
    true_is_not_false (is_due clock acts d) (expired_due clock d acts such) (h d (within d such.0 such.2))
oldest_by clock acts within (Some c) h =
    (due_expired clock c acts h.0, (λ d such. h.1 d (within d such.0 such.2) (expired_due clock d acts such)))

pub oldest_expired_exists : (clock : ℕ) (acts : List DeviceAct) → AllSuit acts
    → (found : Option ℕ) × IsOldest (wait_acts acts) (IsExpired clock (wait_acts acts)) found
oldest_expired_exists clock acts all =
    let first = least_exists (wait_acts acts) (is_due clock (wait_acts acts)) 16 in
    (first.0, oldest_by clock (wait_acts acts) (suspended_below_16 acts all) first.0 first.1)

-- ---- how many connections below `n` have a suspended call

abbrev pub suspended_below : List WaitAct → ℕ → ℕ
suspended_below acts zero = 0
suspended_below acts (suc n) = cond (is_some (waits n acts)) (suspended_below acts n + 1) (suspended_below acts n)

count_more : (b : Bool) (m n : ℕ) → m ≤ n → m ≤ cond b (n + 1) n
count_more true m n le = omega (arith, le)
count_more false m n le = le

count_both : (b : Bool) (m n : ℕ) → m ≤ n → cond b (m + 1) m ≤ cond b (n + 1) n
count_both true m n le = omega (arith, le)
count_both false m n le = le

count_less : (b : Bool) (m n : ℕ) → m < n → cond b (m + 1) m < cond b (n + 1) n
count_less true m n lt = omega (arith, lt)
count_less false m n lt = lt

leaving_never_raises_count : (d n : ℕ) (acts : List WaitAct) → suspended_below (Left d ∷ acts) n ≤ suspended_below acts n
leaving_never_raises_count d zero acts = omega arith
leaving_never_raises_count d (suc n) acts = elim (cases_Bool (eqb d n)) [
  | inl e ↦ rw e (count_more (is_some (waits n acts)) (suspended_below (Left d ∷ acts) n) (suspended_below acts n)
      (leaving_never_raises_count d n acts))
  | inr e ↦ rw e (count_both (is_some (waits n acts)) (suspended_below (Left d ∷ acts) n) (suspended_below acts n)
      (leaving_never_raises_count d n acts))
]

pub leaving_lowers_count : (d n : ℕ) (acts : List WaitAct) (wait : Wait) → d < n → waits d acts ≡ Some wait
    → suspended_below (Left d ∷ acts) n < suspended_below acts n
leaving_lowers_count d zero acts wait lt for = absurd (omega (arith, lt))
leaving_lowers_count d (suc n) acts wait lt for = elim (cases_eq d n) [
  | inl same ↦
      let there : is_some (waits n acts) ≡ true = ap is_some (ap (λ (m : ℕ). waits m acts) (sym same) ∙ for) in
      let le = leaving_never_raises_count d n acts in
      rw (eq-eqb d n same, there) (omega (arith, le))
  | inr ne ↦ rw (ne_eqb d n ne) (count_less (is_some (waits n acts)) (suspended_below (Left d ∷ acts) n) (suspended_below acts n)
      (leaving_lowers_count d n acts wait (omega (arith, lt, ne)) for))
]
