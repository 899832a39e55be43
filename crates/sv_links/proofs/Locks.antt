-- Which link holds the lock after each act: lock, unlock, destroy_link.
use Rattle.std.proofs.Common.{◌≡◌, ℕ, Bool, true, false, eqb, cond, List, [], ◌∷◌, Option, Some, None, refl, sym, ap, ◌∙◌, inl, inr, eq-eqb, ◌⊎◌}
use Rattle.std.specs.Prelude.{not, find}
use Rattle.std.specs.Option.{option_eq}
use Rattle.std.proofs.lemmas.Bool.{cases_Bool, eqb-true, eqb-false, ne_eqb, true≢false, false≢true, not-true, not-false, and_parts}
use Rattle.sv_links.specs.Links.{LinkAct, Made, Destroyed, Locked, Unlocked, lock_order, is_locked, holder, is_this, is_locked_out}
use Rattle.sv_links.specs.Table.{Table, IsTable}
use mathlib.Core.Bool.{not-not}

abbrev Among : ℕ → List ℕ → Type 0
Among lid [] = ⊥
Among lid (n ∷ ns) = (n ≡ lid) ⊎ Among lid ns

-- A link that is locked got the lock.
was_locked : (lid : ℕ) (acts : List LinkAct) → is_locked lid acts ≡ true → Among lid (lock_order acts)
was_locked lid [] e = absurd (false≢true e)
was_locked lid (Made other conn ∷ acts) e = was_locked lid acts e
was_locked lid (Destroyed other ∷ acts) e = was_locked lid acts (and_parts (not (eqb other lid)) (is_locked lid acts) e).1
was_locked lid (Unlocked other ∷ acts) e = was_locked lid acts (and_parts (not (eqb other lid)) (is_locked lid acts) e).1
was_locked lid (Locked other ∷ acts) e = elim (cases_Bool (eqb other lid)) [
  | inl k ↦ inl (eqb-true other lid k)
  | inr k ↦ inr (was_locked lid acts (rw k at e))
]

found_none : (test : ℕ → Bool) → ((n : ℕ) → test n ≡ false) → (ns : List ℕ) → find test ns ≡ None
found_none test all [] = refl
found_none test all (n ∷ ns) = rw (all n) (found_none test all ns)

found_one : (test : ℕ → Bool) (m : ℕ) → ((n : ℕ) → test n ≡ eqb m n) → (ns : List ℕ) → Among m ns → find test ns ≡ Some m
found_one test m all [] among = absurd among
found_one test m all (n ∷ ns) among = elim (cases_Bool (eqb m n)) [
  | inl e ↦ rw (all n, e) (ap Some (sym (eqb-true m n e)))
  | inr e ↦ rw (all n, e) (found_one test m all ns (elim among [ inl same ↦ absurd (eqb-false m n e (sym same)) | inr k ↦ k ]))
]

holder_from : (o : Option ℕ) (acts : List LinkAct) → ((lid : ℕ) → is_locked lid acts ≡ is_this lid o) → holder acts ≡ o
holder_from None acts h = found_none (λ lid. is_locked lid acts) h (lock_order acts)
holder_from (Some m) acts h =
    found_one (λ lid. is_locked lid acts) m h (lock_order acts) (was_locked m acts (h m ∙ eq-eqb m m refl))

pub holder_is : (table : Table) (acts : List LinkAct) → IsTable table acts → holder acts ≡ table.holder
holder_is table acts is = holder_from table.holder acts is.lock

-- The code's test whether a link may take the lock.
swap : (m n : ℕ) → eqb m n ≡ eqb n m
swap m n = elim (cases_Bool (eqb m n)) [
  | inl e ↦ rw e (sym (eq-eqb n m (sym (eqb-true m n e))))
  | inr e ↦ rw e (sym (ne_eqb n m (λ same. eqb-false m n e (sym same))))
]

pub own_number_not_locked_out : (m lid : ℕ) → eqb m lid ≡ not (is_locked_out (Some m) (Some lid))
own_number_not_locked_out m lid = swap m lid ∙ sym (not-not (eqb lid m))

-- ---- the lock after an act

pub lock_taken_when_free : (lid : ℕ) (acts : List LinkAct) → ((n : ℕ) → is_locked n acts ≡ false)
    → (n : ℕ) → is_locked n (Locked lid ∷ acts) ≡ is_this n (Some lid)
lock_taken_when_free lid acts h n = elim (cases_Bool (eqb lid n)) [ inl e ↦ rw e refl | inr e ↦ rw e (h n) ]

pub lock_taken_again : (lid : ℕ) (acts : List LinkAct) → ((n : ℕ) → is_locked n acts ≡ eqb lid n)
    → (n : ℕ) → is_locked n (Locked lid ∷ acts) ≡ is_this n (Some lid)
lock_taken_again lid acts h n = elim (cases_Bool (eqb lid n)) [ inl e ↦ rw e refl | inr e ↦ rw e (h n ∙ e) ]

pub lock_unlocked : (lid : ℕ) (acts : List LinkAct) → ((n : ℕ) → is_locked n acts ≡ eqb lid n)
    → (n : ℕ) → is_locked n (Unlocked lid ∷ acts) ≡ false
lock_unlocked lid acts h n = elim (cases_Bool (eqb lid n)) [ inl e ↦ rw e refl | inr e ↦ rw e (h n ∙ e) ]

-- The lock holder after a link is destroyed: none if it was this link.
abbrev pub holder_after_destroying : ℕ → Option ℕ → Option ℕ
holder_after_destroying lid None = None
holder_after_destroying lid (Some m) = cond (eqb m lid) None (Some m)

pub lock_destroyed : (lid : ℕ) (o : Option ℕ) (acts : List LinkAct) → ((n : ℕ) → is_locked n acts ≡ is_this n o)
    → (n : ℕ) → is_locked n (Destroyed lid ∷ acts) ≡ is_this n (holder_after_destroying lid o)
lock_destroyed lid None acts h n = elim (cases_Bool (eqb lid n)) [ inl e ↦ rw e refl | inr e ↦ rw e (h n) ]
lock_destroyed lid (Some m) acts h n = elim (cases_Bool (eqb m lid)) [
  | inl k ↦ elim (cases_Bool (eqb lid n)) [
    | inl e ↦ rw (k, e) refl
    | inr e ↦ rw (k, e) (h n ∙ rw (eqb-true m lid k) e)
  ]
  | inr k ↦ elim (cases_Bool (eqb lid n)) [
    | inl e ↦ rw (k, e) (sym (rw (← eqb-true lid n e) k))
    | inr e ↦ rw (k, e) (h n)
  ]
]

-- The code's test whether a link holds the lock.
this_is : (lid : ℕ) (o : Option ℕ) → option_eq eqb o (Some lid) ≡ is_this lid o
this_is lid None = refl
this_is lid (Some m) = refl

pub other_link_holds : (lid : ℕ) (o : Option ℕ) (r : Bool) → r ≡ not (option_eq eqb o (Some lid)) → r ≡ true → false ≡ is_this lid o
other_link_holds lid o r told e = sym (not-true (option_eq eqb o (Some lid)) (sym told ∙ e)) ∙ this_is lid o

pub this_link_holds : (lid : ℕ) (o : Option ℕ) (r : Bool) → r ≡ not (option_eq eqb o (Some lid)) → r ≡ false → true ≡ is_this lid o
this_link_holds lid o r told e = sym (not-false (option_eq eqb o (Some lid)) (sym told ∙ e)) ∙ this_is lid o

pub holder_is_this_link : (lid : ℕ) (o : Option ℕ) → true ≡ is_this lid o → o ≡ Some lid
holder_is_this_link lid None e = absurd (true≢false e)
holder_is_this_link lid (Some m) e = ap Some (eqb-true m lid (sym e))

pub is_table_unlocked : (table : Table) (lid : ℕ) (acts : List LinkAct) → true ≡ is_this lid table.holder → IsTable table acts
    → IsTable (record table { holder = None }) (Unlocked lid ∷ acts)
is_table_unlocked table lid acts holds is = record {
  made = is.made;
  kept = is.kept;
  rising = is.rising;
  lock = lock_unlocked lid acts (λ n. is.lock n ∙ ap (is_this n) (holder_is_this_link lid table.holder holds));
}

pub is_table_locked : (table : Table) (lid : ℕ) (acts : List LinkAct) → table.holder ≡ None → IsTable table acts
    → IsTable (record table { holder = Some lid }) (Locked lid ∷ acts)
is_table_locked table lid acts none is = record {
  made = is.made;
  kept = is.kept;
  rising = is.rising;
  lock = lock_taken_when_free lid acts (λ n. is.lock n ∙ ap (is_this n) none);
}

pub is_table_locked_again : (table : Table) (lid : ℕ) (acts : List LinkAct) → table.holder ≡ Some lid → IsTable table acts
    → IsTable table (Locked lid ∷ acts)
is_table_locked_again table lid acts holds is = record {
  made = is.made;
  kept = is.kept;
  rising = is.rising;
  lock = λ n. lock_taken_again lid acts (λ n. is.lock n ∙ ap (is_this n) holds) n ∙ ap (is_this n) (sym holds);
}
