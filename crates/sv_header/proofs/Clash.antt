-- No header fits two entries of the table of commands. This is computed for all pairs of entries.
use Rattle.std.proofs.Common.{◌≡◌, ℕ, zero, suc, ◌<◌, ◌&&◌, ◌||◌, ◌==◌, not, Bool, true, false, List, [], ◌∷◌, length, map, refl, sym, ap, ◌∙◌, subst, inl, inr, slice_index_or, arith, eq-eqb}
use Rattle.std.specs.List.{list_all}
use Rattle.std.specs.Char.{to_ascii_lowercase}
use Rattle.std.proofs.lemmas.Bool.{and_parts, or_left, or_right, cases_lt}
use Rattle.std.proofs.lemmas.List.{get_or_default}
use Rattle.sv_header.specs.Pattern.{Part, Row, Same, IsForm, Fits}
use Rattle.sv_header.specs.Table.{table}
use Rattle.sv_header.specs.Resolve.{FitsRow}
use Rattle.sv_header.specs.Laws.{OneCommand, OnePattern}
use Rattle.sv_header.proofs.Fitting.{holds_at_place}

both_tests_hold : (a b : Bool) → a ≡ true → b ≡ true → (elim a [ true ↦ b | false ↦ false ]) ≡ true
both_tests_hold true b h e = e
both_tests_hold false b h e = absurd cc

same_codes : List ℕ → List ℕ → Bool
same_codes [] [] = true
same_codes [] (b ∷ bs) = false
same_codes (a ∷ others) [] = false
same_codes (a ∷ others) (b ∷ bs) = elim (a == b) [ true ↦ same_codes others bs | false ↦ false ]

same_codes_refl : (xs : List ℕ) → same_codes xs xs ≡ true
unfolding same_codes
same_codes_refl [] = refl
same_codes_refl (x ∷ xs) = rw (eq-eqb x x refl, same_codes) (same_codes_refl xs)

-- Whether one mnemonic may be spelled as both forms, apart from upper and lower case.
shares_form : List ℕ → List ℕ → Bool
shares_form a b = same_codes (map to_ascii_lowercase a) (map to_ascii_lowercase b)

shares : Part → Part → Bool
shares p q = (shares_form p.short q.short || shares_form p.short q.long) || (shares_form p.long q.short || shares_form p.long q.long)

form_shared : (sent a b : List ℕ) → Same sent a → Same sent b → shares_form a b ≡ true
unfolding shares_form
form_shared sent a b f g = subst (λ x. same_codes (map to_ascii_lowercase a) x ≡ true) (sym f ∙ g)
    (same_codes_refl (map to_ascii_lowercase a))

is_shared : (sent : List ℕ) (p q : Part) → IsForm sent p → IsForm sent q → shares p q ≡ true
unfolding shares
is_shared sent p q (inl f) (inl g) = or_left _ _ (or_left _ _ (form_shared sent p.short q.short f g))
is_shared sent p q (inl f) (inr g) = or_left _ _ (or_right _ _ (form_shared sent p.short q.long f g))
is_shared sent p q (inr f) (inl g) = or_right _ _ (or_left _ _ (form_shared sent p.long q.short f g))
is_shared sent p q (inr f) (inr g) = or_right _ _ (or_right _ _ (form_shared sent p.long q.long f g))

-- Whether all nodes are optional.
all_absent : List Part → Bool
all_absent [] = true
all_absent (q ∷ qs) = elim q.optional [ true ↦ all_absent qs | false ↦ false ]

-- Whether the same mnemonics may fit two lists of nodes. One list begins with `p`, and `others`
-- tells this of the nodes after it.
clash_with : Part → (List Part → Bool) → List Part → Bool
clash_with p others [] = elim p.optional [ true ↦ others [] | false ↦ false ]
clash_with p others (q ∷ qs) =
    elim (shares p q) [ true ↦ others qs | false ↦ false ]
    || elim p.optional [ true ↦ others (q ∷ qs) | false ↦ false ]
    || elim q.optional [ true ↦ clash_with p others qs | false ↦ false ]

clash : List Part → List Part → Bool
clash [] qs = all_absent qs
clash (p ∷ ps) qs = clash_with p (clash ps) qs

absent_fit : (qs : List Part) → Fits [] qs → all_absent qs ≡ true
unfolding all_absent
absent_fit [] h = refl
absent_fit (q ∷ qs) (inl h) = absurd h
absent_fit (q ∷ qs) (inr h) = rw h.0 (absent_fit qs h.1)

clash_with_if_both_fit : (p : Part) (ps : List Part)
    → ((sent : List (List ℕ)) (qs : List Part) → Fits sent ps → Fits sent qs → clash ps qs ≡ true)
    → (sent : List (List ℕ)) (qs : List Part) → Fits sent (p ∷ ps) → Fits sent qs → clash_with p (clash ps) qs ≡ true
unfolding clash_with
clash_with_if_both_fit p ps others [] [] (inl f) g = absurd f
clash_with_if_both_fit p ps others (mnemonic ∷ sent) [] (inl f) g = absurd cc
clash_with_if_both_fit p ps others sent [] (inr f) g = rw f.0 (others sent [] f.1 g)
clash_with_if_both_fit p ps others sent (q ∷ qs) (inr f) g = or_left _ _
    (or_right _ _ (both_tests_hold p.optional (clash ps (q ∷ qs)) f.0 (others sent (q ∷ qs) f.1 g)))
clash_with_if_both_fit p ps others [] (q ∷ qs) (inl f) (inl g) = absurd f
clash_with_if_both_fit p ps others (mnemonic ∷ sent) (q ∷ qs) (inl f) (inl g) =
    or_left _ _ (or_left _ _ (both_tests_hold (shares p q) (clash ps qs) (is_shared mnemonic p q f.0 g.0) (others sent qs f.1 g.1)))
clash_with_if_both_fit p ps others sent (q ∷ qs) (inl f) (inr g) =
    or_right _ _ (both_tests_hold q.optional (clash_with p (clash ps) qs) g.0 (clash_with_if_both_fit p ps others sent qs (inl f) g.1))

-- Two lists of nodes clash if the same mnemonics fit both.
clash_if_both_fit : (ps : List Part) (sent : List (List ℕ)) (qs : List Part) → Fits sent ps → Fits sent qs → clash ps qs ≡ true
unfolding clash
clash_if_both_fit [] sent qs f g = absent_fit qs (subst (λ s. Fits s qs) f g)
clash_if_both_fit (p ∷ ps) sent qs f g = clash_with_if_both_fit p ps (clash_if_both_fit ps) sent qs f g

same_bools : Bool → Bool → Bool
same_bools true b = b
same_bools false b = not b

equal_bools_agree : (a b c : Bool) → a ≡ b → a ≡ c → same_bools b c ≡ true
unfolding same_bools
equal_bools_agree a true true f g = refl
equal_bools_agree a true false f g = absurd cc
equal_bools_agree a false true f g = absurd cc
equal_bools_agree a false false f g = refl

-- Whether one header may fit both rows.
rows_clash : Row → Row → Bool
rows_clash r s =
    elim (same_bools r.common s.common) [
      | true ↦ elim (same_bools r.query s.query) [ true ↦ clash r.parts s.parts | false ↦ false ]
      | false ↦ false
    ]

rows_clash_if_both_fit : (path : List (List ℕ)) (header : List ℕ) (r s : Row) → FitsRow path header r → FitsRow path header s
    → rows_clash r s ≡ true
unfolding rows_clash
rows_clash_if_both_fit path header r s f g =
    both_tests_hold _ _ (equal_bools_agree _ r.common s.common f.0 g.0)
    (both_tests_hold _ _ (equal_bools_agree _ r.query s.query f.1 g.1) (clash_if_both_fit r.parts _ s.parts f.2 g.2))

-- Whether no two rows of the list clash.
none_clash : List Row → Bool
none_clash [] = true
none_clash (r ∷ rows) = list_all (λ s. not (rows_clash r s)) rows && none_clash rows

table_rows_dont_clash : none_clash table ≡ true
unfolding none_clash rows_clash same_bools clash clash_with all_absent shares shares_form same_codes
table_rows_dont_clash = refl

-- A row that is tested against all later rows clashes with none of them.
first_clashes_with_none : (rows : List Row) (r s : Row) (k : ℕ) → list_all (λ t. not (rows_clash r t)) rows ≡ true → k < length rows
    → slice_index_or rows k s ≡ s → rows_clash r s ≡ true → ⊥
first_clashes_with_none rows r s k all lt e clashes =
    let a : not (rows_clash r s) ≡ true = holds_at_place (λ t. not (rows_clash r t)) rows k s all lt e in
    let b : not true ≡ true = ap not (sym clashes) ∙ a in
    cc

-- Rows at different places of the list don't clash.
places_dont_clash : (rows : List Row) (j k : ℕ) (r s : Row) → none_clash rows ≡ true → j < k → k < length rows → slice_index_or rows j r ≡ r
    → slice_index_or rows k s ≡ s → rows_clash r s ≡ true → ⊥
unfolding none_clash
places_dont_clash [] j k r s a lt in_bounds e f = absurd (omega arith)
places_dont_clash (row ∷ rows) j zero r s a lt in_bounds e f = absurd (omega arith)
places_dont_clash (row ∷ rows) zero (suc k) r s a lt in_bounds e f =
    subst (λ x. rows_clash x s ≡ true → ⊥) e (first_clashes_with_none rows row s k (and_parts _ _ a).0 (omega arith) f)
places_dont_clash (row ∷ rows) (suc j) (suc k) r s a lt in_bounds e f =
    places_dont_clash rows j k r s (and_parts _ _ a).1 (omega arith) (omega arith) e f

-- So a header fits at most one row of the table.
pub one_pattern : OnePattern
one_pattern path header r s a b f g =
    elim (cases_lt a.0 b.0) [
      | inl lt ↦ absurd (places_dont_clash table a.0 b.0 r s table_rows_dont_clash lt b.1 a.2 b.2
          (rows_clash_if_both_fit path header r s f g))
      | inr ge ↦
          elim (cases_lt b.0 a.0) [
            | inl lt ↦ absurd (places_dont_clash table b.0 a.0 s r table_rows_dont_clash lt a.1 b.2 a.2
                (rows_clash_if_both_fit path header s r g f))
            | inr le ↦
                let same_place : a.0 ≡ b.0 = omega arith in
                sym a.2 ∙ ap (λ k. slice_index_or table k r) same_place ∙ get_or_default table b.0 r s b.1 ∙ b.2
          ]
    ]

-- So a header names at most one command.
pub one_command : OneCommand
one_command path header first second a b =
    sym a.2 ∙ ap (λ row. row.command) (one_pattern path header a.0 b.0 a.1 b.1 a.3 b.3) ∙ b.2
