use Rattle.std.proofs.Common.{◌≡◌, ℕ, ◌+◌, ◌-◌, ◌<◌, ◌≤◌, Bool, false, List, [], ◌∷◌, length, take, drop, refl, sym, get_or, ap, ◌∙◌, arith}
use Rattle.std.proofs.lemmas.List.{take_rest, drop-drop}
use Rattle.sv_lexer.specs.Parameters.{cut_outside, first_size}
use Rattle.sv_lexer.proofs.Cuts.{cut_ended, cut_last}
use Rattle.sv_lexer.proofs.commas.first_outside.Goals as goal

-- The first part ends at a comma.
ends_at_comma : (text rest : List ℕ) (place : ℕ) → first_size false text ≡ place + first_size false rest → rest ≡ drop place text
    → place + length rest ≡ length text → get_or rest 0 0 ≡ 44 → 1 ≤ length rest
    → cut_outside [] text ≡ take place text ∷ cut_outside [] (take (length rest - 1) (drop 1 rest))
ends_at_comma text [] place size left within comma some = absurd (omega (arith, some))
ends_at_comma text (b ∷ rest) place size left within comma some =
    let here : first_size false (b ∷ rest) ≡ 0 = rw comma refl in
    let behind : drop (place + 1) text ≡ rest = sym (drop-drop 1 place text) ∙ ap (drop 1) (sym left) in
    let all : take (length (b ∷ rest) - 1) (drop 1 (b ∷ rest)) ≡ rest = take_rest (b ∷ rest) 1 in
    let first : place ≡ first_size false text = omega (arith, size, here) in
    let lt : place < length text = omega (arith, within, some) in
    rw (all, ← behind) (cut_ended [] text place first lt)

-- Without a comma, the first part is the whole text.
ends_with_text : (inside : Bool) (text rest : List ℕ) (place : ℕ) → first_size false text ≡ place + first_size inside rest
    → place + length rest ≡ length text → length rest < 1 → cut_outside [] text ≡ text ∷ []
ends_with_text inside text [] place size within none = cut_last [] text place (omega (arith, size)) (omega (arith, within))
ends_with_text inside text (b ∷ rest) place size within none = absurd (omega (arith, none))

pub returns-in-44-clause-parts : goal.returns-in-44-clause-parts
returns-in-44-clause-parts c =
    let size = rw c.if-not-inside.true at c.loop-rest.invariant.size in
    ends_at_comma _ _ _ size c.loop-rest.invariant.left c.loop-rest.invariant.within c.in-44.is c.in-len1-up.len_at_least

pub returns-clause-parts : goal.returns-clause-parts
returns-clause-parts c = ends_with_text _ _ _ _ c.loop-rest.invariant.size c.loop-rest.invariant.within c.in_default.len_below
