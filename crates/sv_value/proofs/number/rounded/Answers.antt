use Rattle.std.proofs.Common.{◌≡◌, ◌∙◌, ◌+◌, ◌-◌, ◌++◌, List, ℕ, ap, true, refl, length, arith}
use Rattle.std.specs.Char.{is_ascii_digit}
use Rattle.std.specs.List.{list_all}
use Rattle.std.specs.Prelude.{nat_le, if◌then◌else◌}
use Rattle.std.proofs.lemmas.List.{length-append}
use Rattle.std.proofs.lemmas.List.Folds.{list_all-append}
use Rattle.sv_value.proofs.Rounding.{nearest_is_zero, nearest_digits}
use Rattle.sv_value.proofs.Capped.{capped_rounding}
use Rattle.sv_value.proofs.number.rounded.Goals as goal

digits : (whole fraction : List ℕ) → list_all is_ascii_digit whole ≡ true → list_all is_ascii_digit fraction ≡ true
    → list_all is_ascii_digit (whole ++ fraction) ≡ true
digits whole fraction w f = list_all-append is_ascii_digit whole fraction ∙ rw (w, f) refl

pub returns-then-left_out-count : goal.returns-then-left_out-count
returns-then-left_out-count c =
    let all = digits c.args.whole.now c.args.fraction.now c.requires.whole c.requires.fraction in
    let size = length-append c.args.whole.now c.args.fraction.now in
    rw (nearest_is_zero (c.args.whole.now ++ c.args.fraction.now) c.args.left_out all (omega (arith, size, c.if-left_out-count.true))) refl

pub returns : goal.returns
returns c =
    let all = digits c.args.whole.now c.args.fraction.now c.requires.whole c.requires.fraction in
    let size = length-append c.args.whole.now c.args.fraction.now in
    let round = nearest_digits (c.args.whole.now ++ c.args.fraction.now) c.args.left_out
    (length c.args.whole.now + length c.args.fraction.now - c.args.left_out) all c.requires.some
    (omega (arith, size, c.if-left_out-count.false)) in
    let up = c.carry.ensures ∙ ap (λ (d : ℕ). if nat_le 5 d then 1 else 0) c.front_of-front.ensures.next in
    rw round (capped_rounding 1000000000000000000 _ _ c.front_of-front.result.0 c.carry.result c.min.result c.front_of-front.ensures.front
    up
    c.min.ensures)
