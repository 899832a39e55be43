use Rattle.std.proofs.Common.{◌≡◌, ◌∙◌, ℕ, List, ◌+◌, ◌-◌, ◌*◌, ◌^◌, ◌≤◌, ◌++◌, ap, sym, min, length, arith}
use Rattle.std.specs.Str.Parse.{digits_value, digits_value_after}
use Rattle.sv_value.specs.Number.{right, left}
use Rattle.sv_value.specs.Plain.{plain}
use Rattle.sv_value.proofs.Rounding.{nearest_right, nearest_left, power_of_ten_positive}
use Rattle.sv_value.proofs.Capped.{capped_append, capped_times, same_powers}
use Rattle.sv_value.proofs.number.magnitude.Goals as goal

pub returns-then-up-down : goal.returns-then-up-down
returns-then-up-down c =
    let up : ℕ = c.args.power + c.moved-right.result.0 in
    let down : ℕ = length c.args.number.now.fraction.now + c.moved-right.result.1 in
    let digits : List ℕ = c.args.number.now.whole.now ++ c.args.number.now.fraction.now in
    let value : c.value_after-value.result ≡ min (digits_value 10 digits) 1000000000000000000 =
    c.value_after-value.ensures.value ∙ ap (λ n. min (digits_value_after 10 n c.args.number.now.fraction.now) 1000000000000000000)
    c.value_after.ensures.value ∙ capped_append 1000000000000000000 c.args.number.now.whole.now c.args.number.now.fraction.now in
    c.shifted.ensures
    ∙ ap (λ n. min (n * 10 ^ (up - down)) 1000000000000000000) value
    ∙ capped_times 1000000000000000000 (digits_value 10 digits) (10 ^ (up - down)) (power_of_ten_positive (up - down))
    ∙ ap (λ n. min n 1000000000000000000) (sym (nearest_right (digits_value 10 digits) up down c.if-up-down.true))
    ∙ same_powers 1000000000000000000 (digits_value 10 digits) up (c.args.power + right (plain c.args.number.now)) down
    (length c.args.number.now.fraction.now + left (plain c.args.number.now))
    (ap (λ n. c.args.power + n) c.moved-right.ensures.right)
    (ap (λ n. length c.args.number.now.fraction.now + n) c.moved-right.ensures.left)

pub returns-else-up-down : goal.returns-else-up-down
returns-else-up-down c =
    let up : ℕ = c.args.power + c.moved-right.result.0 in
    let down : ℕ = length c.args.number.now.fraction.now + c.moved-right.result.1 in
    let digits : List ℕ = c.args.number.now.whole.now ++ c.args.number.now.fraction.now in
    let le : up ≤ down = omega (arith, c.if-up-down.false) in
    c.rounded.ensures
    ∙ ap (λ n. min n 1000000000000000000) (sym (nearest_left (digits_value 10 digits) up down le))
    ∙ same_powers 1000000000000000000 (digits_value 10 digits) up (c.args.power + right (plain c.args.number.now)) down
    (length c.args.number.now.fraction.now + left (plain c.args.number.now))
    (ap (λ n. c.args.power + n) c.moved-right.ensures.right)
    (ap (λ n. length c.args.number.now.fraction.now + n) c.moved-right.ensures.left)
