-- Rounding to the nearest whole number depends only on the first digit that is left out.
use Rattle.std.proofs.Common.{◌≡◌, ℕ, zero, suc, ◌+◌, ◌-◌, ◌*◌, ◌^◌, ◌<◌, ◌≤◌, Bool, true, false, List, [], ◌∷◌, ◌++◌, length, take, drop, slice_index_or, refl, sym, ap, ◌∙◌, arith}
use Rattle.std.specs.Prelude.{nat_le, if◌then◌else◌}
use Rattle.std.proofs.lemmas.Bool.Decides.{nat_tests}
use Rattle.std.specs.Char.{digit_value, is_ascii_digit}
use Rattle.std.specs.List.{list_all}
use Rattle.std.specs.Str.Parse.{digits_value, digits_value_after}
use Rattle.std.proofs.lemmas.List.{length-drop}
use Rattle.std.proofs.lemmas.List.Folds.{list_all-append}
use Rattle.std.proofs.lemmas.Bool.{and_parts, leb-true, leb-false}
use Rattle.std.proofs.lemmas.Nat.{mul-le, pow-add}
use Rattle.std.proofs.Math.Nat.{div-eq_of_lt-le, div-eq_of_lt, mul-div-mul_right, pow-succ', pow-le-pow_right, one-le-pow}
use Rattle.sv_value.specs.Number.{nearest}

after_join : (b n : ℕ) (xs ys : List ℕ) → digits_value_after b n (xs ++ ys) ≡ digits_value_after b (digits_value_after b n xs) ys
after_join b n [] ys = refl
after_join b n (x ∷ xs) ys = after_join b (n * b + digit_value x) xs ys

-- Further digits multiply the value so far by ten each.
pub value_after_more_digits : (n : ℕ) (ds : List ℕ) → digits_value_after 10 n ds ≡ n * 10 ^ length ds + digits_value 10 ds
value_after_more_digits n [] = omega arith
value_after_more_digits n (d ∷ ds) =
    let a = value_after_more_digits (n * 10 + digit_value d) ds in
    let b = value_after_more_digits (0 * 10 + digit_value d) ds in
    let p : 10 ^ suc (length ds) ≡ 10 * 10 ^ length ds = pow-succ' 10 (length ds) in
    omega (arith, a, b, ap (λ x. n * x) p)

pub value_join : (xs ys : List ℕ) → digits_value 10 (xs ++ ys) ≡ digits_value_after 10 (digits_value 10 xs) ys
value_join xs ys = after_join 10 0 xs ys

nearest_whole : (n : ℕ) → nearest n 1 ≡ n
nearest_whole n = div-eq_of_lt-le 2 (omega arith) (omega arith)

-- A common factor of numerator and denominator doesn't matter.
nearest_short : (n d k : ℕ) → 1 ≤ k → nearest (n * k) (d * k) ≡ nearest n d
nearest_short n d k some =
    let over : 2 * (n * k) + d * k ≡ (2 * n + d) * k = omega arith in
    let under : 2 * (d * k) ≡ 2 * d * k = omega arith in
    rw (over, under) (mul-div-mul_right (2 * n + d) (2 * d) (omega (arith, some)))

pub power_of_ten_positive : (n : ℕ) → 1 ≤ 10 ^ n
power_of_ten_positive n = one-le-pow n 10 (omega arith)

-- If the power of ten in the numerator is the greater one, nothing is rounded.
pub nearest_right : (n up down : ℕ) → down ≤ up → nearest (n * 10 ^ up) (10 ^ down) ≡ n * 10 ^ (up - down)
nearest_right n up down le =
    let split : 10 ^ up ≡ 10 ^ (up - down) * 10 ^ down =
    ap (λ k. 10 ^ k) (let e : up ≡ (up - down) + down = omega (arith, le) in e) ∙ pow-add 10 (up - down) down in
    let over : n * 10 ^ up ≡ n * 10 ^ (up - down) * 10 ^ down = ap (λ k. n * k) split ∙ omega arith in
    let under : 10 ^ down ≡ 1 * 10 ^ down = omega arith in
    ap (λ k. nearest k (10 ^ down)) over ∙ ap (λ k. nearest (n * 10 ^ (up - down) * 10 ^ down) k) under
    ∙ nearest_short (n * 10 ^ (up - down)) 1 (10 ^ down) (power_of_ten_positive down) ∙ nearest_whole (n * 10 ^ (up - down))

-- If the one in the denominator is the greater one, only the difference matters.
pub nearest_left : (n up down : ℕ) → up ≤ down → nearest (n * 10 ^ up) (10 ^ down) ≡ nearest n (10 ^ (down - up))
nearest_left n up down le =
    let split : 10 ^ down ≡ 10 ^ (down - up) * 10 ^ up =
    ap (λ k. 10 ^ k) (let e : down ≡ (down - up) + up = omega (arith, le) in e) ∙ pow-add 10 (down - up) up in
    ap (λ k. nearest (n * 10 ^ up) k) split ∙ nearest_short n (10 ^ (down - up)) (10 ^ up) (power_of_ten_positive up)

digit_most : (b : ℕ) → is_ascii_digit b ≡ true → digit_value b ≤ 9
digit_most b h = grind (arith, nat_tests, h)

-- A number is less than the power of ten that has one digit more.
pub value_below_power_of_ten : (ds : List ℕ) → list_all is_ascii_digit ds ≡ true → digits_value 10 ds < 10 ^ length ds
value_below_power_of_ten [] h = omega arith
value_below_power_of_ten (d ∷ ds) h =
    let digits = and_parts (is_ascii_digit d) (list_all is_ascii_digit ds) h in
    let most = digit_most d digits.0 in
    let rest = value_below_power_of_ten ds digits.1 in
    let moves = value_after_more_digits (0 * 10 + digit_value d) ds in
    let p : 10 ^ suc (length ds) ≡ 10 * 10 ^ length ds = pow-succ' 10 (length ds) in
    let part : digit_value d * 10 ^ length ds ≤ 9 * 10 ^ length ds =
    mul-le (digit_value d) (10 ^ length ds) 9 (10 ^ length ds) most (omega arith) in
    omega (arith, moves, p, part, rest)

-- If more digits are left out than there are, the value is less than a half and rounds to 0.
pub nearest_is_zero : (ds : List ℕ) (c : ℕ) → list_all is_ascii_digit ds ≡ true → length ds < c → nearest (digits_value 10 ds) (10 ^ c) ≡ 0
nearest_is_zero ds c h lt =
    let less = value_below_power_of_ten ds h in
    let p : 10 ^ suc (length ds) ≡ 10 * 10 ^ length ds = pow-succ' 10 (length ds) in
    let more : 10 ^ suc (length ds) ≤ 10 ^ c = pow-le-pow_right (omega arith) (omega (arith, lt)) in
    div-eq_of_lt (omega (arith, less, p, more))

-- A value whose first omitted digit is 5 or more is rounded up, any other is rounded down.
rounds_by_next_digit : (kept digit behind p : ℕ) → digit ≤ 9 → behind < p
    → nearest ((kept * 10 + digit) * p + behind) (10 * p) ≡ kept + (if nat_le 5 digit then 1 else 0)
rounds_by_next_digit kept digit behind p most lt = at (nat_le 5 digit) refl
  where
    spread : (kept * 10 + digit) * p ≡ 10 * (kept * p) + digit * p
    spread = omega arith

    high : digit * p ≤ 9 * p
    high = mul-le digit p 9 p most (omega arith)

    at : (t : Bool) → nat_le 5 digit ≡ t → nearest ((kept * 10 + digit) * p + behind) (10 * p) ≡ kept + (if t then 1 else 0)
    at true five =
        let low : 5 * p ≤ digit * p = mul-le 5 p digit p (leb-true 5 digit five) (omega arith) in
        div-eq_of_lt-le (2 * (10 * p)) (omega (arith, spread, low, high, lt)) (omega (arith, spread, low, high, lt))
    at false four =
        let few : digit ≤ 4 = let l = leb-false 5 digit four in omega (arith, l) in
        let low : digit * p ≤ 4 * p = mul-le digit p 4 p few (omega arith) in
        div-eq_of_lt-le (2 * (10 * p)) (omega (arith, spread, low, lt)) (omega (arith, spread, low, lt))

-- The digits before an index, the one there, and those after it are all digits.
split_at : (ds : List ℕ) (k : ℕ) → k < length ds → ds ≡ take k ds ++ slice_index_or ds k 0 ∷ drop (suc k) ds
split_at [] k lt = absurd (omega (arith, lt))
split_at (d ∷ ds) zero lt = refl
split_at (d ∷ ds) (suc k) lt = ap (λ xs. d ∷ xs) (split_at ds k (omega (arith, lt)))

-- A number is rounded to its first digits by the first digit that is left out.
pub nearest_digits : (ds : List ℕ) (c kept : ℕ) → list_all is_ascii_digit ds ≡ true → 1 ≤ c → kept + c ≡ length ds
    → nearest (digits_value 10 ds) (10 ^ c) ≡ digits_value 10 (take kept ds) +
    (if nat_le 5 (digit_value (slice_index_or ds kept 0)) then 1 else 0)
nearest_digits ds c kept h some size =
    let front : List ℕ = take kept ds in
    let behind : List ℕ = drop (suc kept) ds in
    let digit : ℕ = slice_index_or ds kept 0 in
    let split = split_at ds kept (omega (arith, some, size)) in
    let parts = and_parts (list_all is_ascii_digit front) (list_all is_ascii_digit (digit ∷ behind))
    (sym (list_all-append is_ascii_digit front (digit ∷ behind)) ∙ ap (list_all is_ascii_digit) (sym split) ∙ h) in
    let digits = and_parts (is_ascii_digit digit) (list_all is_ascii_digit behind) parts.1 in
    let few : length behind ≡ c - 1 = length-drop (suc kept) ds ∙ omega (arith, some, size) in
    let value : digits_value 10 ds ≡ (digits_value 10 front * 10 + digit_value digit) * 10 ^ (c - 1) + digits_value 10 behind =
    ap (digits_value 10) split ∙ value_join front (digit ∷ behind) ∙ value_after_more_digits
    (digits_value 10 front * 10 + digit_value digit) behind
    ∙ ap (λ n. (digits_value 10 front * 10 + digit_value digit) * 10 ^ n + digits_value 10 behind) few in
    let less : digits_value 10 behind < 10 ^ (c - 1) = rw (← few) (value_below_power_of_ten behind digits.1) in
    let tens : 10 ^ c ≡ 10 * 10 ^ (c - 1) = ap (λ n. 10 ^ n) (let e : c ≡ suc (c - 1) = omega (arith, some) in e) ∙ pow-succ' 10 (c - 1) in
    ap (λ n. nearest n (10 ^ c)) value ∙ ap (nearest
    ((digits_value 10 front * 10 + digit_value digit) * 10 ^ (c - 1) + digits_value 10 behind)) tens
    ∙ rounds_by_next_digit (digits_value 10 front) (digit_value digit) (digits_value 10 behind) (10 ^ (c - 1)) (digit_most digit digits.0)
    less
