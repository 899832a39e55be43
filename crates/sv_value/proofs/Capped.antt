-- A value that is capped while its digits are read is the capped value of all digits.
use Rattle.std.proofs.Common.{◌≡◌, ℕ, ◌+◌, ◌-◌, ◌*◌, ◌^◌, ◌<◌, ◌≤◌, ◌++◌, List, [], ◌∷◌, length, take, drop, slice_index_or, min, refl, sym, ap, ◌∙◌, inl, inr, arith}
use Rattle.std.specs.Char.{digit_value}
use Rattle.std.specs.Str.Parse.{digits_value, digits_value_after}
use Rattle.std.proofs.lemmas.Bool.{cases_lt}
use Rattle.std.proofs.lemmas.List.{take_rest}
use Rattle.std.proofs.Math.Seq.{take-append-add}
use Rattle.std.proofs.Math.Nat.{pow-le-pow_right}
use Rattle.sv_value.specs.Number.{nearest}
use Rattle.sv_value.proofs.Rounding.{value_join}
use Rattle.std.proofs.lemmas.Nat.{mul-le}

-- A value may be capped before another digit is read: the capped result is the same.
cap_past : (m b x d : ℕ) → 1 ≤ b → m ≤ x → min (min x m * b + d) m ≡ min (x * b + d) m
cap_past m b x d some le =
    let small : min x m ≡ m = grind (arith, le) in
    let one : m * 1 ≤ m * b = mul-le m 1 m b (omega arith) some in
    let other : m * b ≤ x * b = mul-le m b x b le (omega arith) in
    rw small (omega (arith, one, other))

cap_step : (m b x d : ℕ) → 1 ≤ b → min (min x m * b + d) m ≡ min (x * b + d) m
cap_step m b x d some =
    elim (cases_lt m x) [
      | inl lt ↦ cap_past m b x d some (omega (arith, lt))
      | inr ge ↦ let same : min x m ≡ x = omega (arith, ge) in rw same refl
    ]

-- If the value so far is capped, the further digits lead to the same capped value.
pub capped_digits : (m b x : ℕ) (digits : List ℕ) → 1 ≤ b → min (digits_value_after b (min x m) digits) m ≡ min
    (digits_value_after b x digits) m
capped_digits m b x [] some = omega arith
capped_digits m b x (d ∷ digits) some =
    sym (capped_digits m b (min x m * b + digit_value d) digits some)
    ∙ ap (λ n. min (digits_value_after b n digits) m) (cap_step m b x (digit_value d) some)
    ∙ capped_digits m b (x * b + digit_value d) digits some

-- Reading the next digit and capping keeps the capped value of all digits.
pub capped_digit : (b most x v : ℕ) (digits : List ℕ) → 1 ≤ b → 1 ≤ length digits
    → v ≡ min most (x * b + digit_value (slice_index_or digits 0 0))
    → min (digits_value_after b x digits) most ≡ min (digits_value_after b v (take (length digits - 1) (drop 1 digits))) most
capped_digit b most x v [] some lt e = absurd (omega (arith, lt))
capped_digit b most x v (d ∷ digits) some lt e =
    let swap : v ≡ min (x * b + digit_value d) most = omega (arith, e) in
    rw (take_rest (d ∷ digits) 1, swap) (sym (capped_digits most b (x * b + digit_value d) digits some))

-- The value of the first digits may be capped before the others are read.
pub capped_append : (most : ℕ) (front behind : List ℕ)
    → min (digits_value_after 10 (min (digits_value 10 front) most) behind) most ≡ min (digits_value 10 (front ++ behind)) most
capped_append most front behind = capped_digits most 10 (digits_value 10 front) behind (omega arith)
    ∙ ap (λ n. min n most) (sym (value_join front behind))

pub take_join : (k : ℕ) (front behind : List ℕ) → length front ≤ k → take k (front ++ behind) ≡ front ++ take (k - length front) behind
take_join k front behind le =
    let e : k ≡ length front + (k - length front) = omega (arith, le) in
    ap (λ n. take n (front ++ behind)) e ∙ take-append-add front behind (k - length front)

-- A value above 0 that is moved by 19 decimal places or more exceeds the cap.
pub moved_past_cap : (value tens : ℕ) → 1 ≤ value → 18 < tens → 1000000000000000000 ≡ min (value * 10 ^ tens) 1000000000000000000
moved_past_cap value tens some many =
    let pow : 10 ^ 18 ≤ 10 ^ tens = pow-le-pow_right (omega arith) {i = 18} {j = tens} (omega (arith, many)) in
    let times : 1 * 10 ^ 18 ≤ value * 10 ^ tens = mul-le 1 (10 ^ 18) value (10 ^ tens) some pow in
    omega (arith, times)

-- A value may be capped before it is multiplied: the capped product is the same.
pub capped_times : (most value k : ℕ) → 1 ≤ k → min (min value most * k) most ≡ min (value * k) most
capped_times most value k some =
    let none : min value most * k ≡ min value most * k + 0 = omega arith in
    let same : value * k + 0 ≡ value * k = omega arith in
    ap (λ n. min n most) none ∙ cap_step most k value 0 some ∙ ap (λ n. min n most) same

-- A value may be capped before it is rounded up: the capped result is the same.
pub capped_rounding : (most value up front carry result : ℕ) → front ≡ min value most → carry ≡ up → result ≡ min most (front + carry)
    → result ≡ min (value + up) most
capped_rounding most value up front carry result f u e = omega (arith, f, u, e)

-- Equal powers of ten give the same value.
pub same_powers : (most n up right down left : ℕ) → up ≡ right → down ≡ left
    → min (nearest (n * 10 ^ up) (10 ^ down)) most ≡ min (nearest (n * 10 ^ right) (10 ^ left)) most
same_powers most n up right down left u d = rw (u, d) refl
