-- The text of a voltage: a sign, at most four digits, a point, and six digits.
use Rattle.std.proofs.Common.{◌≡◌, ℕ, zero, suc, ◌+◌, ◌-◌, ◌/◌, ◌<◌, ◌≤◌, List, [], ◌∷◌, ◌++◌, length, take, drop, refl, sym, ap, ◌∙◌, arith}
use Rattle.std.specs.Prelude.{decimal, replicate}
use Rattle.std.proofs.lemmas.List.{append_assoc, length-append, length-replicate, drop-drop, take_all}
use Rattle.std.proofs.lemmas.Fmt.{length-decimal-le}
use Rattle.sv_value.specs.PrintedVoltage.{six_digits}

-- A number below a million has at most six digits; up to 1,000 V, at most four come before the
-- point.
pub six_short : (n : ℕ) → n < 1000000 → length (decimal n) ≤ 6
six_short n lt = length-decimal-le 6 n (omega arith) (omega (arith, lt)) (omega (arith, lt))

pub volts_short : (n : ℕ) → n ≤ 1000000000 → length (decimal (n / 1000000)) ≤ 4
volts_short n le = length-decimal-le 4 (n / 1000000) (omega arith) (omega (arith, le)) (omega (arith, le))

-- Leading zeros fill the number up to six digits.
drop_zeros : (k n : ℕ) → drop {A = ℕ} k (replicate n 48) ≡ replicate (n - k) 48
drop_zeros zero n = let e : n - 0 ≡ n = omega arith in rw e refl
drop_zeros (suc k) zero = let e : 0 - suc k ≡ 0 = omega arith in rw e refl
drop_zeros (suc k) (suc n) = let e : suc n - suc k ≡ n - k = omega arith in rw e (drop_zeros k n)

abbrev pub six_zeros : List ℕ
six_zeros = 48 ∷ 48 ∷ 48 ∷ 48 ∷ 48 ∷ 48 ∷ []

pub zeros_are : (k : ℕ) → k ≤ 6 → take (6 - k) (drop k six_zeros) ≡ replicate (6 - k) 48
zeros_are k le =
    let size : length {A = ℕ} (replicate (6 - k) 48) ≤ 6 - k = let l = length-replicate {A = ℕ} (6 - k) 48 in omega (arith, l) in
    ap (take (6 - k)) (drop_zeros k 6) ∙ take_all (6 - k) (replicate (6 - k) 48) size

pub length_six : (n : ℕ) → n < 1000000 → length (six_digits n) ≡ 6
length_six n lt =
    let short = six_short n lt in
    let zeros : length {A = ℕ} (replicate (6 - length (decimal n)) 48) ≡ 6 - length (decimal n) =
    length-replicate (6 - length (decimal n)) 48 in
    length-append (replicate (6 - length (decimal n)) 48) (decimal n) ∙ omega (arith, short, zeros)

-- Zeros and digits that are written after a text appear after it as six digits.
pub six_digits_written : (text rest zeros digits new six : List ℕ) → length zeros + length digits ≡ 6 → six ≡ zeros ++ digits
    → new ≡ (text ++ zeros) ++ (digits ++ drop (length digits) (drop (length zeros) rest)) → new ≡ text ++ (six ++ drop 6 rest)
six_digits_written text rest zeros digits new six size e h =
    let dropped : drop (length digits) (drop (length zeros) rest) ≡ drop 6 rest =
    drop-drop (length digits) (length zeros) rest ∙ ap (λ n. drop n rest) size in
    h ∙ ap (λ r. (text ++ zeros) ++ (digits ++ r)) dropped ∙ simp append_assoc refl ∙ ap (λ s. text ++ (s ++ drop 6 rest)) (sym e)

-- A sign, digits, a point and six digits that are written in this order are the text of a voltage.
pub voltage_is_written : (old new volts six : List ℕ) (sign : ℕ) → length six ≡ 6
    → new ≡ (((sign ∷ []) ++ volts) ++ 46 ∷ []) ++ (six ++ drop 6 (drop 1 (drop (length volts) (drop 1 old))))
    → new ≡ (sign ∷ (volts ++ 46 ∷ six)) ++ drop (length (sign ∷ (volts ++ 46 ∷ six))) old
voltage_is_written old new volts six sign size h =
    let whole : length (sign ∷ (volts ++ 46 ∷ six)) ≡ 1 + length volts + 1 + 6 = let inner = length-append volts (46 ∷ six) in
    omega (arith, inner, size) in
    let dropped : drop 6 (drop 1 (drop (length volts) (drop 1 old))) ≡ drop (length (sign ∷ (volts ++ 46 ∷ six))) old =
    ap (λ xs. drop 6 (drop 1 xs)) (drop-drop (length volts) 1 old) ∙ ap (drop 6) (drop-drop 1 (1 + length volts) old)
    ∙ drop-drop 6 (1 + length volts + 1) old ∙ ap (λ n. drop n old) (sym whole) in
    h ∙ ap (λ r. (((sign ∷ []) ++ volts) ++ 46 ∷ []) ++ (six ++ r)) dropped ∙ simp append_assoc refl

-- The text of a voltage, written over the beginning of `old`.
abbrev pub voltage_written_over : List ℕ → ℕ → List ℕ → ℕ → List ℕ
voltage_written_over old sign volts n = (sign ∷ (volts ++ 46 ∷ six_digits n)) ++ drop (length (sign ∷ (volts ++ 46 ∷ six_digits n))) old

pub voltage_same : (old volts volts2 : List ℕ) (sign sign2 n n2 : ℕ) → sign ≡ sign2 → volts ≡ volts2 → n ≡ n2
    → voltage_written_over old sign volts n ≡ voltage_written_over old sign2 volts2 n2
voltage_same old volts volts2 sign sign2 n n2 s v e =
    ap (λ x. voltage_written_over old x volts n) s ∙ ap (λ x. voltage_written_over old sign2 x n) v
    ∙ ap (λ x. voltage_written_over old sign2 volts2 x) e

pub voltage_size : (volts : List ℕ) (n : ℕ) → n < 1000000 → length (volts ++ 46 ∷ six_digits n) ≡ length volts + 1 + 6
voltage_size volts n lt = let inner = length-append volts (46 ∷ six_digits n) in let six = length_six n lt in omega (arith, inner, six)
