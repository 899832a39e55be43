-- The bytes that are read from a text are those that its hexadecimal digits spell.
use Rattle.std.proofs.Common.{◌≡◌, ℕ, ◌+◌, ◌-◌, ◌*◌, ◌<◌, ◌≤◌, true, false, eqb, leb, ◌&&◌, List, [], ◌∷◌, Some, option_map, refl, sym, subst, ap, ◌∙◌, ◌⊎◌, inl, inr, arith}
use Rattle.std.proofs.lemmas.Bool.{and_from, and_parts, and_right, le-leb, lt-leb, leb-true, eqb-true, ne_eqb}
use Rattle.std.proofs.lemmas.Option.{none-some, same_Some, option_and_then_some}
use Rattle.sv_replay.specs.Line.{IsHexDigit, IsPair, IsHex}
use Rattle.sv_replay.specs.Reading.{hex_digit_at, pair_at, hex_at}
use Rattle.sv_replay.proofs.Options.{from_mapped_some, from_cond}

within_range : (low high n : ℕ) → low ≤ n → n ≤ high → (leb low n && leb n high) ≡ true
within_range low high n below above = and_from (leb low n) (leb n high) (le-leb low n below) (le-leb n high above)

above_range : (low high n : ℕ) → high < n → (leb low n && leb n high) ≡ false
above_range low high n above = and_right (leb low n) (leb n high) (lt-leb n high above)

-- A hexadecimal digit is read as its value.
digit_reads : (digit n : ℕ) → IsHexDigit digit n → hex_digit_at digit ≡ Some n
unfolding hex_digit_at
digit_reads digit n is = elim is.1 [
  | inl decimal ↦ rw (within_range 48 57 digit (omega arith) (omega arith)) (ap Some (omega arith))
  | inr letter ↦ elim letter [
    | inl upper ↦ rw (above_range 48 57 digit (omega arith), within_range 65 70 digit (omega arith) (omega arith)) (ap Some (omega arith))
    | inr lower ↦ rw (
      above_range 48 57 digit (omega arith),
      above_range 65 70 digit (omega arith),
      within_range 97 102 digit (omega arith)
          (omega arith),
    )
        (ap Some (omega arith))
  ]
]

range_bounds : (low high n : ℕ) → (leb low n && leb n high) ≡ true → (low ≤ n) × (n ≤ high)
range_bounds low high n e = let parts = and_parts (leb low n) (leb n high) e in (leb-true low n parts.0, leb-true n high parts.1)

-- A character that is read as a value is the hexadecimal digit for it.
digit_takes : (digit n : ℕ) → hex_digit_at digit ≡ Some n → IsHexDigit digit n
unfolding hex_digit_at
digit_takes digit n e =
    from_cond (leb 48 digit && leb digit 57) _ _ (Some n) e
    (λ decimal e1. let r = range_bounds 48 57 digit decimal in let v : digit - 48 ≡ n = same_Some (digit - 48) n e1 in
    (omega arith, inl (omega arith, omega arith)))
    (λ _ e1. from_cond (leb 65 digit && leb digit 70) _ _ (Some n) e1
    (λ upper e2. let r = range_bounds 65 70 digit upper in let v : digit - 55 ≡ n = same_Some (digit - 55) n e2 in
    (omega arith, inr (inl (omega arith, omega arith))))
    (λ _ e2. from_cond (leb 97 digit && leb digit 102) _ _ (Some n) e2
    (λ lower e3. let r = range_bounds 97 102 digit lower in let v : digit - 87 ≡ n = same_Some (digit - 87) n e3 in
    (omega arith, inr (inr (omega arith, omega arith))))
    (λ _ none. absurd (none-some n none))))

-- Two hexadecimal digits are read as the byte that they spell.
pair_reads : (high low byte : ℕ) → IsPair high low byte → pair_at high low ≡ Some byte
unfolding pair_at
pair_reads high low byte is = rw (digit_reads high is.0 is.2, digit_reads low is.1 is.3) (ap Some (sym is.4))

-- Two characters that are read as a byte are hexadecimal digits that spell it.
pair_takes : (high low byte : ℕ) → pair_at high low ≡ Some byte → IsPair high low byte
unfolding pair_at
pair_takes high low byte e =
    option_and_then_some _ (hex_digit_at high) byte e (λ h high_is e1.
    option_and_then_some _ (hex_digit_at low) byte e1 (λ l low_is e2.
    (h, l, digit_takes high h high_is, digit_takes low l low_is, sym (same_Some (16 * h + l) byte e2))))

digit_no_space : (digit n : ℕ) → IsHexDigit digit n → digit ≡ 32 → ⊥
digit_no_space digit n is e = elim is.1 [
  | inl decimal ↦ omega arith
  | inr letter ↦
      elim letter [ inl upper ↦ omega arith | inr lower ↦ omega arith ]
]

-- A text that spells bytes begins with a digit, not with a space.
hex_begins_with_digit : (text bytes : List ℕ) → IsHex text bytes → (digit : ℕ) × (rest : List ℕ) × (text ≡ digit ∷ rest)
    × (eqb digit 32 ≡ false)
hex_begins_with_digit text [] is = absurd is
hex_begins_with_digit text (byte ∷ []) is = (is.0, is.1 ∷ [], is.3, ne_eqb is.0 32 (digit_no_space is.0 is.2.0 is.2.2))
hex_begins_with_digit text (byte ∷ other ∷ bytes) is =
    let front = ne_eqb is.0 32 (digit_no_space is.0 is.3.0 is.3.2) in
    elim is.5 [ inl close ↦ (is.0, is.1 ∷ is.2, close, front) | inr apart ↦ (is.0, is.1 ∷ 32 ∷ is.2, apart, front) ]

-- A text that spells bytes is read as these bytes.
pub hex_reads : (text bytes : List ℕ) → IsHex text bytes → hex_at text ≡ Some bytes
unfolding hex_at
hex_reads text [] is = absurd is
hex_reads text (byte ∷ []) is = rw (is.3, pair_reads is.0 is.1 byte is.2) refl
hex_reads text (byte ∷ other ∷ bytes) is =
    let more = hex_reads is.2 (other ∷ bytes) is.4 in
    let front = hex_begins_with_digit is.2 (other ∷ bytes) is.4 in
    elim is.5 [
      | inl close ↦ rw (close, front.2, pair_reads is.0 is.1 byte is.3, front.3)
          (ap (option_map (λ bs. byte ∷ bs)) (ap hex_at (sym front.2) ∙ more))
      | inr apart ↦ rw (apart, pair_reads is.0 is.1 byte is.3, more) refl
    ]

hex_cons : (text rest bytes : List ℕ) (high low byte : ℕ) → IsPair high low byte → IsHex rest bytes
    → (text ≡ high ∷ low ∷ rest) ⊎ (text ≡ high ∷ low ∷ 32 ∷ rest) → IsHex text (byte ∷ bytes)
hex_cons text rest [] high low byte pair more e = absurd more
hex_cons text rest (other ∷ bytes) high low byte pair more e = (high, low, rest, pair, more, e)

-- A text that is read as bytes spells them.
pub hex_takes : (text bytes : List ℕ) → hex_at text ≡ Some bytes → IsHex text bytes
unfolding hex_at
hex_takes [] bytes e = absurd (none-some bytes e)
hex_takes (high ∷ []) bytes e = absurd (none-some bytes e)
hex_takes (high ∷ low ∷ []) bytes e =
    option_and_then_some _ (pair_at high low) bytes e (λ byte pair e1.
    subst (IsHex (high ∷ low ∷ [])) (same_Some (byte ∷ []) bytes e1) (high, low, pair_takes high low byte pair, refl))
hex_takes (high ∷ low ∷ next ∷ rest) bytes e =
    option_and_then_some _ (pair_at high low) bytes e (λ byte pair e1.
    from_mapped_some (λ bs. byte ∷ bs) _ bytes e1 (λ more read e2.
    subst (IsHex (high ∷ low ∷ next ∷ rest)) e2
    (from_cond (eqb next 32) _ _ (Some more) read
    (λ space e3. hex_cons (high ∷ low ∷ next ∷ rest) rest more high low byte (pair_takes high low byte pair) (hex_takes rest more e3)
    (inr (ap (λ b. high ∷ low ∷ b ∷ rest) (eqb-true next 32 space))))
    (λ _ e3. hex_cons (high ∷ low ∷ next ∷ rest) (next ∷ rest) more high low byte (pair_takes high low byte pair)
    (hex_takes (next ∷ rest) more e3) (inl refl)))))
