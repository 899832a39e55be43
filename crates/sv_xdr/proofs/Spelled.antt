-- Each field has exactly one encoding.
use Rattle.std.proofs.Common.{◌≡◌, ℕ, zero, suc, ◌%◌, ◌<◌, ◌^◌, ◌/◌, List, [], ◌∷◌, length, take, refl, ap, ◌∙◌, arith, replicate}
use Rattle.std.specs.Prelude.{ℤ, pos, negsuc}
use Rattle.std.specs.List.{AllByRecursion}
use Rattle.std.specs.Int.{w32, to_be_bytes, cast_unsigned, from_bool}
use Rattle.std.proofs.lemmas.List.{length-replicate}
use Rattle.sv_xdr.specs.Spelling.{Unsigned, Signed, Boolean, Opaque, IsWord, IsTwosComplement, IsPad, Spells, spelling, pad_len}
use Rattle.sv_xdr.specs.Laws.{OneSpelling}
use Rattle.sv_xdr.proofs.Fields.{pad_len_unique}

pub word_spelled : (n : ℕ) → n < 2 ^ 32 → IsWord (to_be_bytes w32 n) n
word_spelled n h = (omega arith, omega arith, omega arith, omega arith, omega arith)

zeros_are_zero : (n : ℕ) → AllByRecursion (λ (byte : ℕ). byte ≡ 0) (replicate n 0)
zeros_are_zero zero = tt
zeros_are_zero (suc n) = (refl, zeros_are_zero n)

pub pad_spelled : (n : ℕ) → IsPad n (replicate (pad_len n) 0)
pad_spelled n = let size : length (replicate {A = ℕ} (pad_len n) 0) ≡ pad_len n = length-replicate (pad_len n) 0 in
    (omega arith, omega arith, zeros_are_zero (pad_len n))

pub opaque_spelled : (text : List ℕ) → length text < 2 ^ 32 → Spells (spelling (Opaque text)) (Opaque text)
opaque_spelled text h = (
  to_be_bytes w32 (length text),
  replicate (pad_len (length text)) 0,
  word_spelled (length text) h,
  pad_spelled (length text),
  refl,
)

pub take_zeros : (n : ℕ) → n < 4 → take {A = ℕ} n (0 ∷ 0 ∷ 0 ∷ []) ≡ replicate n 0
take_zeros (suc (suc (suc (suc n)))) h = absurd (omega arith)
take_zeros _ h = refl

word_is : (bytes : List ℕ) (n : ℕ) → IsWord bytes n → bytes ≡ to_be_bytes w32 n
word_is (a ∷ b ∷ c ∷ d ∷ []) n h =
    let first : a ≡ n / 16777216 % 256 = omega arith in
    let second : b ≡ n / 65536 % 256 = omega arith in
    let third : c ≡ n / 256 % 256 = omega arith in
    let fourth : d ≡ n % 256 = omega arith in
    cc
word_is _ n h = absurd h

zeros_are : (bytes : List ℕ) → AllByRecursion (λ byte. byte ≡ 0) bytes → bytes ≡ replicate (length bytes) 0
zeros_are [] h = refl
zeros_are (b ∷ bytes) h = let first = h.0 in let others = zeros_are bytes h.1 in cc

pad_is : (n : ℕ) (pad : List ℕ) → IsPad n pad → pad ≡ replicate (pad_len n) 0
pad_is n pad h = zeros_are pad h.2 ∙ ap (λ (k : ℕ). replicate {A = ℕ} k 0) (pad_len_unique n (length pad) h.0 h.1)

unsigned_of : (n : ℕ) (z : ℤ) → IsTwosComplement n z → n ≡ cast_unsigned w32 z
unsigned_of n (pos k) h = h.1
unsigned_of n (negsuc k) h = omega arith

pub one_spelling : OneSpelling
one_spelling (Unsigned n) bytes h = word_is bytes n h
one_spelling (Signed z) bytes h = word_is bytes h.0 h.1 ∙ ap (to_be_bytes w32) (unsigned_of h.0 z h.2)
one_spelling (Boolean b) bytes h = word_is bytes (from_bool b) h
one_spelling (Opaque text) bytes h =
    let size = word_is h.0 (length text) h.2 in
    let pad = pad_is (length text) h.1 h.3 in
    rw (h.4, size, pad) refl
