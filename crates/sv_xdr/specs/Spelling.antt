-- How a field is encoded in bytes (RFC 4506), as a relation between bytes and a field.
use Rattle.std.specs.Prelude.{◌≡◌, ℕ, ◌+◌, ◌-◌, ◌*◌, ◌%◌, ◌<◌, ◌^◌, Bool, List, [], ◌∷◌, ◌++◌, length, replicate, ℤ, pos, negsuc}
use Rattle.std.specs.Int.{w32, to_be_bytes, cast_unsigned, from_bool}
use Rattle.std.specs.List.{AllByRecursion}

-- a field of XDR, of one of the kinds that the server uses
pub data Field : Type 0 where
  Unsigned : ℕ → Field
  Signed : ℤ → Field
  Boolean : Bool → Field
  Opaque : List ℕ → Field

-- These four bytes encode the number, the most significant byte first (4.1 and 4.2).
abbrev pub IsWord : List ℕ → ℕ → Type 0
IsWord (a ∷ b ∷ c ∷ d ∷ []) n = (a < 256) × (b < 256) × (c < 256) × (d < 256) × (n ≡ ((a * 256 + b) * 256 + c) * 256 + d)
IsWord _ n = ⊥

-- The 32-bit number n encodes a signed integer in two's complement (4.1): n is the integer itself,
-- or, if the integer is negative, the integer plus 2 ^ 32.
abbrev pub IsTwosComplement : ℕ → ℤ → Type 0
IsTwosComplement n (pos k) = (k < 2 ^ 31) × (n ≡ k)
IsTwosComplement n (negsuc k) = (k < 2 ^ 31) × (n + (k + 1) ≡ 2 ^ 32)

-- `pad` is the padding after n bytes of data: 0 to 3 zero bytes, which make the total length a
-- multiple of four (sections 3 and 4.10).
abbrev pub IsPad : ℕ → List ℕ → Type 0
IsPad n pad = (length pad < 4) × ((n + length pad) % 4 ≡ 0) × AllByRecursion (λ byte. byte ≡ 0) pad

-- The bytes encode the field. A boolean is encoded as the number 0 or 1 (4.4), and opaque data as
-- their length, the data and the padding (4.10).
abbrev pub Spells : List ℕ → Field → Type 0
Spells bytes (Unsigned n) = IsWord bytes n
Spells bytes (Signed z) = (n : ℕ) × IsWord bytes n × IsTwosComplement n z
Spells bytes (Boolean b) = IsWord bytes (from_bool b)
Spells bytes (Opaque text) = (size pad : List ℕ) × IsWord size (length text) × IsPad (length text) pad × (bytes ≡ size ++ (text ++ pad))

-- The bytes begin with the encoded field, and `after` are the bytes that follow.
abbrev pub Begins : List ℕ → Field → List ℕ → Type 0
Begins bytes field after = (front : List ℕ) × Spells front field × (bytes ≡ front ++ after)

-- The bytes begin with these fields, encoded in order, and `after` are the bytes that follow.
abbrev pub BeginsAll : List ℕ → List Field → List ℕ → Type 0
BeginsAll bytes [] after = bytes ≡ after
BeginsAll bytes (field ∷ fields) after = (middle : List ℕ) × Begins bytes field middle × BeginsAll middle fields after

-- how many bytes of padding follow n bytes of data
abbrev pub pad_len : ℕ → ℕ
pad_len n = (4 - n % 4) % 4

-- the encoding of a field, as a function
abbrev pub spelling : Field → List ℕ
spelling (Unsigned n) = to_be_bytes w32 n
spelling (Signed z) = to_be_bytes w32 (cast_unsigned w32 z)
spelling (Boolean b) = to_be_bytes w32 (from_bool b)
spelling (Opaque text) = to_be_bytes w32 (length text) ++ (text ++ replicate (pad_len (length text)) 0)
