-- Laws of the encoding of fields.
use Rattle.std.specs.Prelude.{◌≡◌, ℕ, List, ◌++◌}
use Rattle.sv_xdr.specs.Spelling.{Field, Unsigned, Signed, Boolean, Opaque, Spells, spelling}

-- Two fields are of the same kind.
abbrev pub SameKind : Field → Field → Type 0
SameKind (Unsigned m) (Unsigned n) = Unit {0}
SameKind (Signed y) (Signed z) = Unit {0}
SameKind (Boolean b) (Boolean c) = Unit {0}
SameKind (Opaque s) (Opaque t) = Unit {0}
SameKind _ _ = ⊥

-- Suppose that x and y are fields of the same kind. If the same bytes begin with the encoding of x
-- and with the encoding of y, both encodings are equal, and so are both fields. So within one kind,
-- no encoding is a proper prefix of another.
abbrev pub PrefixFree : Type 0
PrefixFree = (x y : Field) (a b after behind : List ℕ) → SameKind x y → Spells a x → Spells b y → a ++ after ≡ b ++ behind
    → (a ≡ b) × (x ≡ y)

-- A field has at most one encoding: the one that the function `spelling` gives.
abbrev pub OneSpelling : Type 0
OneSpelling = (x : Field) (bytes : List ℕ) → Spells bytes x → bytes ≡ spelling x
