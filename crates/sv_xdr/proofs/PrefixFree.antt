-- Of two fields of one type, neither's encoding is a proper prefix of the other's.
use Rattle.std.proofs.Common.{◌≡◌, ℕ, ◌+◌, Bool, true, false, List, [], ◌∷◌, ◌++◌, length, refl, sym, ap, subst, ◌∙◌, arith}
use Rattle.std.specs.Prelude.{ℤ, pos, negsuc}
use Rattle.std.specs.Int.{from_bool}
use Rattle.std.proofs.lemmas.List.{append_cancel_left, append_cancel_right}
use Rattle.sv_xdr.specs.Spelling.{Field, Unsigned, Signed, Boolean, Opaque, IsWord, IsTwosComplement, Spells, Begins, BeginsAll}
use Rattle.sv_xdr.specs.Reader.{unsigned_at, opaque_at}
use Rattle.sv_xdr.specs.Laws.{SameKind, PrefixFree}
use Rattle.sv_xdr.proofs.Fields.{unsigned_word_reads, opaque_reads, ok_pair_parts}

-- Two words that begin the same bytes are equal.
words : (a b after behind : List ℕ) (m n : ℕ) → IsWord a m → IsWord b n → a ++ after ≡ b ++ behind → (a ≡ b) × (m ≡ n)
words a b after behind m n h k e =
    let one = sym (unsigned_word_reads a after m h) ∙ ap unsigned_at e ∙ unsigned_word_reads b behind n k in
    let parts = ok_pair_parts m n after behind one in
    (append_cancel_right a b after (e ∙ ap (λ (l : List ℕ). b ++ l) (sym parts.1)), parts.0)

-- A word is the two's complement of at most one signed integer.
signs : (n : ℕ) (y z : ℤ) → IsTwosComplement n y → IsTwosComplement n z → y ≡ z
signs n (pos i) (pos k) h g = ap pos (omega arith)
signs n (pos i) (negsuc k) h g = absurd (omega arith)
signs n (negsuc i) (pos k) h g = absurd (omega arith)
signs n (negsuc i) (negsuc k) h g = ap negsuc (omega arith)

truths : (b c : Bool) → from_bool b ≡ from_bool c → b ≡ c
truths true true e = refl
truths true false e = absurd (omega arith)
truths false true e = absurd (omega arith)
truths false false e = refl

-- Two opaque data whose encodings begin the same bytes are equal.
texts : (s t a b after behind : List ℕ) → Spells a (Opaque s) → Spells b (Opaque t) → a ++ after ≡ b ++ behind → (a ≡ b) × (s ≡ t)
texts s t a b after behind h k e =
    let most = length s + length t in
    let first = opaque_reads most (a ++ after) s after (a, h, refl) (omega arith) in
    let second = opaque_reads most (b ++ behind) t behind (b, k, refl) (omega arith) in
    let one = sym first ∙ ap (opaque_at most) e ∙ second in
    let parts = ok_pair_parts s t after behind one in
    (append_cancel_right a b after (e ∙ ap (λ (l : List ℕ). b ++ l) (sym parts.1)), parts.0)

pub prefix_free : PrefixFree
prefix_free (Unsigned m) (Unsigned n) a b after behind kind h k e = let w = words a b after behind m n h k e in (w.0, ap Unsigned w.1)
prefix_free (Signed y) (Signed z) a b after behind kind h k e =
    let w = words a b after behind h.0 k.0 h.1 k.1 e in
    (w.0, ap Signed (signs k.0 y z (subst (λ (n : ℕ). IsTwosComplement n y) w.1 h.2) k.2))
prefix_free (Boolean c) (Boolean d) a b after behind kind h k e =
    let w = words a b after behind (from_bool c) (from_bool d) h k e in
    (w.0, ap Boolean (truths c d w.1))
prefix_free (Opaque s) (Opaque t) a b after behind kind h k e = let w = texts s t a b after behind h k e in (w.0, ap Opaque w.1)
prefix_free _ _ a b after behind kind h k e = absurd kind

-- Two fields of the same kind whose encodings begin the same bytes are equal, and so is what
-- follows them.
pub field_unique : (x y : Field) (bytes after behind : List ℕ) → SameKind x y → Begins bytes x after → Begins bytes y behind
    → (x ≡ y) × (after ≡ behind)
field_unique x y bytes after behind kind h k =
    let e = sym h.2 ∙ k.2 in
    let w = prefix_free x y h.0 k.0 after behind kind h.1 k.1 e in
    (w.1, append_cancel_left k.0 after behind (ap (λ (l : List ℕ). l ++ after) (sym w.0) ∙ e))

-- The lists have fields of the same kinds, in order.
abbrev pub SameKinds : List Field → List Field → Type 0
SameKinds [] [] = Unit {0}
SameKinds (x ∷ xs) (y ∷ ys) = SameKind x y × SameKinds xs ys
SameKinds [] (y ∷ ys) = ⊥
SameKinds (x ∷ xs) [] = ⊥

-- Two such lists whose encodings begin the same bytes are equal, and so is what follows them.
pub fields_unique : (xs ys : List Field) (bytes after behind : List ℕ) → SameKinds xs ys → BeginsAll bytes xs after
    → BeginsAll bytes ys behind → (xs ≡ ys) × (after ≡ behind)
fields_unique [] [] bytes after behind kinds h k = (refl, sym h ∙ k)
fields_unique (x ∷ xs) (y ∷ ys) bytes after behind kinds h k =
    let one = field_unique x y bytes h.0 k.0 kinds.0 h.1 k.1 in
    let rest = fields_unique xs ys k.0 after behind kinds.1 (subst (λ (l : List ℕ). BeginsAll l xs after) one.1 h.2) k.2 in
    (ap (λ (f : Field). f ∷ xs) one.0 ∙ ap (λ (l : List Field). y ∷ l) rest.0, rest.1)
fields_unique [] (y ∷ ys) bytes after behind kinds h k = absurd kinds
fields_unique (x ∷ xs) [] bytes after behind kinds h k = absurd kinds
