-- No header of a call or a reply is a proper prefix of another.
use Rattle.std.proofs.Common.{◌≡◌, ℕ, List, [], ◌∷◌, refl, sym, subst, ◌∙◌, arith}
use Rattle.sv_xdr.specs.Spelling.{Field, Unsigned, Opaque, BeginsAll}
use Rattle.sv_xdr.proofs.PrefixFree.{field_unique}
use Rattle.sv_rpc.specs.declared.reply.Reply.{Reply}
use Rattle.sv_rpc.specs.declared.reply.Reply.TheVariants.{Success, Mismatch, ProgUnavail, ProgMismatch, ProcUnavail, GarbageArgs}
use Rattle.sv_rpc.specs.Call.{heading}
use Rattle.sv_rpc.specs.Reply.{reply_fields}
use Rattle.sv_rpc.specs.Laws.{CallsPrefixFree, RepliesPrefixFree}

-- The fields agree as far as both lists have words or both have opaque data, and so does what
-- follows two lists that end together.
abbrev FieldsAgree : List Field → List Field → List ℕ → List ℕ → Type 0
FieldsAgree [] [] after behind = after ≡ behind
FieldsAgree (Unsigned m ∷ xs) (Unsigned n ∷ ys) after behind = (m ≡ n) × FieldsAgree xs ys after behind
FieldsAgree (Opaque s ∷ xs) (Opaque t ∷ ys) after behind = (s ≡ t) × FieldsAgree xs ys after behind
FieldsAgree _ _ after behind = Unit {0}

unsigned_is : (m n : ℕ) → Unsigned m ≡ Unsigned n → m ≡ n
unsigned_is m n e = cc

opaque_is : (s t : List ℕ) → Opaque s ≡ Opaque t → s ≡ t
opaque_is s t e = cc

-- Two lists of fields that the same bytes encode agree.
same_bytes_agree : (xs ys : List Field) (bytes after behind : List ℕ) → BeginsAll bytes xs after → BeginsAll bytes ys behind
    → FieldsAgree xs ys after behind
same_bytes_agree [] [] bytes after behind h k = sym h ∙ k
same_bytes_agree (Unsigned m ∷ xs) (Unsigned n ∷ ys) bytes after behind h k =
    let one = field_unique (Unsigned m) (Unsigned n) bytes h.0 k.0 tt h.1 k.1 in
    (unsigned_is m n one.0, same_bytes_agree xs ys k.0 after behind (subst (λ (l : List ℕ). BeginsAll l xs after) one.1 h.2) k.2)
same_bytes_agree (Opaque s ∷ xs) (Opaque t ∷ ys) bytes after behind h k =
    let one = field_unique (Opaque s) (Opaque t) bytes h.0 k.0 tt h.1 k.1 in
    (opaque_is s t one.0, same_bytes_agree xs ys k.0 after behind (subst (λ (l : List ℕ). BeginsAll l xs after) one.1 h.2) k.2)
same_bytes_agree xs ys bytes after behind h k = tt

-- The headers of two calls have the same kinds of fields, so they agree in all of them.
pub calls_prefix_free : CallsPrefixFree
calls_prefix_free x y c d v w bytes after behind h k = let a = same_bytes_agree (heading x c v) (heading y d w) bytes after behind h k in
    (cc, cc)

-- The headers of two replies that agree are equal: different shapes differ in some word.
replies_agree : (x y : ℕ) (r s : Reply) (after behind : List ℕ) → FieldsAgree (reply_fields x r) (reply_fields y s) after behind
    → (x ≡ y) × (r ≡ s) × (after ≡ behind)
replies_agree x y Success Success after behind h = (h.0, refl, cc)
replies_agree x y Mismatch Mismatch after behind h = (h.0, refl, cc)
replies_agree x y ProgUnavail ProgUnavail after behind h = (h.0, refl, cc)
replies_agree x y (ProgMismatch low high) (ProgMismatch lowest highest) after behind h = (h.0, cc, cc)
replies_agree x y ProcUnavail ProcUnavail after behind h = (h.0, refl, cc)
replies_agree x y GarbageArgs GarbageArgs after behind h = (h.0, refl, cc)
replies_agree x y r s after behind h = absurd (omega arith)

pub replies_prefix_free : RepliesPrefixFree
replies_prefix_free x y r s bytes after behind h k =
    replies_agree x y r s after behind (same_bytes_agree (reply_fields x r) (reply_fields y s) bytes after behind h k)
