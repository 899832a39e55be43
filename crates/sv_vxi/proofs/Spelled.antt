-- Fields are read from bytes exactly if the bytes begin with their encoding.
use Rattle.std.proofs.Common.{◌≡◌, ◌≤◌, ℕ, ℤ, Bool, List, [], ◌∷◌, length, Result, Ok, Err, refl, ap, ◌∙◌, arith}
use Rattle.std.specs.Bool.{⊤}
use Rattle.sv_xdr.specs.declared.fault.XdrFault.{XdrFault}
use Rattle.sv_xdr.specs.declared.garbage.Garbage.{Garbage}
use Rattle.sv_xdr.specs.Garbage.{◌>>=◌}
use Rattle.sv_xdr.specs.Spelling.{Field, Unsigned, Signed, Boolean, Opaque, Begins, BeginsAll}
use Rattle.sv_xdr.specs.Reader.{unsigned_at, signed_at, boolean_at, opaque_at}
use Rattle.sv_xdr.proofs.Fields.{IsBytes, bytes_after, unsigned_reads, signed_reads, boolean_reads, opaque_reads, word_fits, unsigned_takes, signed_takes, boolean_takes, opaque_at_takes}
use Rattle.std.specs.Result.{result_map_both}
use Rattle.sv_vxi.specs.Arguments.{LinkCall, Arguments, OnLink}
use Rattle.sv_vxi.specs.Reading.{Kind, signed, unsigned, boolean, opaque, Makes, read, read_on_link}

-- The values of fields of these kinds, their encoding, and what is made of them.
abbrev pub Values : List Kind → Type 0
Values [] = ⊤
Values (signed ∷ kinds) = ℤ × Values kinds
Values (unsigned ∷ kinds) = ℕ × Values kinds
Values (boolean ∷ kinds) = Bool × Values kinds
Values (opaque most ∷ kinds) = List ℕ × Values kinds

abbrev pub fields : (kinds : List Kind) → Values kinds → List Field
fields [] values = []
fields (signed ∷ kinds) values = Signed values.0 ∷ fields kinds values.1
fields (unsigned ∷ kinds) values = Unsigned values.0 ∷ fields kinds values.1
fields (boolean ∷ kinds) values = Boolean values.0 ∷ fields kinds values.1
fields (opaque most ∷ kinds) values = Opaque values.0 ∷ fields kinds values.1

abbrev pub make : {A : Type 0} → (kinds : List Kind) → Makes kinds A → Values kinds → A
make [] makes values = makes
make (signed ∷ kinds) makes values = make kinds (makes values.0) values.1
make (unsigned ∷ kinds) makes values = make kinds (makes values.0) values.1
make (boolean ∷ kinds) makes values = make kinds (makes values.0) values.1
make (opaque most ∷ kinds) makes values = make kinds (makes values.0) values.1

-- No opaque data exceed their maximum.
abbrev pub Bounded : (kinds : List Kind) → Values kinds → Type 0
Bounded [] values = ⊤
Bounded (signed ∷ kinds) values = Bounded kinds values.1
Bounded (unsigned ∷ kinds) values = Bounded kinds values.1
Bounded (boolean ∷ kinds) values = Bounded kinds values.1
Bounded (opaque most ∷ kinds) values = (length values.0 ≤ most) × Bounded kinds values.1

pub opaque_length_bound : {bytes after : List ℕ} (text : List ℕ) → Begins bytes (Opaque text) after → length text ≤ 4294967295
opaque_length_bound {bytes} {after} text b = omega (arith, word_fits b.1.0 (length text) b.1.2)

-- Encoded fields are read.
pub encoded_fields_are_read : {A : Type 0} (kinds : List Kind) (makes : Makes kinds A) (values : Values kinds) (bytes after : List ℕ)
    → Bounded kinds values → BeginsAll bytes (fields kinds values) after → read kinds makes bytes ≡ Ok (make kinds makes values)
encoded_fields_are_read [] makes values bytes after bounds h = refl
encoded_fields_are_read (signed ∷ kinds) makes values bytes after bounds h =
    rw (signed_reads _ _ _ h.1) (encoded_fields_are_read kinds (makes values.0) values.1 h.0 after bounds h.2)
encoded_fields_are_read (unsigned ∷ kinds) makes values bytes after bounds h =
    rw (unsigned_reads _ _ _ h.1) (encoded_fields_are_read kinds (makes values.0) values.1 h.0 after bounds h.2)
encoded_fields_are_read (boolean ∷ kinds) makes values bytes after bounds h =
    rw (boolean_reads _ _ _ h.1) (encoded_fields_are_read kinds (makes values.0) values.1 h.0 after bounds h.2)
encoded_fields_are_read (opaque most ∷ kinds) makes values bytes after bounds h =
    rw (opaque_reads most _ _ _ h.1 bounds.0) (encoded_fields_are_read kinds (makes values.0) values.1 h.0 after bounds.1 h.2)

bind_ok : {A B : Type 0} (r : Result A XdrFault) (f : A → Result B Garbage) (b : B) → (r >>= f) ≡ Ok b → (x : A) × (r ≡ Ok x) × (f x ≡ Ok b)
bind_ok (Ok x) f b e = (x, refl, e)
bind_ok (Err fault) f b e = absurd cc

-- The value is made of fields whose encoding the bytes begin with.
abbrev Read : {A : Type 0} → (kinds : List Kind) → Makes kinds A → List ℕ → A → Type 0
Read kinds makes bytes a = (values : Values kinds) × (a ≡ make kinds makes values) × Bounded kinds values × (after : List ℕ)
    × BeginsAll bytes (fields kinds values) after

pub read_takes : {A : Type 0} (kinds : List Kind) (makes : Makes kinds A) (bytes : List ℕ) (a : A) → IsBytes bytes
    → read kinds makes bytes ≡ Ok a → Read kinds makes bytes a
read_takes [] makes bytes a fits e = (tt, cc, tt, bytes, refl)
read_takes (signed ∷ kinds) makes bytes a fits e =
    let s = bind_ok (signed_at bytes) (λ x. read kinds (makes x.0) x.1) a e in
    let b = signed_takes bytes s.0.1 s.0.0 fits s.1 in
    let r = read_takes kinds (makes s.0.0) s.0.1 a (bytes_after (Signed s.0.0) bytes s.0.1 fits b) s.2 in
    ((s.0.0, r.0), r.1, r.2, r.3, (s.0.1, b, r.4))
read_takes (unsigned ∷ kinds) makes bytes a fits e =
    let s = bind_ok (unsigned_at bytes) (λ x. read kinds (makes x.0) x.1) a e in
    let b = unsigned_takes bytes s.0.1 s.0.0 fits s.1 in
    let r = read_takes kinds (makes s.0.0) s.0.1 a (bytes_after (Unsigned s.0.0) bytes s.0.1 fits b) s.2 in
    ((s.0.0, r.0), r.1, r.2, r.3, (s.0.1, b, r.4))
read_takes (boolean ∷ kinds) makes bytes a fits e =
    let s = bind_ok (boolean_at bytes) (λ x. read kinds (makes x.0) x.1) a e in
    let b = boolean_takes bytes s.0.1 s.0.0 fits s.1 in
    let r = read_takes kinds (makes s.0.0) s.0.1 a (bytes_after (Boolean s.0.0) bytes s.0.1 fits b) s.2 in
    ((s.0.0, r.0), r.1, r.2, r.3, (s.0.1, b, r.4))
read_takes (opaque most ∷ kinds) makes bytes a fits e =
    let s = bind_ok (opaque_at most bytes) (λ x. read kinds (makes x.0) x.1) a e in
    let b = opaque_at_takes most bytes s.0.0 s.0.1 fits s.1 in
    let r = read_takes kinds (makes s.0.0) s.0.1 a (bytes_after (Opaque s.0.0) bytes s.0.1 fits b.0) s.2 in
    ((s.0.0, r.0), r.1, (b.1, r.2), r.3, (s.0.1, b.0, r.4))

-- ---- calls on a link

pub encoded_link_call_is_read : (kinds : List Kind) (makes : Makes kinds LinkCall) (lid : ℤ) (values : Values kinds) (bytes after : List ℕ)
    → Bounded kinds values → BeginsAll bytes (Signed lid ∷ fields kinds values) after
    → read_on_link kinds makes bytes ≡ Ok (OnLink lid (make kinds makes values))
encoded_link_call_is_read kinds makes lid values bytes after bounds h =
    rw (signed_reads _ _ _ h.1, encoded_fields_are_read kinds makes values h.0 after bounds h.2) refl

map_ok : (lid : ℤ) (r : Result LinkCall Garbage) (a : Arguments) → result_map_both (OnLink lid) (λ garbage. garbage) r ≡ Ok a
    → (call : LinkCall) × (r ≡ Ok call) × (a ≡ OnLink lid call)
map_ok lid (Ok call) a e = (call, refl, cc)
map_ok lid (Err garbage) a e = absurd cc

pub on_link_takes : (kinds : List Kind) (makes : Makes kinds LinkCall) (bytes : List ℕ) (a : Arguments) → IsBytes bytes
    → read_on_link kinds makes bytes ≡ Ok a → (lid : ℤ) × (values : Values kinds) × (a ≡ OnLink lid (make kinds makes values))
    × Bounded kinds values × (after : List ℕ) × BeginsAll bytes (Signed lid ∷ fields kinds values) after
on_link_takes kinds makes bytes a fits e =
    let s = bind_ok (signed_at bytes) (λ x. result_map_both (OnLink x.0) (λ garbage. garbage) (read kinds makes x.1)) a e in
    let b = signed_takes bytes s.0.1 s.0.0 fits s.1 in
    let m = map_ok s.0.0 (read kinds makes s.0.1) a s.2 in
    let r = read_takes kinds makes s.0.1 m.0 (bytes_after (Signed s.0.0) bytes s.0.1 fits b) m.1 in
    (s.0.0, r.0, m.2 ∙ ap (λ (call : LinkCall). OnLink s.0.0 call) r.1, r.2, r.3, (s.0.1, b, r.4))
