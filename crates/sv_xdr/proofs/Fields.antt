-- A field is read from bytes exactly if the bytes begin with its encoding.
use Rattle.std.proofs.Common.{◌≡◌, ℕ, ◌+◌, ◌%◌, ◌<◌, ◌≤◌, ◌==◌, ◌^◌, Bool, true, false, cond, eqb, ltb, List, [], ◌∷◌, ◌++◌, length, take, drop, get_or, Result, Ok, Err, refl, sym, ap, subst, ◌∙◌, append_assoc, arith, inl, inr, rules, eq-eqb}
use Rattle.std.specs.List.{AllByRecursion, list_all}
use Rattle.std.proofs.lemmas.Int.{ints, of_z-to_z}
use Rattle.std.proofs.lemmas.Bool.Decides.{nat_tests}
use Rattle.std.proofs.lemmas.Bool.{cases_lt, ltb-false, le-ltb, eqb-true, and_parts, and_from}
use Rattle.std.proofs.lemmas.List.Elements.{All-get_or}
use Rattle.std.proofs.lemmas.List.{get_or_past, get_or-append-add, take_at, drop_at, take-append-drop, length-append, length-take, length-drop, drop-drop}
use Rattle.std.specs.Prelude.{ℤ, pos, negsuc, FitsSigned, All}
use Rattle.std.specs.Int.{w32, from_be_bytes, cast_signed, cast_unsigned, from_bool}
use Rattle.sv_xdr.specs.declared.fault.XdrFault.{XdrFault}
use Rattle.sv_xdr.specs.declared.fault.XdrFault.TheVariants.{Short, BadPad, BadBool, TooLong}
use Rattle.sv_xdr.specs.Spelling.{Field, Unsigned, Signed, Boolean, Opaque, IsWord, IsTwosComplement, IsPad, Begins, pad_len}
use Rattle.sv_xdr.specs.Reader.{◌>>=◌, unsigned_at, signed_at, boolean_at, padded_at, opaque_at}

-- If the whole reading succeeds, so did its first step.
pub bind_ok : {A B : Type 0} (r : Result A XdrFault) (f : A → Result B XdrFault) (y : B) → (r >>= f) ≡ Ok y
    → (x : A) × (r ≡ Ok x) × (f x ≡ Ok y)
bind_ok (Ok x) f y e = (x, refl, e)
bind_ok (Err fault) f y e = absurd cc

pub guard_ok : {A : Type 0} (b : Bool) (fault : XdrFault) (r : Result A XdrFault) (y : A) → cond b (Err fault) r ≡ Ok y
    → (b ≡ false) × (r ≡ Ok y)
guard_ok true fault r y e = absurd cc
guard_ok false fault r y e = (refl, e)

pub guard_true : {A : Type 0} (b : Bool) (fault : XdrFault) (r : Result A XdrFault) (y : A) → cond b r (Err fault) ≡ Ok y
    → (b ≡ true) × (r ≡ Ok y)
guard_true true fault r y e = (refl, e)
guard_true false fault r y e = absurd cc

pad_is_short : (n : ℕ) → pad_len n < 4
pad_is_short n = omega arith

pad_fills : (n : ℕ) → (n + pad_len n) % 4 ≡ 0
pad_fills n = omega arith

-- There is only one length for the padding.
pub pad_len_unique : (n k : ℕ) → k < 4 → (n + k) % 4 ≡ 0 → k ≡ pad_len n
pad_len_unique n k short fills = omega arith

zeros_all : (bytes : List ℕ) → list_all (λ byte. eqb byte 0) bytes ≡ true → AllByRecursion (λ byte. byte ≡ 0) bytes
zeros_all [] e = tt
zeros_all (b ∷ bytes) e =
    let both = and_parts (eqb b 0) (list_all (λ byte. eqb byte 0) bytes) e in
    (eqb-true b 0 both.0, zeros_all bytes both.1)

all_zeros : (bytes : List ℕ) → AllByRecursion (λ byte. byte ≡ 0) bytes → list_all (λ byte. eqb byte 0) bytes ≡ true
all_zeros [] h = refl
all_zeros (b ∷ bytes) h = and_from (eqb b 0) (list_all (λ byte. eqb byte 0) bytes) (eq-eqb b 0 h.0) (all_zeros bytes h.1)

ok_pair : {A : Type 0} (x y : A) → (let r : Result A XdrFault = Ok x in r) ≡ Ok y → x ≡ y
ok_pair x y e = cc

-- Data that are read with their padding are encoded there.
pub padded_takes : (n : ℕ) (bytes text after : List ℕ) → padded_at n bytes ≡ Ok (text, after)
    → (pad : List ℕ) × IsPad n pad × (length text ≡ n) × (bytes ≡ text ++ (pad ++ after))
unfolding padded_at
padded_takes n bytes text after e =
    let long = guard_ok (ltb (length bytes) (n + pad_len n)) Short _ (text, after) e in
    let zero = guard_true (list_all (λ byte. eqb byte 0) (take (pad_len n) (drop n bytes))) BadPad _ (text, after) long.1 in
    let pair = ok_pair _ _ zero.1 in
    let enough : n + pad_len n ≤ length bytes = ltb-false _ _ long.0 in
    let pad = take (pad_len n) (drop n bytes) in
    let pad_length : length pad ≡ pad_len n = omega (arith, length-take (pad_len n) (drop n bytes), length-drop n bytes) in
    let text_is : take n bytes ≡ text = ap (λ (p : List ℕ × List ℕ). p.0) pair in
    let after_is : drop (n + pad_len n) bytes ≡ after = ap (λ (p : List ℕ × List ℕ). p.1) pair in
    let text_length : length text ≡ n = rw (← text_is) (omega (arith, length-take n bytes)) in
    let parts : bytes ≡ take n bytes ++ (pad ++ drop (n + pad_len n) bytes) =
    sym (take-append-drop n bytes)
    ∙ ap (λ (rest : List ℕ). take n bytes ++ rest)
    (sym (take-append-drop (pad_len n) (drop n bytes)) ∙ ap (λ (rest : List ℕ). pad ++ rest) (drop-drop (pad_len n) n bytes)) in (
      pad,
      (rw pad_length (pad_is_short n), rw pad_length (pad_fills n), zeros_all pad zero.0),
      text_length,
      parts ∙ ap (λ (x : List ℕ). x ++ (pad ++ drop (n + pad_len n) bytes)) text_is ∙ ap (λ (x : List ℕ). text ++ (pad ++ x)) after_is,
    )

pub padded_of_parts : (size pad : ℕ) (bytes text rest zeros after : List ℕ) → pad ≡ pad_len size → size + pad ≤ length bytes
    → text ≡ take size bytes → rest ≡ drop size bytes → zeros ≡ take pad rest → after ≡ drop pad rest
    → list_all (λ byte. byte == 0) zeros ≡ true → padded_at size bytes ≡ Ok (text, after)
unfolding padded_at
padded_of_parts size pad bytes text rest zeros after pad_is fits front back zeros_are after_is all =
    rw (front, after_is, back, drop-drop pad size bytes, ← pad_is, le-ltb (length bytes) (size + pad) fits, ← back, ← zeros_are, all) refl

-- Encoded data with their padding are read.
pub padded_reads : (text pad after : List ℕ) → IsPad (length text) pad → padded_at (length text) (text ++ (pad ++ after)) ≡ Ok (text, after)
unfolding padded_at
padded_reads text pad after h =
    let size : length pad ≡ pad_len (length text) = pad_len_unique (length text) (length pad) h.0 h.1 in
    let long : length text + pad_len (length text) ≤ length (text ++ (pad ++ after)) =
    omega (arith, length-append text (pad ++ after), length-append pad after) in
    let pad_is : take (pad_len (length text)) (drop (length text) (text ++ (pad ++ after))) ≡ pad =
    ap (take (pad_len (length text))) (drop_at text (pad ++ after) (length text) refl) ∙ take_at pad after (pad_len (length text)) size in
    let zero : list_all (λ byte. eqb byte 0) (take (pad_len (length text)) (drop (length text) (text ++ (pad ++ after)))) ≡ true =
    rw pad_is (all_zeros pad h.2) in
    let after_is : drop (length text + pad_len (length text)) (text ++ (pad ++ after)) ≡ after =
    sym (drop-drop (pad_len (length text)) (length text) (text ++ (pad ++ after)))
    ∙ ap (drop (pad_len (length text))) (drop_at text (pad ++ after) (length text) refl)
    ∙ drop_at pad after (pad_len (length text)) size in
    rw (
      le-ltb (length (text ++ (pad ++ after))) (length text + pad_len (length text)) long,
      zero,
      after_is,
      take_at text (pad ++ after) (length text) refl,
    ) refl

pub unsigned_word_reads : (front after : List ℕ) (n : ℕ) → IsWord front n → unsigned_at (front ++ after) ≡ Ok (n, after)
unsigned_word_reads (a ∷ b ∷ c ∷ d ∷ []) after n h =
    let value : from_be_bytes w32 (a ∷ b ∷ c ∷ d ∷ []) ≡ n = omega (arith, h.4) in
    let long : 4 ≤ length (a ∷ b ∷ c ∷ d ∷ after) = omega arith in
    rw (le-ltb (length (a ∷ b ∷ c ∷ d ∷ after)) 4 long) (ap (λ (k : ℕ). let r : Result (ℕ × List ℕ) XdrFault = Ok (k, after) in r) value)
unsigned_word_reads _ after n h = absurd h

-- The encoding of opaque data is read as these data.
pub opaque_reads : (max : ℕ) (bytes text after : List ℕ) → Begins bytes (Opaque text) after → length text ≤ max
    → opaque_at max bytes ≡ Ok (text, after)
unfolding opaque_at
opaque_reads max bytes text after b le =
    let size = b.1.0 in
    let pad = b.1.1 in
    let regrouped : bytes ≡ size ++ (text ++ (pad ++ after)) = b.2 ∙ ap (λ (x : List ℕ). x ++ after) b.1.4 ∙ simp append_assoc in
    let first : unsigned_at bytes ≡ Ok (length text, text ++ (pad ++ after)) =
    ap unsigned_at regrouped ∙ unsigned_word_reads size (text ++ (pad ++ after)) (length text) b.1.2 in
    rw (first, le-ltb max (length text) le) (padded_reads text pad after b.1.3)

-- Opaque data that are read are encoded there.
pub opaque_takes : (bytes size rest text after : List ℕ) (n max : ℕ) → bytes ≡ size ++ rest → IsWord size n → n ≤ max
    → padded_at n rest ≡ Ok (text, after) → Begins bytes (Opaque text) after × (length text ≤ max)
opaque_takes bytes size rest text after n max front word le e =
    let t = padded_takes n rest text after e in
    let pad = t.0 in
    let parts : bytes ≡ (size ++ (text ++ pad)) ++ after = front ∙ ap (λ (x : List ℕ). size ++ x) t.3 ∙ simp append_assoc in
    ((size ++ (text ++ pad), (size, pad, rw t.2 word, rw t.2 t.1, refl), parts), rw t.2 le)

-- If the length isn't above the maximum, the bytes after it decide what is read.
pub opaque_length_decides : (max n : ℕ) (bytes rest text after : List ℕ) (r : Result (List ℕ × List ℕ) XdrFault)
    → unsigned_at bytes ≡ Ok (n, rest) → n ≤ max → padded_at n rest ≡ r
    → Begins bytes (Opaque text) after → length text ≤ max → r ≡ Ok (text, after)
unfolding opaque_at
opaque_length_decides max n bytes rest text after r first le second b short =
    let reads : opaque_at max bytes ≡ padded_at n rest = rw (first, le-ltb max n le) refl in
    sym second ∙ sym reads ∙ opaque_reads max bytes text after b short

pub ok_pair_parts : {A B : Type 0} (x y : A) (v w : B) → (let r : Result (A × B) XdrFault = Ok (x, v) in r) ≡ Ok (y, w) → (x ≡ y) × (v ≡ w)
ok_pair_parts {A} {B} x y v w e = (ap (λ (p : A × B). p.0) (ok_pair (x, v) (y, w) e), ap (λ (p : A × B). p.1) (ok_pair (x, v) (y, w) e))

-- All elements are bytes.
abbrev pub IsBytes : List ℕ → Type 0
IsBytes bytes = (i : ℕ) → get_or bytes i 0 < 256

pub bytes_are : (bytes : List ℕ) → All (λ byte. byte < 256) bytes → IsBytes bytes
bytes_are bytes all i = elim (cases_lt i (length bytes)) [
  | inl within ↦ All-get_or (λ byte. byte < 256) bytes i 0 within all
  | inr beyond ↦ rw (get_or_past bytes i 0 beyond) (omega arith)
]

-- What follows a field's encoding are bytes.
pub bytes_after : (field : Field) (bytes after : List ℕ) → IsBytes bytes → Begins bytes field after → IsBytes after
bytes_after field bytes after fits b = λ i.
    let e = ap (λ (l : List ℕ). get_or l (length b.0 + i) 0) b.2 ∙ get_or-append-add b.0 after i 0 in
    omega (arith, fits (length b.0 + i), e)

pub unsigned_reads : (bytes after : List ℕ) (n : ℕ) → Begins bytes (Unsigned n) after → unsigned_at bytes ≡ Ok (n, after)
unsigned_reads bytes after n b = ap unsigned_at b.2 ∙ unsigned_word_reads b.0 after n b.1

pub unsigned_takes : (bytes after : List ℕ) (n : ℕ) → IsBytes bytes → unsigned_at bytes ≡ Ok (n, after) → Begins bytes (Unsigned n) after
unsigned_takes (a ∷ b ∷ c ∷ d ∷ rest) after n fits e =
    let long = guard_ok (ltb (length (a ∷ b ∷ c ∷ d ∷ rest)) 4) Short _ (n, after) e in
    let parts = ok_pair_parts (from_be_bytes w32 (a ∷ b ∷ c ∷ d ∷ [])) n rest after long.1 in
    (a ∷ b ∷ c ∷ d ∷ [], (fits 0, fits 1, fits 2, fits 3, omega (arith, parts.0)), ap (λ (l : List ℕ). a ∷ b ∷ c ∷ d ∷ l) parts.1)
unsigned_takes _ after n fits e = absurd cc

-- Opaque data that are read are encoded there, with their length.
pub opaque_at_takes : (max : ℕ) (bytes text after : List ℕ) → IsBytes bytes → opaque_at max bytes ≡ Ok (text, after)
    → Begins bytes (Opaque text) after × (length text ≤ max)
unfolding opaque_at
opaque_at_takes max bytes text after fits e =
    let size = bind_ok (unsigned_at bytes) (λ n. cond (ltb max n.0) (Err TooLong) (padded_at n.0 n.1)) (text, after) e in
    let n = size.0.0 in
    let front = unsigned_takes bytes size.0.1 n fits size.1 in
    let short = guard_ok (ltb max n) TooLong _ (text, after) size.2 in
    opaque_takes bytes front.0 size.0.1 text after n max front.2 front.1 (ltb-false _ _ short.0) short.1

pub word_fits : (bytes : List ℕ) (n : ℕ) → IsWord bytes n → n < 2 ^ 32
word_fits (a ∷ b ∷ c ∷ d ∷ []) n h = omega arith
word_fits _ n h = absurd h

-- A signed integer is encoded as its two's complement.
complement_of : (z : ℤ) → FitsSigned w32 z → IsTwosComplement (cast_unsigned w32 z) z
complement_of (pos k) h = (omega (arith, h.sfits), refl)
complement_of (negsuc k) h = (omega (arith, h.sfits), omega (arith, h.sfits))

-- Each 32-bit word is the two's complement of the signed integer to which it is cast.
signed_of : (n : ℕ) → n < 2 ^ 32 → IsTwosComplement n (cast_signed w32 n)
signed_of n h = subst (λ (m : ℕ). IsTwosComplement m (cast_signed w32 n)) (of_z-to_z w32 n h)
    (complement_of (cast_signed w32 n) (search rules))

-- A word is the two's complement of only one signed integer.
signed_is : (n : ℕ) (z : ℤ) → IsTwosComplement n z → cast_signed w32 n ≡ z
signed_is n (pos k) h = omega (arith, ints)
signed_is n (negsuc k) h = grind (arith, ints)

pub signed_reads : (bytes after : List ℕ) (z : ℤ) → Begins bytes (Signed z) after → signed_at bytes ≡ Ok (z, after)
unfolding signed_at
signed_reads bytes after z b = rw (unsigned_reads bytes after b.1.0 (b.0, b.1.1, b.2), signed_is b.1.0 z b.1.2) refl

pub signed_takes : (bytes after : List ℕ) (z : ℤ) → IsBytes bytes → signed_at bytes ≡ Ok (z, after) → Begins bytes (Signed z) after
unfolding signed_at
signed_takes bytes after z fits e =
    let word = bind_ok (unsigned_at bytes) (λ n. Ok (cast_signed w32 n.0, n.1)) (z, after) e in
    let n = word.0.0 in
    let parts = ok_pair_parts (cast_signed w32 n) z word.0.1 after word.2 in
    let b = unsigned_takes bytes word.0.1 n fits word.1 in
    (b.0, (n, b.1, subst (IsTwosComplement n) parts.0 (signed_of n (word_fits b.0 n b.1))), b.2 ∙ ap (λ (l : List ℕ). b.0 ++ l) parts.1)

pub boolean_reads : (bytes after : List ℕ) (value : Bool) → Begins bytes (Boolean value) after → boolean_at bytes ≡ Ok (value, after)
unfolding boolean_at
boolean_reads bytes after false b = rw (unsigned_reads bytes after 0 b) refl
boolean_reads bytes after true b = rw (unsigned_reads bytes after 1 b) refl

-- A boolean is encoded as 0 or 1.
truth_of : (n : ℕ) (rest after : List ℕ) (value : Bool)
    → (let r : Result (Bool × List ℕ) XdrFault = cond (eqb n 0) (Ok (false, rest)) (cond (eqb n 1) (Ok (true, rest)) (Err BadBool)) in r)
    ≡ Ok (value, after)
    → (n ≡ from_bool value) × (rest ≡ after)
truth_of n rest after value e = (grind (arith, nat_tests), grind (arith, nat_tests))

pub boolean_takes : (bytes after : List ℕ) (value : Bool) → IsBytes bytes → boolean_at bytes ≡ Ok (value, after)
    → Begins bytes (Boolean value) after
unfolding boolean_at
boolean_takes bytes after value fits e =
    let word = bind_ok (unsigned_at bytes) _ (value, after) e in
    let b = unsigned_takes bytes word.0.1 word.0.0 fits word.1 in
    let truth = truth_of word.0.0 word.0.1 after value word.2 in
    (b.0, subst (IsWord b.0) truth.0 b.1, b.2 ∙ ap (λ (l : List ℕ). b.0 ++ l) truth.1)
