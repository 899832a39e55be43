-- A header that fits the table has at most five mnemonics, each of at most 12 characters.
use Rattle.std.proofs.Common.{◌≡◌, ℕ, zero, suc, ◌+◌, ◌<◌, ◌≤◌, ◌&&◌, Bool, true, List, [], ◌∷◌, ◌++◌, length, refl, sym, ap, ◌∙◌, inl, inr, slice_index_or, arith, leb-true, length-append}
use Rattle.std.proofs.lemmas.Bool.{and_parts}
use Rattle.std.specs.Prelude.{nat_le}
use Rattle.std.specs.List.{list_all}
use Rattle.std.proofs.lemmas.List.{length-map}
use Rattle.sv_text.specs.Header.{lead, mnemonics}
use Rattle.sv_text.specs.declared.header.Lead.{Lead}
use Rattle.sv_header.specs.declared.command.CommandId.{CommandId}
use Rattle.sv_header.specs.Pattern.{Part, Row, Same, IsForm, Fits}
use Rattle.sv_header.specs.Plain.{is_short}
use Rattle.sv_header.specs.Table.{table}
use Rattle.sv_header.specs.Resolve.{Resolves, path_before, full, but_last}

-- Whether both forms of a node have at most 12 characters.
abbrev is_small : Part → Bool
is_small part = nat_le (length part.short) 12 && nat_le (length part.long) 12

-- Whether a row has at most five nodes, all of them with short enough forms.
abbrev is_small_row : Row → Bool
is_small_row row = nat_le (length row.parts) 5 && list_all is_small row.parts

-- A mnemonic has as many characters as the form that it matches.
short_same : (sent form : List ℕ) → nat_le (length form) 12 ≡ true → Same sent form → is_short sent ≡ true
short_same sent form h same =
    let e : length sent ≡ length form = sym (length-map sent _) ∙ ap length same ∙ length-map form _ in
    rw e h

form_short : (sent : List ℕ) (part : Part) → is_small part ≡ true → IsForm sent part → is_short sent ≡ true
form_short sent part s (inl h) = short_same sent part.short (and_parts _ _ s).0 h
form_short sent part s (inr h) = short_same sent part.long (and_parts _ _ s).1 h

le_from_nat_le : (n m : ℕ) → nat_le n m ≡ true → n ≤ m
le_from_nat_le n m h = leb-true n m h

-- Mnemonics that fit are no more than the nodes, and none has more than 12 characters.
pub fits_small : (sent : List (List ℕ)) (parts : List Part) → list_all is_small parts ≡ true → Fits sent parts
    → (length sent ≤ length parts) × (list_all is_short sent ≡ true)
fits_small sent [] s e = rw e (omega arith, refl)
fits_small [] (part ∷ parts) s (inl f) = absurd f
fits_small (mnemonic ∷ others) (part ∷ parts) s (inl f) =
    let b : (is_small part ≡ true) × (list_all is_small parts ≡ true) = and_parts _ _ s in
    let rest : (length others ≤ length parts) × (list_all is_short others ≡ true) = fits_small others parts b.1 f.1 in
    (omega (arith, rest.0), rw (form_short mnemonic part b.0 f.0) rest.1)
fits_small sent (part ∷ parts) s (inr f) =
    let b : (is_small part ≡ true) × (list_all is_small parts ≡ true) = and_parts _ _ s in
    let rest : (length sent ≤ length parts) × (list_all is_short sent ≡ true) = fits_small sent parts b.1 f.1 in
    (omega (arith, rest.0), rest.1)

pub holds_at_place : (test : Row → Bool) (rows : List Row) (k : ℕ) (row : Row) → list_all test rows ≡ true → k < length rows
    → slice_index_or rows k row ≡ row → test row ≡ true
holds_at_place test [] k row all lt e = absurd (omega arith)
holds_at_place test (r ∷ rows) zero row all lt e = ap test (sym e) ∙ (and_parts _ _ all).0
holds_at_place test (r ∷ rows) (suc k) row all lt e = holds_at_place test rows k row (and_parts _ _ all).1 (omega arith) e

table_small : list_all is_small_row table ≡ true
table_small = refl

-- If a header names a command, path and header together have at most five mnemonics, each of at
-- most 12 characters.
pub resolves_small : (path : List (List ℕ)) (header : List ℕ) (command : CommandId) → Resolves path header command
    → (length (full path header) ≤ 5) × (list_all is_short (full path header) ≡ true)
resolves_small path header command h =
    let row = h.0 in
    let b = and_parts _ _ (holds_at_place is_small_row table h.1.0 row table_small h.1.1 h.1.2) in
    let f = fits_small (full path header) row.parts b.1 h.3.2 in
    let l = le_from_nat_le _ _ b.0 in
    (omega (arith, l, f.0), f.1)

pub but_last_of_append : (path : List (List ℕ)) (last : List ℕ) → but_last (path ++ last ∷ []) ≡ path
but_last_of_append [] last = refl
but_last_of_append (part ∷ []) last = refl
but_last_of_append (part ∷ other ∷ others) last = ap (λ ps. part ∷ ps) (but_last_of_append (other ∷ others) last)

all_of_suffix : (test : List ℕ → Bool) (front behind : List (List ℕ)) → list_all test (front ++ behind) ≡ true → list_all test behind ≡ true
all_of_suffix test [] behind h = h
all_of_suffix test (part ∷ front) behind h = all_of_suffix test front behind (and_parts _ _ h).1

-- A path and a header's mnemonics are few enough together, and each of these mnemonics is short.
abbrev pub AreSmall : List (List ℕ) → List (List ℕ) → Type 0
AreSmall path sent = (length path + length sent ≤ 5) × (list_all is_short sent ≡ true)

small_at : (l : Lead) (path sent : List (List ℕ))
    → (length (path_before l path ++ sent) ≤ 5) × (list_all is_short (path_before l path ++ sent) ≡ true)
    → AreSmall (path_before l path) sent
small_at l path sent h = (omega (arith, h.0, length-append (path_before l path) sent), all_of_suffix is_short (path_before l path) sent h.1)

-- The mnemonics of a header that names a command are small enough together with those before them.
pub resolved_small : (path : List (List ℕ)) (header : List ℕ) (command : CommandId) → Resolves path header command
    → AreSmall (path_before (lead header) path) (mnemonics header)
resolved_small path header command h = small_at (lead header) path (mnemonics header) (resolves_small path header command h)

-- The first mnemonic of a header follows those that are looked up before the header's own.
pub first_follows : (before others path : List (List ℕ)) (first header : List ℕ) → before ≡ path_before (lead header) path
    → mnemonics header ≡ first ∷ others → AreSmall (path_before (lead header) path) (mnemonics header)
    → (before ++ first ∷ others ≡ full path header) × (length before + 1 + length others ≤ 5)
    × (list_all is_short (first ∷ others) ≡ true)
first_follows before others path first header is sent small = (
  ap (λ (front : List (List ℕ)). front ++ first ∷ others) is
      ∙ ap (λ (own : List (List ℕ)). path_before (lead header) path ++ own) (sym sent),
  (let front = ap length is in let own = ap length sent in omega (arith, small.0, front, own)),
  ap (list_all is_short) (sym sent) ∙ small.1,
)
