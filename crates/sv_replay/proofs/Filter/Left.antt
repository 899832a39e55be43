-- The filter removes the lines that an explained replay adds and keeps all others, also in part.
use Rattle.std.proofs.Common.{◌≡◌, ◌≢◌, ◌⊎◌, ℕ, ◌==◌, cond, Bool, true, false, List, [], ◌∷◌, ◌++◌, drop, slice_index_or, map, refl, sym, ap, subst, ◌∙◌, inl, inr, append_assoc, append-nil}
use Rattle.std.specs.List.{onto_first as onto, concat}
use Rattle.sv_print.specs.TakenByWriter.{IsFront}
use Rattle.sv_replay.specs.Script.{parts}
use Rattle.sv_replay.specs.Filtered.{is_told, left_of, filtered}
use Rattle.sv_replay.proofs.Parts.{parts_never_empty}

-- ---- texts without a new line

abbrev pub has_no_newline : List ℕ → Bool
has_no_newline [] = true
has_no_newline (b ∷ text) = cond (b == 10) false (has_no_newline text)

abbrev pub HasNoNewline : List ℕ → Type 0
HasNoNewline text = has_no_newline text ≡ true

pub no_newline_cons : (b : ℕ) (text : List ℕ) → (b == 10) ≡ false → HasNoNewline text → HasNoNewline (b ∷ text)
no_newline_cons b text e h = ap (λ (t : Bool). cond t false (has_no_newline text)) e ∙ h

pub no_newline_uncons : (b : ℕ) (text : List ℕ) → HasNoNewline (b ∷ text) → ((b == 10) ≡ false) × HasNoNewline text
no_newline_uncons b text h = here (b == 10) h
  where
    here : (t : Bool) → cond t false (has_no_newline text) ≡ true → (t ≡ false) × HasNoNewline text
    here true e = absurd cc
    here false e = (refl, e)

pub no_newline_append : (a b : List ℕ) → HasNoNewline a → HasNoNewline b → HasNoNewline (a ++ b)
no_newline_append [] b h k = k
no_newline_append (x ∷ a) b h k = let (other, rest) = no_newline_uncons x a h in
    no_newline_cons x (a ++ b) other (no_newline_append a b rest k)

no_newline_prefix : (a b : List ℕ) → HasNoNewline (a ++ b) → HasNoNewline a
no_newline_prefix [] b h = refl
no_newline_prefix (x ∷ a) b h = let (other, rest) = no_newline_uncons x (a ++ b) h in no_newline_cons x a other (no_newline_prefix a b rest)

-- ---- the first line of a text

parts_of_first_line : (line behind : List ℕ) → HasNoNewline line → parts (line ++ 10 ∷ behind) ≡ line ∷ parts behind
parts_of_first_line [] behind h = refl
parts_of_first_line (x ∷ line) behind h =
    let (other, rest) = no_newline_uncons x line h in
    ap (λ (t : Bool). cond t ([] ∷ parts (line ++ 10 ∷ behind)) (onto x (parts (line ++ 10 ∷ behind)))) other
    ∙ ap (onto x) (parts_of_first_line line behind rest)

parts_of_open_line : (line : List ℕ) → HasNoNewline line → parts line ≡ line ∷ []
parts_of_open_line [] h = refl
parts_of_open_line (x ∷ line) h =
    let (other, rest) = no_newline_uncons x line h in
    ap (λ (t : Bool). cond t ([] ∷ parts line) (onto x (parts line))) other ∙ ap (onto x) (parts_of_open_line line rest)

filter_drops_line : (line : List ℕ) (lines : List (List ℕ)) → is_told line ≡ true → lines ≢ [] → left_of (line ∷ lines) ≡ left_of lines
filter_drops_line line [] told some = absurd (some refl)
filter_drops_line line (next ∷ lines) told some = ap (λ (t : Bool). cond t [] (line ++ 10 ∷ []) ++ left_of (next ∷ lines)) told

filter_keeps_line : (line : List ℕ) (lines : List (List ℕ)) → is_told line ≡ false → lines ≢ []
    → left_of (line ∷ lines) ≡ (line ++ 10 ∷ []) ++ left_of lines
filter_keeps_line line [] told some = absurd (some refl)
filter_keeps_line line (next ∷ lines) told some = ap (λ (t : Bool). cond t [] (line ++ 10 ∷ []) ++ left_of (next ∷ lines)) told

-- ---- prefixes

-- A prefix of `a ++ b` is a prefix of `a`, or `a` followed by a prefix of `b`.
prefix_of_append : (a b part : List ℕ) → IsFront part (a ++ b) → IsFront part a ⊎ ((q : List ℕ) × IsFront q b × (part ≡ a ++ q))
prefix_of_append [] b part f = inr (part, f, refl)
prefix_of_append (x ∷ a) b [] f = inl (x ∷ a, refl)
prefix_of_append (x ∷ a) b (y ∷ part) (rest, e) =
    let head : x ≡ y = ap (λ (l : List ℕ). slice_index_or l 0 0) e in
    elim (prefix_of_append a b part (rest, ap (λ (l : List ℕ). drop 1 l) e)) [
      | inl (more, is) ↦ inl (more, ap (λ (l : List ℕ). x ∷ l) is ∙ ap (λ (h : ℕ). h ∷ (part ++ more)) head)
      | inr (q, of, is) ↦ inr (q, of, ap (λ (l : List ℕ). y ∷ l) is ∙ ap (λ (h : ℕ). h ∷ (a ++ q)) (sym head))
    ]

prefix_of_nothing : (part : List ℕ) → IsFront part [] → part ≡ []
prefix_of_nothing [] f = refl
prefix_of_nothing (x ∷ part) (rest, e) = absurd cc

-- A prefix of a line is the whole line, or a prefix of the line without its new line.
prefix_of_line : (line part : List ℕ) → IsFront part (line ++ 10 ∷ []) → IsFront part line ⊎ (part ≡ line ++ 10 ∷ [])
prefix_of_line line part f = elim (prefix_of_append line (10 ∷ []) part f) [
  | inl of ↦ inl of
  | inr (q, of, is) ↦ by q of is
]
  where
    by : (q : List ℕ) → IsFront q (10 ∷ []) → part ≡ line ++ q → IsFront part line ⊎ (part ≡ line ++ 10 ∷ [])
    by [] of is = inl ([], sym (append-nil line) ∙ sym is ∙ sym (append-nil part))
    by (y ∷ q) (rest, e) is =
        let head : 10 ≡ y = ap (λ (l : List ℕ). slice_index_or l 0 0) e in
        let none : q ≡ [] = prefix_of_nothing q (rest, ap (λ (l : List ℕ). drop 1 l) e) in
        inr (is ∙ ap (λ (l : List ℕ). line ++ y ∷ l) none ∙ ap (λ (h : ℕ). line ++ h ∷ []) (sym head))

-- A prefix of a line has the line's first byte, so the filter takes it for the same kind of line.
is_told_of_prefix : (part line : List ℕ) → IsFront part line → (part ≡ []) ⊎ (is_told part ≡ is_told line)
is_told_of_prefix [] line f = inl refl
is_told_of_prefix (x ∷ part) [] (rest, e) = absurd cc
is_told_of_prefix (x ∷ part) (y ∷ line) (rest, e) =
    inr (ap (λ (l : List ℕ). is_told (slice_index_or l 0 0 ∷ [])) (sym e))

-- ---- single lines

-- The only new line of the text is its last byte.
abbrev pub IsLine : List ℕ → Type 0
IsLine text = (line : List ℕ) × HasNoNewline line × (text ≡ line ++ 10 ∷ [])

pub newline_is_line : IsLine (10 ∷ [])
newline_is_line = ([], refl, refl)

pub prepend_to_line : (a b : List ℕ) → HasNoNewline a → IsLine b → IsLine (a ++ b)
prepend_to_line a b h (line, rest, is) =
    (a ++ line, no_newline_append a line h rest, ap (λ (l : List ℕ). a ++ l) is ∙ sym (append_assoc a line (10 ∷ [])))

pub byte_before_line : (x : ℕ) (b : List ℕ) → (x == 10) ≡ false → IsLine b → IsLine (x ∷ b)
byte_before_line x b h (line, rest, is) = (x ∷ line, no_newline_cons x line h rest, ap (λ (l : List ℕ). x ∷ l) is)

is_told_without_newline : (line : List ℕ) → is_told (line ++ 10 ∷ []) ≡ is_told line
is_told_without_newline [] = refl
is_told_without_newline (x ∷ line) = refl

-- ---- texts that the filter removes

-- The filter removes the text, whatever follows it, and every prefix of it.
abbrev pub IsFilteredOut : List ℕ → Type 0
IsFilteredOut text = ((behind : List ℕ) → filtered (text ++ behind) ≡ filtered behind)
    × ((part : List ℕ) → IsFront part text → filtered part ≡ [])

pub hidden_none : IsFilteredOut []
hidden_none = (λ behind. refl, λ part front. ap filtered (prefix_of_nothing part front))

pub hidden_append : (a b : List ℕ) → IsFilteredOut a → IsFilteredOut b → IsFilteredOut (a ++ b)
hidden_append a b h k = (
  λ behind. ap filtered (append_assoc a b behind) ∙ h.0 (b ++ behind) ∙ k.0 behind,
  λ part front. elim (prefix_of_append a b part front) [
    | inl of ↦ h.1 part of
    | inr (q, of, is) ↦ ap filtered is ∙ h.0 q ∙ k.1 q of
  ],
)

hidden_front : (line part : List ℕ) → HasNoNewline line → is_told line ≡ true → IsFront part line → filtered part ≡ []
hidden_front line part h told (rest, is) =
    let open_part : HasNoNewline part = no_newline_prefix part rest (subst HasNoNewline is h) in
    elim (is_told_of_prefix part line (rest, is)) [
      | inl none ↦ ap filtered none
      | inr same ↦ ap left_of (parts_of_open_line part open_part) ∙ ap (λ (t : Bool). cond t [] part) (same ∙ told)
    ]

pub hidden_line : (text : List ℕ) → IsLine text → is_told text ≡ true → IsFilteredOut text
hidden_line text (line, whole, is) told =
    subst IsFilteredOut (sym is) (
      all,
      λ part front. elim (prefix_of_line line part front) [
        | inl of ↦ hidden_front line part whole mark of
        | inr same ↦ ap filtered (same ∙ sym (append-nil (line ++ 10 ∷ []))) ∙ all []
      ],
    )
  where
    mark : is_told line ≡ true
    mark = sym (is_told_without_newline line) ∙ ap is_told (sym is) ∙ told

    all : (behind : List ℕ) → filtered ((line ++ 10 ∷ []) ++ behind) ≡ filtered behind
    all behind = ap filtered (append_assoc line (10 ∷ []) behind) ∙ ap left_of (parts_of_first_line line behind whole)
        ∙ filter_drops_line line (parts behind) mark (parts_never_empty behind)

pub hidden_all : {X : Type 0} (f : X → List ℕ) (xs : List X) → ((x : X) → IsFilteredOut (f x)) → IsFilteredOut (concat (map f xs))
hidden_all f [] h = hidden_none
hidden_all f (x ∷ xs) h = hidden_append (f x) (concat (map f xs)) (h x) (hidden_all f xs h)

pub hidden_if : (test : Bool) (text : List ℕ) → IsFilteredOut text → IsFilteredOut (cond test [] text)
hidden_if true text h = hidden_none
hidden_if false text h = h

-- ---- texts that the filter keeps

-- The filter keeps the text, whatever follows it, and every prefix of it.
abbrev pub IsKeptByFilter : List ℕ → Type 0
IsKeptByFilter text = ((behind : List ℕ) → filtered (text ++ behind) ≡ text ++ filtered behind)
    × ((part : List ℕ) → IsFront part text → filtered part ≡ part)

pub left_none : IsKeptByFilter []
left_none = (λ behind. refl, λ part front. ap filtered (prefix_of_nothing part front) ∙ sym (prefix_of_nothing part front))

pub left_append : (a b : List ℕ) → IsKeptByFilter a → IsKeptByFilter b → IsKeptByFilter (a ++ b)
left_append a b h k = (
  λ behind. ap filtered (append_assoc a b behind) ∙ h.0 (b ++ behind) ∙ ap (λ (l : List ℕ). a ++ l) (k.0 behind)
      ∙ sym (append_assoc a b (filtered behind)),
  λ part front. elim (prefix_of_append a b part front) [
    | inl of ↦ h.1 part of
    | inr (q, of, is) ↦ ap filtered is ∙ h.0 q ∙ ap (λ (l : List ℕ). a ++ l) (k.1 q of) ∙ sym is
  ],
)

left_front : (line part : List ℕ) → HasNoNewline line → is_told line ≡ false → IsFront part line → filtered part ≡ part
left_front line part h told (rest, is) =
    let open_part : HasNoNewline part = no_newline_prefix part rest (subst HasNoNewline is h) in
    elim (is_told_of_prefix part line (rest, is)) [
      | inl none ↦ ap filtered none ∙ sym none
      | inr same ↦ ap left_of (parts_of_open_line part open_part) ∙ ap (λ (t : Bool). cond t [] part) (same ∙ told)
    ]

pub left_line : (text : List ℕ) → IsLine text → is_told text ≡ false → IsKeptByFilter text
left_line text (line, whole, is) told =
    subst IsKeptByFilter (sym is) (
      all,
      λ part front. elim (prefix_of_line line part front) [
        | inl of ↦ left_front line part whole mark of
        | inr same ↦ ap filtered (same ∙ sym (append-nil (line ++ 10 ∷ []))) ∙ all [] ∙ append-nil (line ++ 10 ∷ []) ∙ sym same
      ],
    )
  where
    mark : is_told line ≡ false
    mark = sym (is_told_without_newline line) ∙ ap is_told (sym is) ∙ told

    all : (behind : List ℕ) → filtered ((line ++ 10 ∷ []) ++ behind) ≡ (line ++ 10 ∷ []) ++ filtered behind
    all behind = ap filtered (append_assoc line (10 ∷ []) behind) ∙ ap left_of (parts_of_first_line line behind whole)
        ∙ filter_keeps_line line (parts behind) mark (parts_never_empty behind)
