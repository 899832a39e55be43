-- A unit divided into leading white space, the header, and what follows the header.
use Rattle.std.proofs.Common.{◌≡◌, ℕ, suc, ◌+◌, Bool, true, false, not, ◌&&◌, cond, List, [], ◌∷◌, ◌++◌, length, take, drop, refl, sym, ap, ◌∙◌, subst, append-nil, arith}
use Rattle.std.specs.List.{list_all}
use Rattle.std.proofs.lemmas.Bool.{and_parts, not-true}
use Rattle.std.proofs.lemmas.List.{length-take-le, take-append-drop}
use Rattle.sv_text.specs.Front.{is_empty}
use Rattle.sv_text.specs.White.{is_white, trim_start, trim_end, trim}
use Rattle.sv_text.proofs.Places.{position_within_length}
use Rattle.sv_lexer.specs.Unit.{white_size, header_size, header, header_place, rest, rest_place}
use Rattle.sv_lexer.proofs.Standing.{start_dropped}
use Rattle.sv_lexer.proofs.Ends.{before_white, from_white_on, header_is, behind_is}

-- Whether a byte isn't white space.
abbrev pub is_not_white : ℕ → Bool
is_not_white b = not (is_white b)

-- Leading white space is removed, and counts as part of the white space.
pub trim_start_over_white : (lead xs : List ℕ) → list_all is_white lead ≡ true → trim_start (lead ++ xs) ≡ trim_start xs
trim_start_over_white [] xs e = refl
trim_start_over_white (b ∷ lead) xs e =
    let parts = and_parts (is_white b) (list_all is_white lead) e in
    ap (λ (t : Bool). cond t (trim_start (lead ++ xs)) (b ∷ (lead ++ xs))) parts.0 ∙ trim_start_over_white lead xs parts.1

pub white_size_over_white : (lead xs : List ℕ) → list_all is_white lead ≡ true → white_size (lead ++ xs) ≡ length lead + white_size xs
white_size_over_white [] xs e = omega arith
white_size_over_white (b ∷ lead) xs e =
    let parts = and_parts (is_white b) (list_all is_white lead) e in
    let more = white_size_over_white lead xs parts.1 in
    ap (λ (t : Bool). cond t (1 + white_size (lead ++ xs)) 0) parts.0 ∙ omega (arith, more)

-- After another byte, more bytes don't change how much white space leads.
pub white_size_of_append : (xs ys : List ℕ) → list_all is_white xs ≡ false → white_size (xs ++ ys) ≡ white_size xs
white_size_of_append [] ys e = let f : true ≡ false = e in absurd cc
white_size_of_append (b ∷ xs) ys e = at (is_white b) e (white_size_of_append xs ys)
  where
    at : (t : Bool) → (t && list_all is_white xs) ≡ false → (list_all is_white xs ≡ false → white_size (xs ++ ys) ≡ white_size xs)
        → cond t (1 + white_size (xs ++ ys)) 0 ≡ cond t (1 + white_size xs) 0
    at true e h = ap (λ (n : ℕ). 1 + n) (h e)
    at false e h = refl

-- A header's bytes come before the first white space after them.
pub run_over_header : (head xs : List ℕ) → list_all is_not_white head ≡ true → before_white (head ++ xs) ≡ head ++ before_white xs
run_over_header [] xs e = refl
run_over_header (b ∷ head) xs e =
    let parts = and_parts (is_not_white b) (list_all is_not_white head) e in
    ap (λ (t : Bool). cond t [] (b ∷ before_white (head ++ xs))) (not-true (is_white b) parts.0)
    ∙ ap (λ (l : List ℕ). b ∷ l) (run_over_header head xs parts.1)

pub behind_run_over_header : (head xs : List ℕ) → list_all is_not_white head ≡ true → from_white_on (head ++ xs) ≡ from_white_on xs
behind_run_over_header [] xs e = refl
behind_run_over_header (b ∷ head) xs e =
    let parts = and_parts (is_not_white b) (list_all is_not_white head) e in
    ap (λ (t : Bool). cond t (b ∷ (head ++ xs)) (from_white_on (head ++ xs))) (not-true (is_white b) parts.0)
    ∙ behind_run_over_header head xs parts.1

-- Without leading white space, nothing is removed.
start_dark : (head xs : List ℕ) → (is_empty head ≡ true → trim_start xs ≡ xs) → list_all is_not_white head ≡ true
    → trim_start (head ++ xs) ≡ head ++ xs
start_dark [] xs s e = s refl
start_dark (b ∷ head) xs s e =
    let parts = and_parts (is_not_white b) (list_all is_not_white head) e in
    ap (λ (t : Bool). cond t (trim_start (head ++ xs)) (b ∷ (head ++ xs))) (not-true (is_white b) parts.0)

white_dark : (head xs : List ℕ) → (is_empty head ≡ true → xs ≡ []) → list_all is_not_white head ≡ true → white_size (head ++ xs) ≡ 0
white_dark [] xs s e = ap white_size (s refl)
white_dark (b ∷ head) xs s e =
    let parts = and_parts (is_not_white b) (list_all is_not_white head) e in
    ap (λ (t : Bool). cond t (1 + white_size (head ++ xs)) 0) (not-true (is_white b) parts.0)

-- The unit is white space, a header, and a body that begins with white space. Without a header, the
-- body is empty.
pub record IsDivided (unit lead head body : List ℕ) : Type 0 where
  pub whole : unit ≡ lead ++ (head ++ body)
  pub white : list_all is_white lead ≡ true
  pub dark : list_all is_not_white head ≡ true
  pub gap : before_white body ≡ []
  pub none : is_empty head ≡ true → body ≡ []

-- Each unit is divided so.
run_both : (xs : List ℕ) → before_white xs ++ from_white_on xs ≡ xs
run_both [] = refl
run_both (b ∷ xs) = at (is_white b) (run_both xs)
  where
    at : (t : Bool) → before_white xs ++ from_white_on xs ≡ xs → cond t [] (b ∷ before_white xs) ++ cond t (b ∷ xs) (from_white_on xs) ≡ b
        ∷ xs
    at true h = refl
    at false h = ap (λ (l : List ℕ). b ∷ l) h

lead_white : (unit : List ℕ) → list_all is_white (take (white_size unit) unit) ≡ true
lead_white [] = refl
lead_white (b ∷ unit) = at (is_white b) refl (lead_white unit)
  where
    at : (t : Bool) → is_white b ≡ t → list_all is_white (take (white_size unit) unit) ≡ true
        → list_all is_white (take (cond t (1 + white_size unit) 0) (b ∷ unit)) ≡ true
    at true w h =
        let n : 1 + white_size unit ≡ suc (white_size unit) = omega arith in
        rw n (ap (λ (t : Bool). t && list_all is_white (take (white_size unit) unit)) w ∙ h)
    at false w h = refl

run_dark : (xs : List ℕ) → list_all is_not_white (before_white xs) ≡ true
run_dark [] = refl
run_dark (b ∷ xs) = at (is_white b) refl (run_dark xs)
  where
    at : (t : Bool) → is_white b ≡ t → list_all is_not_white (before_white xs) ≡ true
        → list_all is_not_white (cond t [] (b ∷ before_white xs)) ≡ true
    at true w h = refl
    at false w h = ap (λ (t : Bool). not t && list_all is_not_white (before_white xs)) w ∙ h

behind_gap : (xs : List ℕ) → before_white (from_white_on xs) ≡ []
behind_gap [] = refl
behind_gap (b ∷ xs) = at (is_white b) refl (behind_gap xs)
  where
    at : (t : Bool) → is_white b ≡ t → before_white (from_white_on xs) ≡ [] → before_white (cond t (b ∷ xs) (from_white_on xs)) ≡ []
    at true w h = ap (λ (t : Bool). cond t [] (b ∷ before_white xs)) w
    at false w h = h

start_none : (unit : List ℕ) → is_empty (before_white (trim_start unit)) ≡ true → from_white_on (trim_start unit) ≡ []
start_none [] e = refl
start_none (b ∷ unit) e = at (is_white b) refl (start_none unit) e
  where
    at : (t : Bool) → is_white b ≡ t → (is_empty (before_white (trim_start unit)) ≡ true → from_white_on (trim_start unit) ≡ [])
        → is_empty (before_white (cond t (trim_start unit) (b ∷ unit))) ≡ true → from_white_on (cond t (trim_start unit) (b ∷ unit)) ≡ []
    at true w h e = h e
    at false w h e =
        let f : false ≡ true = sym (ap (λ (t : Bool). is_empty (cond t [] (b ∷ before_white unit))) w) ∙ e in absurd cc

pub unit_is_divided : (unit : List ℕ) → IsDivided unit (take (white_size unit) unit) (before_white (trim_start unit))
    (from_white_on (trim_start unit))
unit_is_divided unit = record {
  whole = sym (take-append-drop (white_size unit) unit)
      ∙ ap (λ (l : List ℕ). take (white_size unit) unit ++ l) (sym (run_both (trim_start unit) ∙ start_dropped unit));
  white = lead_white unit;
  dark = run_dark (trim_start unit);
  gap = behind_gap (trim_start unit);
  none = start_none unit;
}

-- The unit has this header, at this position, and the program data come from the body.
pub record IsPlaced (unit head : List ℕ) (front : ℕ) (body : List ℕ) : Type 0 where
  pub heads : header unit ≡ head
  pub begins : header_place unit ≡ front
  pub follows : rest_place unit ≡ front + length head + white_size (trim_end body)
  pub rests : rest unit ≡ trim_start (trim_end body)

gap_all : (body : List ℕ) → before_white body ≡ [] → from_white_on body ≡ body
gap_all [] e = refl
gap_all (b ∷ body) e = at (is_white b) e
  where
    at : (t : Bool) → cond t [] (b ∷ before_white body) ≡ [] → cond t (b ∷ body) (from_white_on body) ≡ b ∷ body
    at true e = refl
    at false e = absurd cc

-- The header of a unit that is divided so.
pub header_run : (lead head xs : List ℕ) → list_all is_white lead ≡ true → list_all is_not_white head ≡ true
    → (is_empty head ≡ true → trim_start xs ≡ xs) → header (lead ++ (head ++ xs)) ≡ head ++ before_white xs
header_run lead head xs white dark none =
    header_is (lead ++ (head ++ xs)) ∙ ap before_white (trim_start_over_white lead (head ++ xs) white ∙ start_dark head xs none dark)
    ∙ run_over_header head xs dark

pub divided_unit_is_placed : (unit lead head body : List ℕ) → IsDivided unit lead head body → IsPlaced unit head (length lead) body
divided_unit_is_placed unit lead head body h = subst (λ (l : List ℕ). IsPlaced l head (length lead) body) (sym h.whole) all
  where
    start : is_empty head ≡ true → trim_start body ≡ body
    start e = ap trim_start (h.none e) ∙ sym (h.none e)

    all : IsPlaced (lead ++ (head ++ body)) head (length lead) body
    all =
        let unit : List ℕ = lead ++ (head ++ body) in
        let is : header unit ≡ head =
        header_run lead head body h.white h.dark start ∙ ap (λ (l : List ℕ). head ++ l) h.gap ∙ append-nil head in
        let dark : white_size (head ++ body) ≡ 0 = white_dark head body h.none h.dark in
        let over : white_size unit ≡ length lead + white_size (head ++ body) = white_size_over_white lead (head ++ body) h.white in
        let front : white_size unit ≡ length lead = omega (arith, over, dark) in
        let long : header_size unit ≡ length head =
        sym (length-take-le (header_size unit) (trim unit) (position_within_length is_white (trim unit))) ∙ ap length is in
        let behind : drop (header_size unit) (trim unit) ≡ trim_end body =
        behind_is unit
        ∙ ap (λ (l : List ℕ). trim_end (from_white_on l)) (trim_start_over_white lead (head ++ body) h.white
        ∙ start_dark head body start h.dark)
        ∙ ap trim_end (behind_run_over_header head body h.dark ∙ gap_all body h.gap) in
        let sum : rest_place unit ≡ white_size unit + header_size unit + white_size (drop (header_size unit) (trim unit)) = refl in
        let last : white_size (drop (header_size unit) (trim unit)) ≡ white_size (trim_end body) = ap white_size behind in
        record { heads = is; begins = front; follows = omega (arith, sum, front, long, last); rests = ap trim_start behind }
