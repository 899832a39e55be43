-- How one more byte changes where a unit's header and program data begin and end.
use Rattle.std.proofs.Common.{◌≡◌, ℕ, ◌+◌, ◌<◌, Bool, true, false, not, ◌&&◌, cond, List, [], ◌∷◌, ◌++◌, length, refl, sym, ap, ◌∙◌, append_assoc, append-nil, arith}
use Rattle.std.specs.List.{list_all}
use Rattle.std.proofs.lemmas.Bool.{and_parts}
use Rattle.std.proofs.lemmas.List.{length-append, length_push, nil_from_length}
use Rattle.std.proofs.lemmas.List.Folds.{list_all-append}
use Rattle.sv_text.specs.Front.{is_empty}
use Rattle.sv_text.specs.White.{is_white, trim_start, trim_end}
use Rattle.sv_lexer.specs.Unit.{white_size, header, header_place, rest, rest_place}
use Rattle.sv_lexer.specs.Partial.{header_end, rest_end}
use Rattle.sv_lexer.proofs.Standing.{white_rest, stands_within}
use Rattle.sv_lexer.proofs.Tokens.{rest_stands}
use Rattle.sv_lexer.proofs.Ends.{before_white, trim_end_cons, trim_end_of_white, trim_end_over_white, trim_end_of_non_white, white_size_of_trim_end}
use Rattle.sv_lexer.proofs.Divided.{is_not_white, IsDivided, IsPlaced, unit_is_divided, divided_unit_is_placed, header_run, white_size_over_white, white_size_of_append}
use mathlib.Core.Bool.{and-true}

pub list_all_append_one : (test : ℕ → Bool) (bytes : List ℕ) (b : ℕ) → list_all test (bytes ++ b ∷ []) ≡ (list_all test bytes && test b)
list_all_append_one test bytes b = list_all-append test bytes (b ∷ []) ∙ ap (λ (t : Bool). list_all test bytes && t) (and-true (test b))

-- Removing white space leaves nothing exactly of a text that is all white space.
start_blank : (xs : List ℕ) → is_empty (trim_start xs) ≡ list_all is_white xs
start_blank [] = refl
start_blank (b ∷ xs) = at (is_white b) (start_blank xs)
  where
    at : (t : Bool) → is_empty (trim_start xs) ≡ list_all is_white xs
        → is_empty (cond t (trim_start xs) (b ∷ xs)) ≡ (t && list_all is_white xs)
    at true h = h
    at false h = refl

end_blank : (xs : List ℕ) → list_all is_white (trim_end xs) ≡ list_all is_white xs
end_blank [] = refl
end_blank (b ∷ xs) = ap (list_all is_white) (trim_end_cons b xs) ∙ at (is_white b) refl (trim_end xs) (end_blank xs)
  where
    at : (t : Bool) → is_white b ≡ t → (l : List ℕ) → list_all is_white l ≡ list_all is_white xs
        → list_all is_white (cond (t && is_empty l) [] (b ∷ l)) ≡ (t && list_all is_white xs)
    at true w [] h = h
    at true w (x ∷ l) h = ap (λ (t : Bool). t && list_all is_white (x ∷ l)) w ∙ h
    at false w l h = ap (λ (t : Bool). t && list_all is_white l) w

rest_blank : (body : List ℕ) → is_empty (trim_start (trim_end body)) ≡ list_all is_white body
rest_blank body = start_blank (trim_end body) ∙ end_blank body

white_run : (xs : List ℕ) → list_all is_white xs ≡ true → before_white xs ≡ []
white_run [] e = refl
white_run (b ∷ xs) e = ap (λ (t : Bool). cond t [] (b ∷ before_white xs)) (and_parts (is_white b) (list_all is_white xs) e).0

gap_more : (body more : List ℕ) → is_empty body ≡ false → before_white body ≡ [] → before_white (body ++ more) ≡ []
gap_more [] more s e = let f : true ≡ false = s in absurd cc
gap_more (b ∷ body) more s e = at (is_white b) e
  where
    at : (t : Bool) → cond t [] (b ∷ before_white body) ≡ [] → cond t [] (b ∷ before_white (body ++ more)) ≡ []
    at true e = refl
    at false e = absurd cc

pub some_length : (xs : List ℕ) → 0 < length xs → is_empty xs ≡ false
some_length [] lt = absurd (omega (arith, lt))
some_length (b ∷ xs) lt = refl

length_some : (xs : List ℕ) → is_empty xs ≡ false → 0 < length xs
length_some [] e = let f : true ≡ false = e in absurd cc
length_some (b ∷ xs) e = omega arith

some_dark : (xs : List ℕ) → list_all is_white xs ≡ false → is_empty xs ≡ false
some_dark [] e = let f : true ≡ false = e in absurd cc
some_dark (b ∷ xs) e = refl

unlike : (head : List ℕ) → is_empty head ≡ false → (body : List ℕ) → is_empty head ≡ true → body ≡ []
unlike head some body e = let f : false ≡ true = sym some ∙ e in absurd cc

long : (unit lead head body : List ℕ) → IsDivided unit lead head body → length unit ≡ length lead + length head + length body
long unit lead head body d =
    let outer = length-append lead (head ++ body) in
    let inner = length-append head body in
    let all : length unit ≡ length (lead ++ (head ++ body)) = ap length d.whole in
    omega (arith, all, outer, inner)

-- If the unit ends with its header, nothing follows the header.
none_behind : (unit lead head body : List ℕ) → IsDivided unit lead head body → header_end unit ≡ length unit → body ≡ []
none_behind unit lead head body d ends =
    let p = divided_unit_is_placed unit lead head body d in
    let size = long unit lead head body d in
    let heads : length (header unit) ≡ length head = ap length p.heads in
    nil_from_length body (omega (arith, size, heads, p.begins, ends))

some_behind : (unit lead head body : List ℕ) → IsDivided unit lead head body → header_end unit < length unit → is_empty body ≡ false
some_behind unit lead head body d ends =
    let p = divided_unit_is_placed unit lead head body d in
    let size = long unit lead head body d in
    let heads : length (header unit) ≡ length head = ap length p.heads in
    some_length body (omega (arith, size, heads, p.begins, ends))

pub rest_none : (unit : List ℕ) → header_end unit ≡ length unit → rest unit ≡ []
rest_none unit ends =
    let d = unit_is_divided unit in (divided_unit_is_placed unit _ _ _ d).rests
    ∙ ap (λ (l : List ℕ). trim_start (trim_end l)) (none_behind unit _ _ _ d ends)

-- Without program data, their position is the end of the header.
pub rest_place_without_data : (unit : List ℕ) → rest unit ≡ [] → rest_place unit ≡ header_end unit
rest_place_without_data unit e = at _ _ _ (unit_is_divided unit)
  where
    at : (lead head body : List ℕ) → IsDivided unit lead head body → rest_place unit ≡ header_end unit
    at lead head body d =
        let p = divided_unit_is_placed unit lead head body d in
        let white = trim_end_of_white body (sym (rest_blank body) ∙ ap is_empty (sym p.rests ∙ e)) in
        let none : white_size (trim_end body) ≡ 0 = ap white_size white in
        let heads : length (header unit) ≡ length head = ap length p.heads in
        omega (arith, p.follows, p.begins, heads, none)

-- With program data, the unit is longer than its header.
pub data_after_header : (unit : List ℕ) → is_empty (rest unit) ≡ false → header_end unit < length unit
data_after_header unit e = at _ _ _ (unit_is_divided unit)
  where
    at : (lead head body : List ℕ) → IsDivided unit lead head body → header_end unit < length unit
    at lead head body d =
        let p = divided_unit_is_placed unit lead head body d in
        let size = long unit lead head body d in
        let heads : length (header unit) ≡ length head = ap length p.heads in
        let dark : list_all is_white body ≡ false = sym (rest_blank body) ∙ ap is_empty (sym p.rests) ∙ e in
        let some = length_some body (some_dark body dark) in
        omega (arith, size, heads, p.begins, some)

-- ---- the header

-- Bytes after a unit that ends with its header continue the header up to white space.
header_over : (unit more : List ℕ) → header_end unit ≡ length unit → (is_empty (header unit) ≡ true → trim_start more ≡ more)
    → header (unit ++ more) ≡ header unit ++ before_white more
header_over unit more ends start = at _ _ _ (unit_is_divided unit)
  where
    at : (lead head body : List ℕ) → IsDivided unit lead head body → header (unit ++ more) ≡ header unit ++ before_white more
    at lead head body d =
        let p = divided_unit_is_placed unit lead head body d in
        let whole : unit ++ more ≡ lead ++ (head ++ more) =
        ap (λ (l : List ℕ). l ++ more)
        (d.whole ∙ ap (λ (l : List ℕ). lead ++ (head ++ l)) (none_behind unit lead head body d ends)
        ∙ ap (λ (l : List ℕ). lead ++ l) (append-nil head))
        ∙ append_assoc lead head more in
        ap header whole ∙ header_run lead head more d.white d.dark (λ e. start (ap is_empty p.heads ∙ e))
        ∙ ap (λ (l : List ℕ). l ++ before_white more) (sym p.heads)

pub header_continues : (unit : List ℕ) (b : ℕ) (more : List ℕ) → header_end unit ≡ length unit → is_white b ≡ false
    → header ((unit ++ b ∷ []) ++ more) ≡ header unit ++ b ∷ before_white more
header_continues unit b more ends w =
    ap header (append_assoc unit (b ∷ []) more)
    ∙ header_over unit (b ∷ more) ends (λ e. ap (λ (t : Bool). cond t (trim_start more) (b ∷ more)) w)
    ∙ ap (λ (t : Bool). header unit ++ cond t [] (b ∷ before_white more)) w

pub header_ends_at_white : (unit : List ℕ) (b : ℕ) (more : List ℕ) → header_end unit ≡ length unit → is_empty (header unit) ≡ false
    → is_white b ≡ true → header ((unit ++ b ∷ []) ++ more) ≡ header unit
header_ends_at_white unit b more ends some w =
    ap header (append_assoc unit (b ∷ []) more)
    ∙ header_over unit (b ∷ more) ends (λ e. let f : false ≡ true = sym some ∙ e in absurd cc)
    ∙ ap (λ (t : Bool). header unit ++ cond t [] (b ∷ before_white more)) w ∙ append-nil (header unit)

-- The byte continues the header.
pub record IsLonger (unit : List ℕ) (b : ℕ) : Type 0 where
  pub heads : header (unit ++ b ∷ []) ≡ header unit ++ b ∷ []
  pub begins : header_place (unit ++ b ∷ []) ≡ header_place unit
  pub ends : header_end (unit ++ b ∷ []) ≡ length (unit ++ b ∷ [])

pub header_gets_longer : (unit : List ℕ) (b : ℕ) → header_end unit ≡ length unit → is_white b ≡ false → IsLonger unit b
header_gets_longer unit b ends w = at _ _ _ (unit_is_divided unit)
  where
    at : (lead head body : List ℕ) → IsDivided unit lead head body → IsLonger unit b
    at lead head body d =
        let p = divided_unit_is_placed unit lead head body d in
        let none = none_behind unit lead head body d ends in
        let new : IsDivided (unit ++ b ∷ []) lead (head ++ b ∷ []) [] = record {
          whole = ap (λ (l : List ℕ). l ++ b ∷ [])
              (d.whole ∙ ap (λ (l : List ℕ). lead ++ (head ++ l)) none ∙ ap (λ (l : List ℕ). lead ++ l) (append-nil head))
              ∙ append_assoc lead head (b ∷ []) ∙ ap (λ (l : List ℕ). lead ++ l) (sym (append-nil (head ++ b ∷ [])));
          white = d.white;
          dark = list_all_append_one is_not_white head b ∙ ap (λ (t : Bool). t && is_not_white b) d.dark ∙ ap not w;
          gap = refl;
          none = λ e. refl;
        } in
        let q = divided_unit_is_placed (unit ++ b ∷ []) lead (head ++ b ∷ []) [] new in
        let size = long unit lead head body d in
        let nil : length body ≡ 0 = ap length none in
        let heads : length (header (unit ++ b ∷ [])) ≡ length head + 1 = ap length q.heads ∙ length_push head b in
        let all = length_push unit b in
        record {
          heads = q.heads ∙ ap (λ (l : List ℕ). l ++ b ∷ []) (sym p.heads);
          begins = q.begins ∙ sym p.begins;
          ends = omega (arith, size, nil, heads, all, q.begins);
        }

-- The byte is more leading white space.
pub record IsWider (unit : List ℕ) (b : ℕ) : Type 0 where
  pub heads : header (unit ++ b ∷ []) ≡ []
  pub begins : header_place (unit ++ b ∷ []) ≡ length (unit ++ b ∷ [])

pub leading_white_gets_longer : (unit : List ℕ) (b : ℕ) → header unit ≡ [] → is_white b ≡ true → IsWider unit b
leading_white_gets_longer unit b e w = at _ _ _ (unit_is_divided unit)
  where
    at : (lead head body : List ℕ) → IsDivided unit lead head body → IsWider unit b
    at lead head body d =
        let p = divided_unit_is_placed unit lead head body d in
        let empty : head ≡ [] = sym p.heads ∙ e in
        let all : unit ≡ lead =
        d.whole ∙ ap (λ (l : List ℕ). lead ++ (l ++ body)) empty ∙ ap (λ (l : List ℕ). lead ++ l) (d.none (ap is_empty empty))
        ∙ append-nil lead in
        let new : IsDivided (unit ++ b ∷ []) (lead ++ b ∷ []) [] [] = record {
          whole = ap (λ (l : List ℕ). l ++ b ∷ []) all ∙ sym (append-nil (lead ++ b ∷ []));
          white = list_all_append_one is_white lead b ∙ ap (λ (t : Bool). t && is_white b) d.white ∙ w;
          dark = refl;
          gap = refl;
          none = λ e. refl;
        } in
        let q = divided_unit_is_placed (unit ++ b ∷ []) (lead ++ b ∷ []) [] [] new in
        record { heads = q.heads; begins = q.begins ∙ ap (λ (l : List ℕ). length (l ++ b ∷ [])) (sym all) }

-- ---- after the header

-- The header and its position stay.
pub record IsSame (unit new : List ℕ) : Type 0 where
  pub heads : header new ≡ header unit
  pub begins : header_place new ≡ header_place unit

pub end_same : (unit new : List ℕ) → IsSame unit new → header_end new ≡ header_end unit
end_same unit new s = let heads : length (header new) ≡ length (header unit) = ap length s.heads in omega (arith, heads, s.begins)

-- The byte is appended to what follows the header.
more_behind : (unit lead head body : List ℕ) (b : ℕ) → IsDivided unit lead head body → is_empty head ≡ false
    → before_white (body ++ b ∷ []) ≡ [] → IsDivided (unit ++ b ∷ []) lead head (body ++ b ∷ [])
more_behind unit lead head body b d some gap = record {
  whole = ap (λ (l : List ℕ). l ++ b ∷ []) d.whole ∙ append_assoc lead (head ++ body) (b ∷ [])
      ∙ ap (λ (l : List ℕ). lead ++ l) (append_assoc head body (b ∷ []));
  white = d.white;
  dark = d.dark;
  gap = gap;
  none = unlike head some (body ++ b ∷ []);
}

same_of : (unit new head : List ℕ) (front : ℕ) (body more : List ℕ) → IsPlaced unit head front body → IsPlaced new head front more
    → IsSame unit new
same_of unit new head front body more p q = record { heads = q.heads ∙ sym p.heads; begins = q.begins ∙ sym p.begins }

-- The byte is white space between the header and the program data.
pub record IsGap (unit new : List ℕ) : Type 0 where
  pub same : IsSame unit new
  pub rests : rest new ≡ []
  pub ends : header_end new < length new

pub white_after_header : (unit : List ℕ) (b : ℕ) → is_empty (header unit) ≡ false → rest unit ≡ [] → is_white b ≡ true
    → IsGap unit (unit ++ b ∷ [])
white_after_header unit b some e w = at _ _ _ (unit_is_divided unit)
  where
    at : (lead head body : List ℕ) → IsDivided unit lead head body → IsGap unit (unit ++ b ∷ [])
    at lead head body d =
        let p = divided_unit_is_placed unit lead head body d in
        let blank : list_all is_white body ≡ true = sym (rest_blank body) ∙ ap is_empty (sym p.rests ∙ e) in
        let white : list_all is_white (body ++ b ∷ []) ≡ true =
        list_all_append_one is_white body b ∙ ap (λ (t : Bool). t && is_white b) blank ∙ w in
        let new = more_behind unit lead head body b d (ap is_empty (sym p.heads) ∙ some) (white_run (body ++ b ∷ []) white) in
        let q = divided_unit_is_placed (unit ++ b ∷ []) lead head (body ++ b ∷ []) new in
        let size = long unit lead head body d in
        let heads : length (header (unit ++ b ∷ [])) ≡ length head = ap length q.heads in
        let all = length_push unit b in
        record {
          same = same_of unit (unit ++ b ∷ []) head (length lead) body (body ++ b ∷ []) p q;
          rests = q.rests ∙ ap trim_start (trim_end_of_white (body ++ b ∷ []) white);
          ends = omega (arith, size, heads, all, q.begins);
        }

-- The byte belongs to the program data; if it is their first, they begin here.
pub record IsData (unit new : List ℕ) : Type 0 where
  pub same : IsSame unit new
  pub some : is_empty (rest new) ≡ false
  pub begins : rest_place new ≡ cond (is_empty (rest unit)) (length unit) (rest_place unit)
  pub ends : rest_end new ≡ length new

pub data_get_longer : (unit : List ℕ) (b : ℕ) → is_empty (header unit) ≡ false → header_end unit < length unit → is_white b ≡ false
    → IsData unit (unit ++ b ∷ [])
data_get_longer unit b some lt w = at _ _ _ (unit_is_divided unit)
  where
    at : (lead head body : List ℕ) → IsDivided unit lead head body → IsData unit (unit ++ b ∷ [])
    at lead head body d =
        let p = divided_unit_is_placed unit lead head body d in
        let full = some_behind unit lead head body d lt in
        let new = more_behind unit lead head body b d (ap is_empty (sym p.heads) ∙ some) (gap_more body (b ∷ []) full d.gap) in
        let q = divided_unit_is_placed (unit ++ b ∷ []) lead head (body ++ b ∷ []) new in
        let kept : trim_end (body ++ b ∷ []) ≡ body ++ b ∷ [] = trim_end_of_non_white body b w in
        let follows : rest_place (unit ++ b ∷ []) ≡ length lead + length head + white_size (body ++ b ∷ []) =
        q.follows ∙ ap (λ (l : List ℕ). length lead + length head + white_size l) kept in
        let rests : rest (unit ++ b ∷ []) ≡ trim_start (body ++ b ∷ []) = q.rests ∙ ap trim_start kept in
        let size = long unit lead head body d in
        let sum = white_rest (body ++ b ∷ []) in
        let tail : length (rest (unit ++ b ∷ [])) ≡ length (trim_start (body ++ b ∷ [])) = ap length rests in
        let more = length_push body b in
        let all = length_push unit b in
        record {
          same = same_of unit (unit ++ b ∷ []) head (length lead) body (body ++ b ∷ []) p q;
          some = ap is_empty rests ∙ start_blank (body ++ b ∷ []) ∙ list_all_append_one is_white body b ∙ dark (list_all is_white body);
          begins = follows ∙ starts (list_all is_white body) refl p size
              ∙ ap (λ (t : Bool). cond t (length unit) (rest_place unit)) (sym (ap is_empty p.rests ∙ rest_blank body));
          ends = omega (arith, follows, size, sum, tail, more, all);
        }
      where
        dark : (t : Bool) → (t && is_white b) ≡ false
        dark true = w
        dark false = refl

        starts : (t : Bool) → list_all is_white body ≡ t → IsPlaced unit head (length lead) body
            → length unit ≡ length lead + length head + length body
            → length lead + length head + white_size (body ++ b ∷ []) ≡ cond (list_all is_white body) (length unit) (rest_place unit)
        starts true e p size =
            let none : white_size (b ∷ []) ≡ 0 = ap (λ (t : Bool). cond t (1 + 0) 0) w in
            let over : white_size (body ++ b ∷ []) ≡ length body + white_size (b ∷ []) = white_size_over_white body (b ∷ []) e in
            let here : length lead + length head + white_size (body ++ b ∷ []) ≡ length unit = omega (arith, none, over, size) in
            here ∙ ap (λ (t : Bool). cond t (length unit) (rest_place unit)) (sym e)
        starts false e p size =
            let same : white_size (body ++ b ∷ []) ≡ white_size body = white_size_of_append body (b ∷ []) e in
            let before : white_size (trim_end body) ≡ white_size body = white_size_of_trim_end body e in
            let here : length lead + length head + white_size (body ++ b ∷ []) ≡ rest_place unit = omega (arith, same, before, p.follows) in
            here ∙ ap (λ (t : Bool). cond t (length unit) (rest_place unit)) (sym e)

-- The byte is white space after program data.
pub record IsSpaced (unit new : List ℕ) : Type 0 where
  pub same : IsSame unit new
  pub rests : rest new ≡ rest unit
  pub begins : rest_place new ≡ rest_place unit
  pub ends : rest_end new < length new

pub white_after_data : (unit : List ℕ) (b : ℕ) → is_empty (header unit) ≡ false → is_empty (rest unit) ≡ false → is_white b ≡ true
    → IsSpaced unit (unit ++ b ∷ [])
white_after_data unit b some e w = at _ _ _ (unit_is_divided unit)
  where
    at : (lead head body : List ℕ) → IsDivided unit lead head body → IsSpaced unit (unit ++ b ∷ [])
    at lead head body d =
        let p = divided_unit_is_placed unit lead head body d in
        let dark : list_all is_white body ≡ false = sym (rest_blank body) ∙ ap is_empty (sym p.rests) ∙ e in
        let gap = gap_more body (b ∷ []) (some_dark body dark) d.gap in
        let new = more_behind unit lead head body b d (ap is_empty (sym p.heads) ∙ some) gap in
        let q = divided_unit_is_placed (unit ++ b ∷ []) lead head (body ++ b ∷ []) new in
        let kept : trim_end (body ++ b ∷ []) ≡ trim_end body = trim_end_over_white body (b ∷ []) (ap (λ (t : Bool). t && true) w) in
        let rests : rest (unit ++ b ∷ []) ≡ rest unit = q.rests ∙ ap trim_start kept ∙ sym p.rests in
        let begins : rest_place (unit ++ b ∷ []) ≡ rest_place unit =
        q.follows ∙ ap (λ (l : List ℕ). length lead + length head + white_size l) kept ∙ sym p.follows in
        let within = stands_within unit (rest unit) (rest_place unit) (rest_stands unit) in
        let tail : length (rest (unit ++ b ∷ [])) ≡ length (rest unit) = ap length rests in
        let all = length_push unit b in
        record {
          same = same_of unit (unit ++ b ∷ []) head (length lead) body (body ++ b ∷ []) p q;
          rests = rests;
          begins = begins;
          ends = omega (arith, within, begins, tail, all);
        }
