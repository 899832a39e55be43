-- A message is read ahead byte by byte, up to the semicolon after its first unit.
use Rattle.std.proofs.Common.{◌≡◌, ◌≢◌, ℕ, ◌+◌, ◌<◌, ◌≤◌, Bool, true, false, ◌&&◌, ◌||◌, cond, List, [], ◌∷◌, ◌++◌, length, take, drop, map, get_or, slice_get, slice_range, ◌⊎◌, inl, inr, Option, Some, None, unwrap_or, refl, sym, ap, ◌∙◌, subst, append_assoc, append-nil, arith}
use Rattle.std.specs.Prelude.{filter}
use Rattle.std.specs.List.{list_all, list_any, onto_first as onto}
use Rattle.std.proofs.lemmas.Bool.{cases_lt, or_parts, or_from, and_from}
use Rattle.std.proofs.lemmas.Bool.Decides.{nat_tests}
use Rattle.std.proofs.lemmas.List.{length-append, length_push, nil_from_length, take-append-drop, take_all, take_more, drop_all}
use Rattle.std.proofs.lemmas.List.Folds.{list_any-append, list_all-append}
use Rattle.sv_text.specs.Cut.{cut_at}
use Rattle.sv_text.specs.White.{is_white, trim, trim_start, trim_end}
use Rattle.sv_lexer.specs.Token.{StandsAt}
use Rattle.sv_lexer.specs.Partial.{Progress, Reads}
use Rattle.sv_lexer.proofs.Standing.{slice_stands}
use Rattle.sv_lexer.proofs.Ends.{trim_end_over_white, trim_end_of_non_white}
use Rattle.sv_exchange.specs.Exchange.{units, is_something}
use Rattle.sv_exchange.specs.FirstUnit.{IsFirst}
use Rattle.sv_exchange.specs.Ahead.{is_separator, IsOpen, IsFound, IsAhead, IsBegun, IsLooked}
use Rattle.sv_exchange.specs.declared.ahead.Ahead.{Ahead}
use Rattle.sv_exchange.proofs.Stands.{nothing_there}

-- The units that these parts leave.
abbrev kept : List (List ℕ) → List (List ℕ)
kept parts = filter is_something (map trim parts)

-- A part before a semicolon, and a part without one.
cut_over : (part more : List ℕ) → list_any is_separator part ≡ false → cut_at 59 (part ++ 59 ∷ more) ≡ part ∷ cut_at 59 more
cut_over [] more e = refl
cut_over (b ∷ part) more e =
    let parts = or_parts (is_separator b) (list_any is_separator part) e in
    ap (λ (t : Bool). cond t ([] ∷ cut_at 59 (part ++ 59 ∷ more)) (onto b (cut_at 59 (part ++ 59 ∷ more)))) parts.0
    ∙ ap (onto b) (cut_over part more parts.1)

cut_alone : (part : List ℕ) → list_any is_separator part ≡ false → cut_at 59 part ≡ part ∷ []
cut_alone [] e = refl
cut_alone (b ∷ part) e =
    let parts = or_parts (is_separator b) (list_any is_separator part) e in
    ap (λ (t : Bool). cond t ([] ∷ cut_at 59 part) (onto b (cut_at 59 part))) parts.0 ∙ ap (onto b) (cut_alone part parts.1)

-- White space before units doesn't change them.
kept_onto : (b : ℕ) (parts : List (List ℕ)) → is_white b ≡ true → kept (onto b parts) ≡ kept parts
kept_onto b [] w =
    let none : trim (b ∷ []) ≡ [] = ap (λ (t : Bool). trim_end (cond t [] (b ∷ []))) w in
    ap (λ (u : List ℕ). cond (is_something u) (u ∷ []) []) none
kept_onto b (part ∷ parts) w =
    let same : trim (b ∷ part) ≡ trim part = ap (λ (t : Bool). trim_end (cond t (trim_start part) (b ∷ part))) w in
    ap (λ (u : List ℕ). cond (is_something u) (u ∷ kept parts) (kept parts)) same

white_no_separator : (b : ℕ) → is_white b ≡ true → is_separator b ≡ false
white_no_separator b w = grind (arith, nat_tests, w)

units_space : (b : ℕ) (more : List ℕ) → is_white b ≡ true → units (b ∷ more) ≡ units more
units_space b more w =
    ap (λ (t : Bool). kept (cond t ([] ∷ cut_at 59 more) (onto b (cut_at 59 more)))) (white_no_separator b w)
    ∙ kept_onto b (cut_at 59 more) w

-- Neither does a semicolon.
units_separator : (b : ℕ) (more : List ℕ) → b ≡ 59 → units (b ∷ more) ≡ units more
units_separator b more e = ap (λ (n : ℕ). units (n ∷ more)) e

-- The unit that a part has.
part_unit : (seen unit space : List ℕ) (parts : List (List ℕ)) → is_something unit ≡ true → IsOpen seen unit space
    → kept ((unit ++ space) ∷ parts) ≡ unit ∷ kept parts
part_unit seen unit space parts some h =
    let is : trim (unit ++ space) ≡ unit = ap trim_end (h.starts some space) ∙ trim_end_over_white unit space h.white ∙ h.ends in
    ap (λ (u : List ℕ). cond (is_something u) (u ∷ kept parts) (kept parts)) is
    ∙ ap (λ (t : Bool). cond t (unit ∷ kept parts) (kept parts)) some

something : (xs : List ℕ) (n : ℕ) → n < n + length xs → is_something xs ≡ true
something [] n lt = absurd (omega (arith, lt))
something (b ∷ xs) n lt = refl

-- Until its semicolon was read, a unit is open.
opened : (ahead : Ahead) (seen : List ℕ) (h : IsAhead ahead seen) → ahead.closed ≡ false → IsOpen seen h.unit h.space
opened ahead seen h e = subst (λ (t : Bool). IsFound t seen h.unit h.space) e h.found

closed_over : (ahead : Ahead) (seen : List ℕ) (h : IsAhead ahead seen) → ahead.closed ≡ true
    → (is_something h.unit ≡ true) × ((more : List ℕ) → units (seen ++ more) ≡ h.unit ∷ units more)
closed_over ahead seen h e = subst (λ (t : Bool). IsFound t seen h.unit h.space) e h.found

-- No unit has begun in these bytes.
blank_open : (seen : List ℕ) → ((more : List ℕ) → units (seen ++ more) ≡ units more) → IsOpen seen [] []
blank_open seen left = record {
  left = left;
  single = refl;
  white = refl;
  unbegun = λ none. refl;
  starts = λ some. (let f : false ≡ true = some in absurd cc);
  ends = refl;
}

-- A byte before the unit is skipped.
byte_before_unit : (a new : Ahead) (seen : List ℕ) (b : ℕ) → a.closed ≡ false → a.end ≤ a.start
    → ((more : List ℕ) → units (b ∷ more) ≡ units more) → new.start ≡ a.looked + 1 → new.end ≡ a.looked + 1 → new.looked ≡ a.looked + 1
    → new.closed ≡ a.closed → new.partial ≡ a.partial → IsAhead a seen → IsAhead new (seen ++ b ∷ [])
byte_before_unit a new seen b unclosed none skips s e l c p h =
    let o = opened a seen h unclosed in
    let unit : h.unit ≡ [] = nil_from_length h.unit (omega (arith, none, h.begins, h.closes)) in
    let space : h.space ≡ [] = o.unbegun (ap is_something unit) in
    let empty : h.unit ++ h.space ≡ [] = ap (λ (l : List ℕ). l ++ h.space) unit ∙ space in
    let left : (more : List ℕ) → units ((seen ++ b ∷ []) ++ more) ≡ units more =
    λ more. ap units (append_assoc seen (b ∷ []) more) ∙ o.left (b ∷ more) ∙ ap (λ (l : List ℕ). units (l ++ (b ∷ more))) empty
    ∙ skips more in
    let long = length_push seen b in
    record {
      before = seen ++ b ∷ [];
      unit = [];
      space = [];
      whole = sym (append-nil (seen ++ b ∷ []));
      blank = left;
      begins = omega (arith, s, h.size, long);
      closes = omega (arith, e, h.size, long);
      size = omega (arith, l, h.size, long);
      reads = subst (λ (q : Progress). Reads q []) (sym p) (subst (Reads a.partial) unit h.reads);
      found = subst (λ (t : Bool). IsFound t (seen ++ b ∷ []) [] []) (sym (c ∙ unclosed)) (blank_open (seen ++ b ∷ []) left);
    }

regrouped : (seen before unit space : List ℕ) (b : ℕ) → seen ≡ before ++ (unit ++ space)
    → seen ++ b ∷ [] ≡ before ++ (unit ++ (space ++ b ∷ []))
regrouped seen before unit space b e =
    ap (λ (l : List ℕ). l ++ b ∷ []) e ∙ append_assoc before (unit ++ space) (b ∷ [])
    ∙ ap (λ (l : List ℕ). before ++ l) (append_assoc unit space (b ∷ []))

-- Another byte after the unit leaves the unit as it is.
one_behind : (a new : Ahead) (seen : List ℕ) (b : ℕ) → new.start ≡ a.start → new.end ≡ a.end → new.looked ≡ a.looked + 1
    → new.partial ≡ a.partial → (h : IsAhead a seen) → IsFound new.closed (seen ++ b ∷ []) h.unit (h.space ++ b ∷ [])
    → IsAhead new (seen ++ b ∷ [])
one_behind a new seen b s e l p h found =
    let long = length_push seen b in
    record {
      before = h.before;
      unit = h.unit;
      space = h.space ++ b ∷ [];
      whole = regrouped seen h.before h.unit h.space b h.whole;
      blank = h.blank;
      begins = s ∙ h.begins;
      closes = e ∙ h.closes;
      size = omega (arith, l, h.size, long);
      reads = subst (λ (q : Progress). Reads q h.unit) (sym p) h.reads;
      found = found;
    }

-- A semicolon closes the unit.
ended : (a new : Ahead) (seen : List ℕ) (b : ℕ) → a.closed ≡ false → a.start < a.end → b ≡ 59 → new.start ≡ a.start → new.end ≡ a.end
    → new.looked ≡ a.looked + 1 → new.closed ≡ true → new.partial ≡ a.partial → IsAhead a seen → IsAhead new (seen ++ b ∷ [])
ended a new seen b unclosed lt is s e l c p h =
    let o = opened a seen h unclosed in
    let some : is_something h.unit ≡ true = something h.unit (length h.before) (omega (arith, lt, h.begins, h.closes)) in
    let left : (more : List ℕ) → units ((seen ++ b ∷ []) ++ more) ≡ h.unit ∷ units more =
    λ more. ap units (append_assoc seen (b ∷ []) more) ∙ o.left (b ∷ more)
    ∙ ap (λ (n : ℕ). units ((h.unit ++ h.space) ++ (n ∷ more))) is ∙ ap kept (cut_over (h.unit ++ h.space) more o.single)
    ∙ part_unit seen h.unit h.space (cut_at 59 more) some o in
    one_behind a new seen b s e l p h
    (subst (λ (t : Bool). IsFound t (seen ++ b ∷ []) h.unit (h.space ++ b ∷ [])) (sym c) (some, left))

-- White space may end the unit, or come within it.
white_after_unit : (a new : Ahead) (seen : List ℕ) (b : ℕ) → a.closed ≡ false → a.start < a.end → is_white b ≡ true
    → new.start ≡ a.start → new.end ≡ a.end → new.looked ≡ a.looked + 1 → new.closed ≡ a.closed → new.partial ≡ a.partial → IsAhead a seen
    → IsAhead new (seen ++ b ∷ [])
white_after_unit a new seen b unclosed lt w s e l c p h =
    let o = opened a seen h unclosed in
    let some : is_something h.unit ≡ true = something h.unit (length h.before) (omega (arith, lt, h.begins, h.closes)) in
    let all : h.unit ++ (h.space ++ b ∷ []) ≡ (h.unit ++ h.space) ++ b ∷ [] = sym (append_assoc h.unit h.space (b ∷ [])) in
    let left : (more : List ℕ) → units ((seen ++ b ∷ []) ++ more) ≡ units ((h.unit ++ (h.space ++ b ∷ [])) ++ more) =
    λ more. ap units (append_assoc seen (b ∷ []) more) ∙ o.left (b ∷ more) ∙ ap units (sym (append_assoc (h.unit ++ h.space) (b ∷ []) more))
    ∙ ap (λ (l : List ℕ). units (l ++ more)) (sym all) in
    one_behind a new seen b s e l p h
    (subst (λ (t : Bool). IsFound t (seen ++ b ∷ []) h.unit (h.space ++ b ∷ [])) (sym (c ∙ unclosed)) (record {
      left = left;
      single = ap (list_any is_separator) all ∙ list_any-append is_separator (h.unit ++ h.space) (b ∷ [])
          ∙ or_from (list_any is_separator (h.unit ++ h.space)) (is_separator b || false) o.single
          (or_from (is_separator b) false (white_no_separator b w) refl);
      white = list_all-append is_white h.space (b ∷ [])
          ∙ and_from (list_all is_white h.space) (is_white b && true) o.white (and_from (is_white b) true w refl);
      unbegun = λ none. (let f : true ≡ false = sym some ∙ none in absurd cc);
      starts = o.starts;
      ends = o.ends;
    }))

-- Another byte continues the unit, with the white space before it.
grown_open : (seen unit space : List ℕ) (b : ℕ) → is_white b ≡ false → is_separator b ≡ false → IsOpen seen unit space
    → IsOpen (seen ++ b ∷ []) ((unit ++ space) ++ b ∷ []) []
grown_open seen unit space b w k o =
    let part : List ℕ = (unit ++ space) ++ b ∷ [] in
    let left : (more : List ℕ) → units ((seen ++ b ∷ []) ++ more) ≡ units ((part ++ []) ++ more) =
    λ more. ap units (append_assoc seen (b ∷ []) more) ∙ o.left (b ∷ more) ∙ ap units (sym (append_assoc (unit ++ space) (b ∷ []) more))
    ∙ ap (λ (l : List ℕ). units (l ++ more)) (sym (append-nil part)) in
    let single : list_any is_separator (part ++ []) ≡ false =
    ap (list_any is_separator) (append-nil part) ∙ list_any-append is_separator (unit ++ space) (b ∷ [])
    ∙ or_from (list_any is_separator (unit ++ space)) (is_separator b || false) o.single (or_from (is_separator b) false k refl) in
    record {
      left = left;
      single = single;
      white = refl;
      unbegun = λ none. refl;
      starts = λ some more. at (is_something unit) refl more;
      ends = trim_end_of_non_white (unit ++ space) b w;
    }
  where
    at : (t : Bool) → is_something unit ≡ t → (more : List ℕ)
        → trim_start (((unit ++ space) ++ b ∷ []) ++ more) ≡ ((unit ++ space) ++ b ∷ []) ++ more
    at true e more =
        let all : ((unit ++ space) ++ b ∷ []) ++ more ≡ unit ++ (space ++ (b ∷ more)) =
        append_assoc (unit ++ space) (b ∷ []) more ∙ append_assoc unit space (b ∷ more) in
        ap trim_start all ∙ o.starts e (space ++ (b ∷ more)) ∙ sym all
    at false e more =
        let empty : unit ++ space ≡ [] = ap (λ (l : List ℕ). l ++ space) (nothing_there unit e) ∙ o.unbegun e in
        let all : ((unit ++ space) ++ b ∷ []) ++ more ≡ b ∷ more = ap (λ (l : List ℕ). (l ++ b ∷ []) ++ more) empty in
        ap trim_start all ∙ ap (λ (t : Bool). cond t (trim_start more) (b ∷ more)) w ∙ sym all

grown : (a new : Ahead) (seen bytes : List ℕ) (b : ℕ) (h : IsAhead a seen) → a.closed ≡ false → is_white b ≡ false
    → is_separator b ≡ false → new.start ≡ a.start → new.end ≡ a.looked + 1 → new.looked ≡ a.looked + 1 → new.closed ≡ a.closed
    → bytes ≡ h.space ++ b ∷ [] → ((before : List ℕ) → Reads a.partial before → Reads new.partial (before ++ bytes))
    → IsAhead new (seen ++ b ∷ [])
grown a new seen bytes b h unclosed w k s e l c is reads =
    let o = opened a seen h unclosed in
    let long = length_push seen b in
    let part : List ℕ = (h.unit ++ h.space) ++ b ∷ [] in
    let all : h.unit ++ bytes ≡ part = ap (λ (l : List ℕ). h.unit ++ l) is ∙ sym (append_assoc h.unit h.space (b ∷ [])) in
    let whole : seen ++ b ∷ [] ≡ h.before ++ (part ++ []) =
    ap (λ (l : List ℕ). l ++ b ∷ []) h.whole ∙ append_assoc h.before (h.unit ++ h.space) (b ∷ [])
    ∙ ap (λ (l : List ℕ). h.before ++ l) (sym (append-nil part)) in
    let size : length seen ≡ length h.before + length (h.unit ++ h.space) =
    ap length h.whole ∙ length-append h.before (h.unit ++ h.space) in
    let more : length part ≡ length (h.unit ++ h.space) + 1 = length_push (h.unit ++ h.space) b in
    record {
      before = h.before;
      unit = part;
      space = [];
      whole = whole;
      blank = h.blank;
      begins = s ∙ h.begins;
      closes = omega (arith, e, h.size, size, more);
      size = omega (arith, l, h.size, long);
      reads = subst (Reads new.partial) all (reads h.unit h.reads);
      found = subst (λ (t : Bool). IsFound t (seen ++ b ∷ []) part []) (sym (c ∙ unclosed)) (grown_open seen h.unit h.space b w k o);
    }

-- The text is what comes before the unit, the unit, and what follows it.
pub unit_parts : (a : Ahead) (text : List ℕ) (h : IsAhead a (take a.looked text))
    → text ≡ h.before ++ (h.unit ++ (h.space ++ drop a.looked text))
unit_parts a text h =
    sym (take-append-drop a.looked text) ∙ ap (λ (l : List ℕ). l ++ drop a.looked text) h.whole
    ∙ append_assoc h.before (h.unit ++ h.space) (drop a.looked text)
    ∙ ap (λ (l : List ℕ). h.before ++ l) (append_assoc h.unit h.space (drop a.looked text))

-- The position of the unit in the text.
unit_stands : (a : Ahead) (text : List ℕ) (h : IsAhead a (take a.looked text)) → StandsAt text a.start h.unit
unit_stands a text h = (h.before, h.space ++ drop a.looked text, unit_parts a text h, sym h.begins)

pub unit_slice : (a : Ahead) (text : List ℕ) (h : IsAhead a (take a.looked text)) → slice_range text a.start a.end ≡ h.unit
unit_slice a text h = slice_stands text h.unit a.start a.end (unit_stands a text h) (omega (arith, h.begins, h.closes))

-- The unit is within the text.
pub unit_within : (a : Ahead) (text : List ℕ) → IsBegun a text → (a.start ≤ a.end) × (a.end ≤ a.looked) × (a.looked ≤ length text)
unit_within a text begun =
    let h = begun.seen in
    let size : length (take a.looked text) ≡ length h.before + length (h.unit ++ h.space) =
    ap length h.whole ∙ length-append h.before (h.unit ++ h.space) in
    let inner : length (h.unit ++ h.space) ≡ length h.unit + length h.space = length-append h.unit h.space in
    (omega (arith, h.begins, h.closes), omega (arith, h.closes, h.size, size, inner), begun.within)

-- The white space and the byte that continue the unit.
pushed_slice : (a : Ahead) (text : List ℕ) (b : ℕ) (h : IsAhead a (take a.looked text)) → a.looked < length text
    → b ≡ get_or text a.looked 0 → slice_range text a.end (a.looked + 1) ≡ h.space ++ b ∷ []
pushed_slice a text b h lt is =
    let front : List ℕ = h.before ++ h.unit in
    let behind : List ℕ = drop (a.looked + 1) text in
    let more : take (a.looked + 1) text ≡ take a.looked text ++ b ∷ [] =
    take_more text a.looked 0 lt ∙ ap (λ (n : ℕ). take a.looked text ++ n ∷ []) (sym is) in
    let seen : take a.looked text ++ b ∷ [] ≡ front ++ (h.space ++ b ∷ []) =
    regrouped (take a.looked text) h.before h.unit h.space b h.whole ∙ sym (append_assoc h.before h.unit (h.space ++ b ∷ [])) in
    let whole : text ≡ front ++ ((h.space ++ b ∷ []) ++ behind) =
    sym (take-append-drop (a.looked + 1) text) ∙ ap (λ (l : List ℕ). l ++ behind) (more ∙ seen)
    ∙ append_assoc front (h.space ++ b ∷ []) behind in
    let at : length front ≡ a.end = length-append h.before h.unit ∙ sym h.closes in
    let size : length (take a.looked text) ≡ length h.before + length (h.unit ++ h.space) =
    ap length h.whole ∙ length-append h.before (h.unit ++ h.space) in
    let inner : length (h.unit ++ h.space) ≡ length h.unit + length h.space = length-append h.unit h.space in
    let part : length (h.space ++ b ∷ []) ≡ length h.space + 1 = length_push h.space b in
    slice_stands text (h.space ++ b ∷ []) a.end (a.looked + 1) (front, behind, whole, at)
    (omega (arith, h.closes, h.size, size, inner, part))

-- One more byte was read.
looked_at_next : (a new : Ahead) (text : List ℕ) (b : ℕ) → a.looked < length text → b ≡ get_or text a.looked 0
    → new.looked ≡ a.looked + 1 → IsAhead new (take a.looked text ++ b ∷ []) → IsBegun new text
looked_at_next a new text b lt is l h =
    let more : take new.looked text ≡ take a.looked text ++ b ∷ [] =
    ap (λ (n : ℕ). take n text) l ∙ take_more text a.looked 0 lt ∙ ap (λ (n : ℕ). take a.looked text ++ n ∷ []) (sym is) in
    record { within = omega (arith, l, lt); seen = subst (IsAhead new) (sym more) h }

-- After a semicolon that closes the unit, the state still describes what was read.
pub semicolon_seen : (a new : Ahead) (text : List ℕ) → a.looked < length text → get_or text a.looked 0 ≡ 59 → a.closed ≡ false
    → a.start < a.end → new.start ≡ a.start → new.end ≡ a.end → new.looked ≡ a.looked + 1 → new.closed ≡ true → new.partial ≡ a.partial
    → IsBegun a text → IsBegun new text
semicolon_seen a new text lt is unclosed some s e l c p h =
    let b : ℕ = get_or text a.looked 0 in
    looked_at_next a new text b lt refl l (ended a new (take a.looked text) b unclosed some is s e l c p h.seen)

-- The same after white space behind the unit.
pub space_seen : (a new : Ahead) (text : List ℕ) → a.looked < length text → is_white (get_or text a.looked 0) ≡ true → a.closed ≡ false
    → a.start < a.end → new.start ≡ a.start → new.end ≡ a.end → new.looked ≡ a.looked + 1 → new.closed ≡ a.closed → new.partial ≡ a.partial
    → IsBegun a text → IsBegun new text
space_seen a new text lt w unclosed some s e l c p h =
    let b : ℕ = get_or text a.looked 0 in
    looked_at_next a new text b lt refl l (white_after_unit a new (take a.looked text) b unclosed some w s e l c p h.seen)

skips_one : (b : ℕ) → b ≡ 59 ⊎ is_white b ≡ true → (more : List ℕ) → units (b ∷ more) ≡ units more
skips_one b (inl is) more = units_separator b more is
skips_one b (inr w) more = units_space b more w

-- The same after a semicolon or white space before the unit.
pub skipped_seen : (a new : Ahead) (text : List ℕ) → a.looked < length text
    → get_or text a.looked 0 ≡ 59 ⊎ is_white (get_or text a.looked 0) ≡ true → a.closed ≡ false → a.end ≤ a.start
    → new.start ≡ a.looked + 1 → new.end ≡ a.looked + 1 → new.looked ≡ a.looked + 1 → new.closed ≡ a.closed → new.partial ≡ a.partial
    → IsBegun a text → IsBegun new text
skipped_seen a new text lt is unclosed none s e l c p h =
    let b : ℕ = get_or text a.looked 0 in
    looked_at_next a new text b lt refl l
    (byte_before_unit a new (take a.looked text) b unclosed none (skips_one b is) s e l c p h.seen)

-- The same after another byte, which continues the unit.
pub other_seen : (a new : Ahead) (text : List ℕ) → a.looked < length text → is_separator (get_or text a.looked 0) ≡ false
    → is_white (get_or text a.looked 0) ≡ false → a.closed ≡ false → new.start ≡ a.start → new.end ≡ a.looked + 1
    → new.looked ≡ a.looked + 1 → new.closed ≡ a.closed
    → ((before : List ℕ) → Reads a.partial before → Reads new.partial (before ++ slice_range text a.end (a.looked + 1)))
    → IsBegun a text → IsBegun new text
other_seen a new text lt k w unclosed s e l c reads h =
    let b : ℕ = get_or text a.looked 0 in
    looked_at_next a new text b lt refl l
    (grown a new (take a.looked text) (slice_range text a.end (a.looked + 1)) b h.seen unclosed w k s e l c
    (pushed_slice a text b h.seen lt refl) reads)

-- After the first unit, the units of the rest of the text follow.
left_behind : (a : Ahead) (text : List ℕ) (h : IsLooked a text) → is_something h.begun.seen.unit ≡ true
    → units text ≡ h.begun.seen.unit ∷ units (drop a.looked text)
left_behind a text h some = at a.closed refl
  where
    whole : text ≡ take a.looked text ++ drop a.looked text
    whole = sym (take-append-drop a.looked text)

    at : (t : Bool) → a.closed ≡ t → units text ≡ h.begun.seen.unit ∷ units (drop a.looked text)
    at true e = ap units whole ∙ (closed_over a (take a.looked text) h.begun.seen e).1 (drop a.looked text)
    at false e =
        let o = opened a (take a.looked text) h.begun.seen e in
        let none : drop a.looked text ≡ [] = drop_all a.looked text (omega (arith, h.all e)) in
        let part : List ℕ = h.begun.seen.unit ++ h.begun.seen.space in
        ap units whole ∙ ap (λ (l : List ℕ). units (take a.looked text ++ l)) none ∙ o.left [] ∙ ap units (append-nil part)
        ∙ ap kept (cut_alone part o.single)
        ∙ part_unit (take a.looked text) h.begun.seen.unit h.begun.seen.space [] some o
        ∙ ap (λ (l : List ℕ). h.begun.seen.unit ∷ units l) (sym none)

-- If more bytes follow, those that were read have the first unit, whatever follows.
front_over : (a : Ahead) (text : List ℕ) (h : IsLooked a text) → drop a.looked text ≢ []
    → (more : List ℕ) → units (take a.looked text ++ more) ≡ h.begun.seen.unit ∷ units more
front_over a text h behind = at a.closed refl
  where
    at : (t : Bool) → a.closed ≡ t → (more : List ℕ) → units (take a.looked text ++ more) ≡ h.begun.seen.unit ∷ units more
    at true e = (closed_over a (take a.looked text) h.begun.seen e).1
    at false e = absurd (behind (drop_all a.looked text (omega (arith, h.all e))))

pub first_is : (a : Ahead) (text : List ℕ) → IsLooked a text → a.start < a.end → IsFirst text (slice_range text a.start a.end) a.looked
first_is a text h lt =
    let seen = h.begun.seen in
    let some : is_something seen.unit ≡ true = something seen.unit (length seen.before) (omega (arith, lt, seen.begins, seen.closes)) in
    let slice = unit_slice a text seen in
    let within = unit_within a text h.begun in
    rw slice (record {
      units = left_behind a text h some;
      some = λ none. (let f : true ≡ false = sym some ∙ ap is_something none in absurd cc);
      within = (omega (arith, lt, within.1), within.2);
      front = λ behind. front_over a text h behind;
    })

-- If no unit was found, the text has none.
pub no_unit_found : (a : Ahead) (text : List ℕ) → IsLooked a text → a.end ≤ a.start → units text ≡ []
no_unit_found a text h ge = at a.closed refl
  where
    unit : h.begun.seen.unit ≡ []
    unit = nil_from_length h.begun.seen.unit (omega (arith, ge, h.begun.seen.begins, h.begun.seen.closes))

    at : (t : Bool) → a.closed ≡ t → units text ≡ []
    at true e =
        let some = (closed_over a (take a.looked text) h.begun.seen e).0 in
        let f : true ≡ false = sym some ∙ ap is_something unit in absurd cc
    at false e =
        let o = opened a (take a.looked text) h.begun.seen e in
        let space : h.begun.seen.space ≡ [] = o.unbegun (ap is_something unit) in
        let empty : h.begun.seen.unit ++ h.begun.seen.space ≡ [] = ap (λ (l : List ℕ). l ++ h.begun.seen.space) unit ∙ space in
        let all : take a.looked text ≡ text = take_all a.looked text (omega (arith, h.all e)) in
        ap units (sym all ∙ sym (append-nil (take a.looked text))) ∙ o.left [] ∙ ap (λ (l : List ℕ). units (l ++ [])) empty

-- The unit that was read is the first unit of the text.
pub found_unit_is_first : (a : Ahead) (text unit : List ℕ) → IsLooked a text → slice_get (units text) 0 ≡ Some unit
    → slice_range text a.start a.end ≡ unit
found_unit_is_first a text unit h is =
    elim (cases_lt a.start a.end) [
      | inl lt ↦
          let first = first_is a text h lt in
          let same : Some (slice_range text a.start a.end) ≡ Some unit =
          sym (ap (λ (us : List (List ℕ)). slice_get us 0) first.units) ∙ is in
          ap (λ (o : Option (List ℕ)). unwrap_or o []) same
      | inr ge ↦
          let none : None ≡ Some unit = sym (ap (λ (us : List (List ℕ)). slice_get us 0) (no_unit_found a text h ge)) ∙ is in
          absurd cc
    ]
