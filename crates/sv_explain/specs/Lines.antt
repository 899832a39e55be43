-- The lines of values that changed.
use Rattle.std.specs.Prelude.{ℕ, ℤ, ◌==◌, Bool, not, List, [], ◌∷◌, ◌++◌, map, filter, codes, decimal, if◌then◌else◌}
use Rattle.std.specs.List.{concat, list_any}
use Rattle.std.specs.Cmp.Lexicographic.{pointwise}
use Rattle.std.specs.Ordering.{int_eq}
use Rattle.std.specs.Fmt.{signed_decimal}
use Rattle.sv_explain.specs.declared.value.Value.{Value}
use Rattle.sv_explain.specs.declared.shown.Listed.{Listed}
use Rattle.sv_explain.specs.Value.{value_text, same_value}

-- the line of a value: its name and its text
abbrev pub value_line : List ℕ → List ℕ → List ℕ
value_line name text = codes "= " ++ (name ++ 32 ∷ (text ++ 10 ∷ []))

-- the lines of those values of a list that changed; each name is that of the value in its place,
-- with `owner` before it
abbrev pub lines_of : List ℕ → List (List ℕ) → List Value → List Value → List ℕ
lines_of owner (name ∷ names) (old ∷ olds) (new ∷ news) =
    (if same_value old new then [] else value_line (owner ++ name) (value_text new)) ++ lines_of owner names olds news
lines_of owner _ _ _ = []

-- numbers, each with a space before it; ` none` without a number
abbrev pub numbers_text : List ℤ → List ℕ
numbers_text [] = codes " none"
numbers_text (number ∷ numbers) = concat (map (λ n. 32 ∷ signed_decimal n) (number ∷ numbers))

-- the line of a list of numbers; no line if it didn't change
abbrev pub numbers_line : List ℕ → List ℤ → List ℤ → List ℕ
numbers_line name old new = if pointwise int_eq old new then [] else codes "= " ++ (name ++ (numbers_text new ++ 10 ∷ []))

-- whether a link is in this list
abbrev pub has_link : List Listed → ℕ → Bool
has_link links lid = list_any (λ link. link.lid == lid) links

-- the links of a list that aren't in another one
abbrev pub links_without : List Listed → List Listed → List Listed
links_without links other = filter (λ link. not (has_link other link.lid)) links

-- the lines of the links that left a list, with the text `off`, and then of those that came, with
-- the text that `on` gives
abbrev pub links_lines : List ℕ → List ℕ → (Listed → List ℕ) → List Listed → List Listed → List ℕ
links_lines name off on old new = concat (map (λ link. value_line (name ++ decimal link.lid) off) (links_without old new))
    ++ concat (map (λ link. value_line (name ++ decimal link.lid) (on link)) (links_without new old))
