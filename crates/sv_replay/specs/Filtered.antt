-- A text without the lines by which an explained replay tells what happens.
use Rattle.std.specs.Prelude.{ℕ, ◌==◌, Bool, false, List, [], ◌∷◌, ◌++◌, codes, if◌then◌else◌}
use Rattle.std.specs.List.{list_any}
use Rattle.sv_replay.specs.Script.{parts}

-- whether a line begins with `@`, `-` or `=`
abbrev pub is_told : List ℕ → Bool
is_told [] = false
is_told (first ∷ line) = list_any (λ mark. mark == first) (codes "@-=")

-- the text of these lines without those that begin with `@`, `-` or `=`; a new line ends each line
-- but the last
abbrev pub left_of : List (List ℕ) → List ℕ
left_of [] = []
left_of (last ∷ []) = if is_told last then [] else last
left_of (line ∷ next ∷ lines) = (if is_told line then [] else line ++ 10 ∷ []) ++ left_of (next ∷ lines)

-- a text without its lines that begin with `@`, `-` or `=`; a last line without a new line is also
-- left out if it begins so
abbrev pub filtered : List ℕ → List ℕ
filtered text = left_of (parts text)
