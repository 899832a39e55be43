-- What is printed in several calls, or in a loop, is the specified text.
use Rattle.std.proofs.Common.{◌≡◌, ℕ, suc, add-one, ◌+◌, ◌<◌, ◌≤◌, ◌-◌, min, Bool, true, false, List, [], ◌∷◌, ◌++◌, length, take, drop, map, Option, subst, refl, sym, ap, ◌∙◌, append_assoc, append-nil, slice_index_or, arith}
use Rattle.std.specs.Prelude.{not, if◌then◌else◌}
use Rattle.std.specs.List.{concat}
use Rattle.std.specs.Borrow.{Bor}
use Rattle.std.proofs.Math.Seq.{drop-cons}
use Rattle.std.proofs.lemmas.List.{length-drop}
use Rattle.sv_print.specs.Printed.{Prints}
use Rattle.sv_print.proofs.Taking.{prints_then, prints_equal_text, texts_all}
use Rattle.sv_explain.specs.declared.value.Value.{Value}
use Rattle.sv_explain.specs.declared.shown.Listed.{Listed}
use Rattle.sv_explain.specs.Value.{same_value, value_text}
use Rattle.sv_explain.specs.Lines.{value_line, lines_of, has_link, links_without}
use Rattle.sv_explain.specs.Inside.Names.{texts_of}

-- The pieces in which the line of a value is printed.
pub value_line_text : (owner name text : List ℕ)
    → (61 ∷ 32 ∷ (owner ++ (name ++ 32 ∷ []))) ++ (text ++ 10 ∷ []) ≡ value_line (owner ++ name) text
value_line_text owner name text = ap (λ (l : List ℕ). 61 ∷ 32 ∷ l)
    (append_assoc owner (name ++ 32 ∷ []) (text ++ 10 ∷ [])
    ∙ ap (λ (l : List ℕ). owner ++ l) (append_assoc name (32 ∷ []) (text ++ 10 ∷ []))
    ∙ sym (append_assoc owner name (32 ∷ (text ++ 10 ∷ []))))

-- The pieces in which the line of a link is printed.
pub link_line_text : (name same lid text : List ℕ) → same ≡ name
    → (61 ∷ 32 ∷ (same ++ (lid ++ 32 ∷ []))) ++ (text ++ 10 ∷ []) ≡ value_line (name ++ lid) text
link_line_text name same lid text e = ap (λ (l : List ℕ). 61 ∷ 32 ∷ l)
    (ap (λ (l : List ℕ). (l ++ (lid ++ 32 ∷ [])) ++ (text ++ 10 ∷ [])) e
    ∙ ap (λ (l : List ℕ). l ++ (text ++ 10 ∷ [])) (sym (append_assoc name lid (32 ∷ [])))
    ∙ append_assoc (name ++ lid) (32 ∷ []) (text ++ 10 ∷ []))

-- The pieces in which the line of a list of numbers is printed.
pub numbers_line_text : (name numbers : List ℕ)
    → (61 ∷ 32 ∷ (name ++ [])) ++ (numbers ++ 10 ∷ []) ≡ 61 ∷ 32 ∷ (name ++ (numbers ++ 10 ∷ []))
numbers_line_text name numbers = ap (λ (l : List ℕ). 61 ∷ 32 ∷ (l ++ (numbers ++ 10 ∷ []))) (append-nil name)

pub false_from_not : (b : Bool) → true ≡ not b → b ≡ false
false_from_not true e = absurd cc
false_from_not false e = refl

-- The text of a change is printed if there is a change.
pub prints_if_changed : (old new : Option (List ℕ)) (f g : Bool) (b : Bool) (text : List ℕ) → b ≡ false → Prints old f new g text
    → Prints old f new g (if b then [] else text)
prints_if_changed old new f g false text e x = x
prints_if_changed old new f g true text e x = absurd cc

pub prints_all : {X : Type 0} (f : X → List ℕ) (xs : List X) (i : ℕ) (old new : Option (List ℕ)) (a b : Bool) → length xs ≤ i
    → Prints old a new b (concat (map f (take i xs))) → Prints old a new b (concat (map f xs))
prints_all f xs i old new a b h x = prints_equal_text old new a b _ _ (texts_all f xs i h) x

-- ---- the lines of changed values

pub below_least : (a b c m n i : ℕ) → m ≡ min a b → n ≡ min m c → i < n → (i < a) × (i < b) × (i < c)
below_least a b c m n i e f h = (grind arith, grind arith, grind arith)

one_each : (a b c : ℕ) → min (min (suc a) (suc b)) (suc c) ≤ 0 → ⊥
one_each a b c h = grind arith

-- Without a name or a value there is no line.
no_lines : (owner : List ℕ) (names : List (Bor (List ℕ))) (olds news : List Value)
    → min (min (length names) (length olds)) (length news) ≤ 0 → lines_of owner (texts_of names) olds news ≡ []
no_lines owner [] olds news h = refl
no_lines owner (name ∷ names) [] news h = refl
no_lines owner (name ∷ names) (old ∷ olds) [] h = refl
no_lines owner (name ∷ names) (old ∷ olds) (new ∷ news) h = absurd (one_each (length names) (length olds) (length news) h)

least_less : (a b c i : ℕ) → min (min a b) c ≤ i → min (min (a - i) (b - i)) (c - i) ≤ 0
least_less a b c i h = grind arith

module _ (owner : List ℕ) (names : List (Bor (List ℕ))) (olds news : List Value) where
  -- The lines of the values from an index on.
  abbrev lines_from : ℕ → List ℕ
  lines_from i = lines_of owner (texts_of (drop i names)) (drop i olds) (drop i news)

  -- The line of one value, if the value changed.
  abbrev line_at : ℕ → Bor (List ℕ) → Value → List ℕ
  line_at i n v = if same_value (slice_index_or olds i v) (slice_index_or news i v) then []
      else value_line (owner ++ (slice_index_or names i n).now) (value_text (slice_index_or news i v))

  -- The first of these lines, and the others.
  lines_cut : (i : ℕ) (n : Bor (List ℕ)) (v : Value) → i < length names → i < length olds → i < length news
      → lines_from i ≡ line_at i n v ++ lines_from (i + 1)
  lines_cut i n v x y z = rw (add-one, drop-cons names i n, drop-cons olds i v, drop-cons news i v)

  -- The line of another value is printed.
  pub values_more : (i : ℕ) (n : Bor (List ℕ)) (v : Value) (old mid new : Option (List ℕ)) (f g h : Bool)
      → (i < length names) × (i < length olds) × (i < length news)
      → (done : List ℕ) × (lines_from 0 ≡ done ++ lines_from i) × Prints old f mid g done
      → Prints mid g new h (line_at i n v)
      → (done : List ℕ) × (lines_from 0 ≡ done ++ lines_from (i + 1)) × Prints old f new h done
  values_more i n v old mid new f g h within x y = (
    x.0 ++ line_at i n v,
    x.1 ∙ ap (λ (l : List ℕ). x.0 ++ l) (lines_cut i n v within.0 within.1 within.2)
        ∙ sym (append_assoc x.0 (line_at i n v) (lines_from (i + 1))),
    prints_then old mid new f g h x.0 (line_at i n v) x.2 y,
  )

  -- After the loop, all lines are printed.
  pub values_all : (m n i : ℕ) (old new : Option (List ℕ)) (f g : Bool)
      → m ≡ min (length names) (length olds) → n ≡ min m (length news) → n ≤ i
      → (done : List ℕ) × (lines_from 0 ≡ done ++ lines_from i) × Prints old f new g done
      → Prints old f new g (lines_of owner (texts_of names) olds news)
  values_all m n i old new f g d e h x =
      let least : n ≡ min (min (length names) (length olds)) (length news) = e ∙ ap (λ (k : ℕ). min k (length news)) d in
      let over : lines_from i ≡ [] = no_lines owner (drop i names) (drop i olds) (drop i news)
      (simp length-drop (least_less (length names) (length olds) (length news) i (subst (λ (k : ℕ). k ≤ i) least h))) in
      prints_equal_text old new f g _ _ (sym (x.1 ∙ ap (λ (l : List ℕ). x.0 ++ l) over ∙ append-nil x.0)) x.2

-- ---- the lines of links

-- The line of a link; empty if another list has the link.
abbrev pub line_unless : (Listed → List ℕ) → List Listed → Listed → List ℕ
line_unless line other link = if has_link other link.lid then [] else line link

-- The lines of the links that another list doesn't have.
pub without_lines : (line : Listed → List ℕ) (other links : List Listed)
    → concat (map (line_unless line other) links) ≡ concat (map line (links_without links other))
without_lines line other [] = refl
without_lines line other (link ∷ links) = step (has_link other link.lid) refl (without_lines line other links)
  where
    step : (b : Bool) → has_link other link.lid ≡ b
        → concat (map (line_unless line other) links) ≡ concat (map line (links_without links other))
        → concat (map (line_unless line other) (link ∷ links)) ≡ concat (map line (links_without (link ∷ links) other))
    step true e rest = rw e rest
    step false e rest = rw e (ap (λ (l : List ℕ). line link ++ l) rest)

-- ---- texts by number

pub prints_of_equals : {X : Type 0} (text : X → X → List ℕ) (a b c d : X) (old new : Option (List ℕ)) (f g : Bool) → a ≡ c → b ≡ d
    → Prints old f new g (text a b) → Prints old f new g (text c d)
prints_of_equals {X = X} text a b c d old new f g x y = prints_equal_text old new f g (text a b) (text c d)
    (ap (λ (k : X). text k b) x ∙ ap (λ (k : X). text c k) y)
