-- How a text is cut into lines, and how reading more text changes the last line only.
use Rattle.std.proofs.Common.{◌≡◌, ◌≢◌, ℕ, ◌+◌, ◌<◌, ◌==◌, cond, Bool, true, false, List, [], ◌∷◌, ◌++◌, length, take, drop, Option, Some, None, unwrap_or, refl, sym, ap, ◌∙◌, inl, inr, arith}
use Rattle.std.proofs.lemmas.Bool.{lt-ltb, le-ltb, cases_lt}
use Rattle.std.specs.List.{onto_first as onto}
use Rattle.sv_text.proofs.Parts.{first_part_is_cut, whole_text_is_part}
use Rattle.sv_replay.specs.Script.{parts}
use Rattle.sv_replay.specs.Text.{line_size, first_end}

-- The first line ends at the first new line.
first_end_bounds : (text : List ℕ) (len : ℕ) → first_end text ≡ Some len → (line_size text ≡ len) × (len < length text)
first_end_bounds text len e = elim (cases_lt (line_size text) (length text)) [
  | inl less ↦ (let same : Some (line_size text) ≡ Some len =
      sym (ap (λ (b : Bool). cond b (Some (line_size text)) None) (lt-ltb (line_size text) (length text) less)) ∙ e in
      let is : line_size text ≡ len = ap (λ (o : Option ℕ). unwrap_or o 0) same in (is, omega arith))
  | inr more ↦
      absurd (let z : None ≡ Some len =
      sym (ap (λ (b : Bool). cond b (Some (line_size text)) None) (le-ltb (line_size text) (length text) more)) ∙ e in cc)
]

pub parts_at_newline : (text : List ℕ) (len : ℕ) → first_end text ≡ Some len → parts text ≡ take len text ∷ parts (drop (len + 1) text)
parts_at_newline text len e =
    let (is, less) = first_end_bounds text len e in
    first_part_is_cut 10 len text (sym is) less

pub parts_of_no_newline : (text : List ℕ) → first_end text ≡ None → parts text ≡ text ∷ []
parts_of_no_newline text e = elim (cases_lt (line_size text) (length text)) [
  | inl less ↦ absurd (let z : Some (line_size text) ≡ None =
      sym (ap (λ (b : Bool). cond b (Some (line_size text)) None) (lt-ltb (line_size text) (length text) less)) ∙ e in cc)
  | inr more ↦ whole_text_is_part 10 (line_size text) text refl more
]

parts_cons : (text : List ℕ) → (first : List ℕ) × (others : List (List ℕ)) × (parts text ≡ first ∷ others)
parts_cons [] = ([], [], refl)
parts_cons (b ∷ text) = here (b == 10) (parts_cons text)
  where
    here : (test : Bool) → (first : List ℕ) × (others : List (List ℕ)) × (parts text ≡ first ∷ others)
        → (first : List ℕ) × (others : List (List ℕ)) × (cond test ([] ∷ parts text) (onto b (parts text)) ≡ first ∷ others)
    here true (first, others, e) = ([], parts text, refl)
    here false (first, others, e) = (b ∷ first, others, ap (onto b) e)

pub parts_never_empty : (text : List ℕ) → parts text ≢ []
parts_never_empty text none = let (first, others, e) = parts_cons text in absurd (let z : [] ≡ first ∷ others = sym none ∙ e in cc)

-- The lines of a text that is followed by another: the last line of the first text continues with
-- the first line of the second.
abbrev join_lines : List (List ℕ) → List (List ℕ) → List (List ℕ)
join_lines [] more = more
join_lines (part ∷ []) [] = part ∷ []
join_lines (part ∷ []) (first ∷ more) = (part ++ first) ∷ more
join_lines (part ∷ other ∷ parts) more = part ∷ join_lines (other ∷ parts) more

onto_join_lines : (b : ℕ) (first : List ℕ) (others more : List (List ℕ))
    → onto b (join_lines (first ∷ others) more) ≡ join_lines ((b ∷ first) ∷ others) more
onto_join_lines b first [] [] = refl
onto_join_lines b first [] (part ∷ more) = refl
onto_join_lines b first (other ∷ others) more = refl

parts_append : (text more : List ℕ) → parts (text ++ more) ≡ join_lines (parts text) (parts more)
parts_append [] more = let (first, others, e) = parts_cons more in e ∙ ap (join_lines ([] ∷ [])) (sym e)
parts_append (b ∷ text) more = here (b == 10) (parts_cons text) (parts_append text more)
  where
    here : (test : Bool) → (first : List ℕ) × (others : List (List ℕ)) × (parts text ≡ first ∷ others)
        → parts (text ++ more) ≡ join_lines (parts text) (parts more)
        → cond test ([] ∷ parts (text ++ more)) (onto b (parts (text ++ more)))
        ≡ join_lines (cond test ([] ∷ parts text) (onto b (parts text))) (parts more)
    here true (first, others, e) rest =
        ap (λ (ps : List (List ℕ)). [] ∷ ps) rest ∙ ap (λ (ps : List (List ℕ)). [] ∷ join_lines ps (parts more)) e
        ∙ sym (ap (λ (ps : List (List ℕ)). join_lines ([] ∷ ps) (parts more)) e)
    here false (first, others, e) rest =
        ap (onto b) rest ∙ ap (λ (ps : List (List ℕ)). onto b (join_lines ps (parts more))) e ∙ onto_join_lines b first others (parts more)
        ∙ sym (ap (λ (ps : List (List ℕ)). join_lines (onto b ps) (parts more)) e)

join_lines_after : (lines : List (List ℕ)) (first : List ℕ) (others more : List (List ℕ))
    → join_lines (lines ++ first ∷ others) more ≡ lines ++ join_lines (first ∷ others) more
join_lines_after [] first others more = refl
join_lines_after (line ∷ []) first others more = refl
join_lines_after (line ∷ other ∷ lines) first others more =
    ap (λ (ps : List (List ℕ)). line ∷ ps) (join_lines_after (other ∷ lines) first others more)

-- Reading more text leaves the executed lines as they are.
pub parts_of_more_text : (read left more : List ℕ) (lines : List (List ℕ)) → parts read ≡ lines ++ parts left
    → parts (read ++ more) ≡ lines ++ parts (left ++ more)
parts_of_more_text read left more lines e =
    let (first, others, some) = parts_cons left in
    parts_append read more ∙ ap (λ (ps : List (List ℕ)). join_lines ps (parts more)) (e ∙ ap (λ (ps : List (List ℕ)). lines ++ ps) some)
    ∙ join_lines_after lines first others (parts more)
    ∙ ap (λ (ps : List (List ℕ)). lines ++ ps) (sym (parts_append left more ∙ ap (λ (ps : List (List ℕ)). join_lines ps (parts more)) some))
