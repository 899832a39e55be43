-- The entries that are read line by line are those that the whole scenario describes.
use Rattle.std.proofs.Common.{◌≡◌, ◌≢◌, ℕ, ◌+◌, List, [], ◌∷◌, ◌++◌, length, refl, sym, subst, ap, ◌∙◌, inl, inr, append_assoc, arith}
use Rattle.std.specs.Prelude.{Result, Ok, Err, IsErr, IsErrAnd, MatchResult}
use Rattle.std.proofs.lemmas.List.{length-append}
use Rattle.sv_replay.specs.declared.entry.Entry.{Entry}
use Rattle.sv_replay.specs.declared.scenario.ScenarioFault.{ScenarioFault}
use Rattle.sv_replay.specs.declared.scenario.ScenarioFault.TheVariants.{BadLine, Memory}
use Rattle.sv_replay.specs.Script.{parts}
use Rattle.sv_replay.specs.Entry.{SaysEntry}
use Rattle.sv_replay.specs.Scenario.{SaysFrom, Tells, last_tick, IsBadFrom, Reads}
use Rattle.sv_replay.specs.ScenarioStage.{Adds, IsRead}
use Rattle.sv_replay.proofs.Entries.{entry_unique}

pub nonzero_length_not_empty : (line : List ℕ) → (length line ≡ 0 → ⊥) → line ≢ []
nonzero_length_not_empty [] some none = some refl
nonzero_length_not_empty (byte ∷ line) some none = absurd cc

-- An empty line after the others adds no entry.
tells_with_empty_line : (least : ℕ) (front : List (List ℕ)) (entries : List Entry) (line : List ℕ) → line ≡ [] → Tells least front entries
    → Tells least (front ++ line ∷ []) entries
tells_with_empty_line least [] entries line none is = inl (none, is)
tells_with_empty_line least (first ∷ front) entries line none (inl (empty, rest)) =
    inl (empty, tells_with_empty_line least front entries line none rest)
tells_with_empty_line least (first ∷ front) entries line none (inr (entry, others, says, rest, is)) =
    inr (entry, others, says, tells_with_empty_line entry.tick front others line none rest, is)

-- A line after the others adds the entry that it describes.
tells_with_entry : (least : ℕ) (front : List (List ℕ)) (entries : List Entry) (line : List ℕ) (entry : Entry) → Tells least front entries
    → SaysFrom (last_tick least entries) line entry → Tells least (front ++ line ∷ []) (entries ++ entry ∷ [])
tells_with_entry least [] entries line entry is says = inr (
  entry,
  [],
  subst (λ (es : List Entry). SaysFrom (last_tick least es) line entry) is says,
  refl,
  ap (λ (es : List Entry). es ++ entry ∷ []) is,
)
tells_with_entry least (first ∷ front) entries line entry (inl (empty, rest)) says =
    inl (empty, tells_with_entry least front entries line entry rest says)
tells_with_entry least (first ∷ front) entries line entry (inr (one, others, said, rest, is)) says = inr (
  one,
  others ++ entry ∷ [],
  said,
  tells_with_entry one.tick front others line entry rest
      (subst (λ (es : List Entry). SaysFrom (last_tick least es) line entry) is says),
  ap (λ (es : List Entry). es ++ entry ∷ []) is,
)

last_tick_append : (least : ℕ) (entries : List Entry) (entry : Entry) → last_tick least (entries ++ entry ∷ []) ≡ entry.tick
last_tick_append least [] entry = refl
last_tick_append least (one ∷ entries) entry = last_tick_append one.tick entries entry

empty_line_says_no_entry : (line : List ℕ) (entry : Entry) → line ≡ [] → SaysEntry line entry → ⊥
empty_line_says_no_entry line entry none ([], text, is, short, says, fine, line_is) = is.0 refl
empty_line_says_no_entry line entry none (digit ∷ digits, text, is, short, says, fine, line_is) =
    let z : [] ≡ digit ∷ (digits ++ 32 ∷ text) = sym none ∙ line_is in absurd cc

-- The lines describe at most one list of entries.
pub tells_unique : (least : ℕ) (lines : List (List ℕ)) (a b : List Entry) → Tells least lines a → Tells least lines b → a ≡ b
tells_unique least [] a b tells_a tells_b = tells_a ∙ sym tells_b
tells_unique least (line ∷ lines) a b (inl (empty, rest)) (inl (_, other)) = tells_unique least lines a b rest other
tells_unique least (line ∷ lines) a b (inl (empty, rest)) (inr (entry, others, says, other, is)) =
    absurd (empty_line_says_no_entry line entry empty says.1)
tells_unique least (line ∷ lines) a b (inr (entry, others, says, other, is)) (inl (empty, rest)) =
    absurd (empty_line_says_no_entry line entry empty says.1)
tells_unique least (line ∷ lines) a b (inr (x, xs, says_x, tells_x, a_is)) (inr (y, ys, says_y, tells_y, b_is)) =
    let same : x ≡ y = entry_unique line x y says_x.1 says_y.1 in
    let rest : xs ≡ ys = tells_unique x.tick lines xs ys tells_x (subst (λ (e : Entry). Tells e.tick lines ys) (sym same) tells_y) in
    a_is ∙ ap (λ (e : Entry). e ∷ xs) same ∙ ap (λ (es : List Entry). y ∷ es) rest ∙ sym b_is

lines_with_next : (text left line : List ℕ) (front behind : List (List ℕ)) → parts text ≡ front ++ parts left → parts left ≡ line ∷ behind
    → parts text ≡ (front ++ line ∷ []) ++ behind
lines_with_next text left line front behind is cut =
    is ∙ ap (λ (ps : List (List ℕ)). front ++ ps) cut ∙ sym (append_assoc front (line ∷ []) behind)

-- After a line that was read, the entries are those that the lines so far describe.
tells_added : (front : List (List ℕ)) (line : List ℕ) (number least tick : ℕ) (old new : List Entry) → Tells 0 front old
    → least ≡ last_tick 0 old → Adds least line number old new (Ok tick) → Tells 0 (front ++ line ∷ []) new × (tick ≡ last_tick 0 new)
tells_added front line number least tick old new tells least_is (inl (none, same, tick_is)) =
    rw same (tells_with_empty_line 0 front old line none tells, tick_is ∙ least_is)
tells_added front line number least tick old new tells least_is (inr (entry, says, new_is, tick_is)) =
    rw new_is (
      tells_with_entry 0 front old line entry tells (subst (λ (n : ℕ). SaysFrom n line entry) least_is says),
      tick_is ∙ sym (last_tick_append 0 old entry),
    )

-- Reading a line that isn't the last one extends what was read by this line.
pub read_line : (text left line rest : List ℕ) (number next least tick : ℕ) (old new : List Entry) → IsRead text number old least left
    → parts left ≡ line ∷ parts rest → next ≡ number + 1 → Adds least line next old new (Ok tick) → IsRead text next new tick rest
read_line text left line rest number next least tick old new (front, is, count, tells, least_is) cut up adds =
    let (told, last) = tells_added front line next least tick old new tells least_is adds in (
      front ++ line ∷ [],
      lines_with_next text left line front (parts rest) is cut,
      omega (arith, length-append front (line ∷ [])),
      told,
      last,
    )

-- After the last line, the result is the list of all entries.
pub read_last : (text left : List ℕ) (number next least tick : ℕ) (old new : List Entry) → IsRead text number old least left
    → parts left ≡ left ∷ [] → Adds least left next old new (Ok tick) → Reads text (Ok new)
read_last text left number next least tick old new (front, is, count, tells, least_is) cut adds =
    let (told, last) = tells_added front left next least tick old new tells least_is adds in
    rw (is, cut) told

-- If a line is bad or memory for its entry is refused, reading stops with this fault.
reading_stops_with_fault : (text left line : List ℕ) (behind : List (List ℕ)) (number next least : ℕ) (old new : List Entry)
    (fault : ScenarioFault)
    → IsRead text number old least left → parts left ≡ line ∷ behind → next ≡ number + 1 → Adds least line next old new (Err fault)
    → Reads text (Err fault)
reading_stops_with_fault text left line more number next least old new (BadLine n) (front, is, count, tells, least_is) cut up (at, bad) = (
  front,
  more,
  line,
  old,
  is ∙ ap (λ (ps : List (List ℕ)). front ++ ps) cut,
  omega arith,
  tells,
  subst (λ (m : ℕ). IsBadFrom m line) least_is bad,
)
reading_stops_with_fault text left line more number next least old new Memory (front, is, count, tells, least_is) cut up (entry, says) = (
  front,
  more,
  line,
  old,
  entry,
  is ∙ ap (λ (ps : List (List ℕ)). front ++ ps) cut,
  tells,
  subst (λ (m : ℕ). SaysFrom m line entry) least_is says,
)

-- The same for a result that passes this fault on.
pub reading_passes_fault_on : {V : Type 0} (P : V → Type 0) (text left line : List ℕ) (behind : List (List ℕ)) (number next least : ℕ)
    (old new : List Entry) (fault : ScenarioFault) (result : Result V ScenarioFault)
    → IsRead text number old least left → parts left ≡ line ∷ behind → next ≡ number + 1 → Adds least line next old new (Err fault)
    → IsErr result → IsErrAnd result (λ e. e ≡ fault) → MatchResult result P (λ e. Reads text (Err e))
reading_passes_fault_on P text left line behind number next least old new fault (Ok value) read cut up adds failed is = absurd cc
reading_passes_fault_on P text left line behind number next least old new fault (Err e) read cut up adds failed is =
    subst (λ (f : ScenarioFault). Reads text (Err f)) (sym is)
    (reading_stops_with_fault text left line behind number next least old new fault read cut up adds)
