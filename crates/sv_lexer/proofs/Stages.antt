-- What is known of a unit after one more byte, for each stage that it may have reached.
use Rattle.std.proofs.Common.{◌≡◌, ℕ, ◌<◌, Bool, true, false, ◌&&◌, cond, List, [], ◌∷◌, ◌++◌, length, refl, sym, ap, ◌∙◌, subst, append_assoc, arith}
use Rattle.std.specs.List.{list_all}
use Rattle.std.specs.Char.{is_ascii_graphic}
use Rattle.sv_text.specs.Front.{is_empty}
use Rattle.sv_text.specs.White.{is_white}
use Rattle.sv_lexer.specs.Spelled.{is_mnemonic, is_header, words}
use Rattle.sv_lexer.specs.Unit.{header, header_place, rest, rest_place}
use Rattle.sv_lexer.specs.Partial.{Progress, in_u64, header_end, rest_end, last, others, longest, Awaits, HeaderEnds, UnitEnds, HasData, IsRead, At}
use Rattle.sv_lexer.specs.Inside.Stage.{behind_graphic, behind_space, next}
use Rattle.sv_lexer.specs.Inside.Moved.{progress_to, one_more}
use Rattle.sv_lexer.specs.declared.stage.Stage.{Stage}
use Rattle.sv_lexer.specs.declared.stage.Stage.TheVariants.{WhiteSpace, Asterisk, Colon, CommonMnemonic, Mnemonic, QuerySign, HeaderSeparator, ProgramData, DataSpace, Misspelled, Illegal}
use Rattle.sv_lexer.proofs.Ends.{before_white}
use Rattle.sv_lexer.proofs.Words.{words_some, words_with_question_mark}
use Rattle.sv_lexer.proofs.Headers.{IsCounted, HeaderPushed, list_all_by_last, header_some, header_is_pushed, is_before_header_end}
use Rattle.sv_lexer.proofs.Pushes.{IsLonger, IsSame, header_gets_longer, leading_white_gets_longer, header_continues, header_ends_at_white, rest_none, data_after_header, end_same, white_after_header, data_get_longer, white_after_data}
use mathlib.Core.Bool.{and-false}

-- ---- headers

-- A header that ends in a question mark is complete.
signed_header : (text : List ℕ) → HeaderEnds QuerySign text → is_header text ≡ true
signed_header text h =
    ap is_header h.1 ∙ ap (list_all is_mnemonic) (words_with_question_mark h.0 (header_some h.0 h.2.header) h.2.unsigned) ∙ h.2.header

-- If a mnemonic must follow, the header isn't complete yet.
awaits_none : (text : List ℕ) → Awaits text → is_header text ≡ false
awaits_none text h =
    list_all_by_last is_mnemonic (words text) (words_some text)
    ∙ ap (λ (word : List ℕ). list_all is_mnemonic (others (words text)) && is_mnemonic word) h.empty
    ∙ and-false (list_all is_mnemonic (others (words text)))

-- Whether the header is complete at this stage.
abbrev pub may_end : Stage → Bool
may_end WhiteSpace = false
may_end Asterisk = false
may_end Colon = false
may_end _ = true

pub is_header_at_stage : (stage : Stage) (text : List ℕ) → HeaderEnds stage text → is_header text ≡ may_end stage
is_header_at_stage WhiteSpace text h = ap is_header h
is_header_at_stage Asterisk text h = ap is_header h
is_header_at_stage Colon text h = awaits_none text h.1
is_header_at_stage CommonMnemonic text h = h.1.header
is_header_at_stage Mnemonic text h = h.1.header
is_header_at_stage QuerySign text h = signed_header text h
is_header_at_stage _ text h = h

-- ---- another byte of the header

word_read : (stage : Stage) (q : Progress) (unit : List ℕ) (b : ℕ) → IsLonger unit b → q.header_start ≡ in_u64 (header_place unit)
    → q.header_end ≡ in_u64 (length (unit ++ b ∷ [])) → HeaderEnds stage (header unit ++ b ∷ [])
    → IsCounted q.mnemonic q.longest (header unit ++ b ∷ []) → UnitEnds stage q (unit ++ b ∷ []) → IsRead stage q (unit ++ b ∷ [])
word_read stage q unit b l start end spelled counted ends =
    let c = subst (IsCounted q.mnemonic q.longest) (sym l.heads) counted in record {
      spelled = subst (HeaderEnds stage) (sym l.heads) spelled;
      ends = ends;
      begins = start ∙ ap in_u64 (sym l.begins);
      closes = λ some. end ∙ ap in_u64 (sym l.ends);
      mnemonic = c.last_size;
      front = c.front_size;
    }

at_word : (stage : Stage) (p : Progress) (unit : List ℕ) (b : ℕ) → one_more p.size ≡ in_u64 (length (unit ++ b ∷ []))
    → p.header_start ≡ in_u64 (header_place unit) → IsLonger unit b
    → ((more : List ℕ) → header ((unit ++ b ∷ []) ++ more) ≡ header unit ++ b ∷ before_white more)
    → HeaderPushed stage p.mnemonic p.longest (header unit) b → At stage (progress_to stage p) (unit ++ b ∷ [])
at_word WhiteSpace p unit b size start l over h = absurd h
at_word HeaderSeparator p unit b size start l over h = absurd h
at_word ProgramData p unit b size start l over h = absurd h
at_word DataSpace p unit b size start l over h = absurd h
at_word Illegal p unit b size start l over h = absurd h
at_word Misspelled p unit b size start l over h = λ more. ap is_header (over more) ∙ h (before_white more)
at_word stage p unit b size start l over h = word_read stage (progress_to stage p) unit b l start size h.spelled h.counted l.ends

first_on : (stage : Stage) (p : Progress) (unit : List ℕ) (b : ℕ) → is_before_header_end stage ≡ true → header_end unit ≡ length unit
    → one_more p.size ≡ in_u64 (length (unit ++ b ∷ [])) → is_white b ≡ false → IsRead stage p unit
    → At (behind_graphic stage b) (progress_to (behind_graphic stage b) p) (unit ++ b ∷ [])
first_on stage p unit b first ends size w h =
    at_word (behind_graphic stage b) p unit b size h.begins (header_gets_longer unit b ends w)
    (λ more. header_continues unit b more ends w)
    (header_is_pushed stage (header unit) b p.mnemonic p.longest first h.spelled (record { last_size = h.mnemonic; front_size = h.front }))

-- ---- leading white space

wider_on : (p : Progress) (unit : List ℕ) (b : ℕ) → one_more p.size ≡ in_u64 (length (unit ++ b ∷ [])) → is_white b ≡ true
    → IsRead WhiteSpace p unit → IsRead WhiteSpace (progress_to WhiteSpace p) (unit ++ b ∷ [])
wider_on p unit b size w h =
    let g = leading_white_gets_longer unit b h.spelled w in
    let heads : header (unit ++ b ∷ []) ≡ header unit = g.heads ∙ sym h.spelled in
    let none : length (header (unit ++ b ∷ [])) ≡ 0 = ap length g.heads in record {
      spelled = g.heads;
      ends = omega (arith, g.begins, none);
      begins = size ∙ ap in_u64 (sym g.begins);
      closes = λ some. (let f : true ≡ false = sym (ap is_empty g.heads) ∙ some in absurd cc);
      mnemonic = h.mnemonic ∙ ap (λ (l : List ℕ). in_u64 (length (last (words l)))) (sym heads);
      front = h.front ∙ ap (λ (l : List ℕ). in_u64 (longest (others (words l)))) (sym heads);
    }

-- ---- after the header

-- The progress still has what was read of the header.
record IsCarried (p q : Progress) : Type 0 where
  start : q.header_start ≡ p.header_start
  end : q.header_end ≡ p.header_end
  mnemonic : q.mnemonic ≡ p.mnemonic
  longest_one : q.longest ≡ p.longest

carried : (stage next : Stage) (p q : Progress) (unit new : List ℕ) → is_empty (header unit) ≡ false → IsCarried p q → IsSame unit new
    → HeaderEnds next (header unit) → UnitEnds next q new → IsRead stage p unit → IsRead next q new
carried stage next p q unit new some c s spelled ends h = record {
  spelled = subst (HeaderEnds next) (sym s.heads) spelled;
  ends = ends;
  begins = c.start ∙ h.begins ∙ ap in_u64 (sym s.begins);
  closes = λ full. c.end ∙ h.closes some ∙ ap in_u64 (sym (end_same unit new s));
  mnemonic = c.mnemonic ∙ h.mnemonic ∙ ap (λ (l : List ℕ). in_u64 (length (last (words l)))) (sym s.heads);
  front = c.longest_one ∙ h.front ∙ ap (λ (l : List ℕ). in_u64 (longest (others (words l)))) (sym s.heads);
}

gap_read : (stage : Stage) (p : Progress) (unit : List ℕ) (b : ℕ) → one_more p.size ≡ in_u64 (length (unit ++ b ∷ [])) → is_white b ≡ true
    → is_header (header unit) ≡ true → rest unit ≡ [] → IsRead stage p unit
    → IsRead HeaderSeparator (progress_to HeaderSeparator p) (unit ++ b ∷ [])
gap_read stage p unit b size w is none h =
    let some = header_some (header unit) is in
    let g = white_after_header unit b some none w in
    carried stage HeaderSeparator p (progress_to HeaderSeparator p) unit (unit ++ b ∷ []) some
    (record { start = refl; end = refl; mnemonic = refl; longest_one = refl }) g.same is (g.rests, g.ends, size) h

-- The program data begin at their first byte.
data_begun : (p : Progress) (unit : List ℕ) (place : ℕ) → (is_empty (rest unit) ≡ true → p.data_start ≡ in_u64 (length unit))
    → (is_empty (rest unit) ≡ false → p.data_start ≡ in_u64 (rest_place unit))
    → place ≡ cond (is_empty (rest unit)) (length unit) (rest_place unit) → p.data_start ≡ in_u64 place
data_begun p unit place none some e = at (is_empty (rest unit)) refl e
  where
    at : (t : Bool) → is_empty (rest unit) ≡ t → place ≡ cond t (length unit) (rest_place unit) → p.data_start ≡ in_u64 place
    at true f e = none f ∙ ap in_u64 (sym e)
    at false f e = some f ∙ ap in_u64 (sym e)

data_read : (stage : Stage) (p : Progress) (unit : List ℕ) (b : ℕ) → one_more p.size ≡ in_u64 (length (unit ++ b ∷ [])) → is_white b ≡ false
    → is_header (header unit) ≡ true → header_end unit < length unit → (is_empty (rest unit) ≡ true → p.data_start ≡ in_u64 (length unit))
    → (is_empty (rest unit) ≡ false → p.data_start ≡ in_u64 (rest_place unit))
    → IsRead stage p unit → IsRead ProgramData (progress_to ProgramData p) (unit ++ b ∷ [])
data_read stage p unit b size w is lt none data_there h =
    let some = header_some (header unit) is in
    let g = data_get_longer unit b some lt w in
    carried stage ProgramData p (progress_to ProgramData p) unit (unit ++ b ∷ []) some
    (record { start = refl; end = refl; mnemonic = refl; longest_one = refl }) g.same is
    (record { some = g.some; begins = data_begun p unit _ none data_there g.begins; ends = size ∙ ap in_u64 (sym g.ends) }, g.ends) h

space_read : (stage : Stage) (p : Progress) (unit : List ℕ) (b : ℕ) → is_white b ≡ true → is_header (header unit) ≡ true → HasData p unit
    → IsRead stage p unit → IsRead DataSpace (progress_to DataSpace p) (unit ++ b ∷ [])
space_read stage p unit b w is d h =
    let some = header_some (header unit) is in
    let g = white_after_data unit b some d.some w in
    let tail : length (rest (unit ++ b ∷ [])) ≡ length (rest unit) = ap length g.rests in
    let same : rest_end (unit ++ b ∷ []) ≡ rest_end unit = omega (arith, tail, g.begins) in
    carried stage DataSpace p (progress_to DataSpace p) unit (unit ++ b ∷ []) some
    (record { start = refl; end = refl; mnemonic = refl; longest_one = refl }) g.same is (
      record {
        some = ap is_empty g.rests ∙ d.some;
        begins = d.begins ∙ ap in_u64 (sym g.begins);
        ends = d.ends ∙ ap in_u64 (sym same);
      },
      g.ends,
    ) h

-- ---- another byte

misspelled_on : (unit : List ℕ) (b : ℕ) → ((more : List ℕ) → is_header (header (unit ++ more)) ≡ false)
    → (more : List ℕ) → is_header (header ((unit ++ b ∷ []) ++ more)) ≡ false
misspelled_on unit b h more = ap (λ (l : List ℕ). is_header (header l)) (append_assoc unit (b ∷ []) more) ∙ h (b ∷ more)

-- White space ends an incomplete header, which can't be completed any more.
ended : (unit : List ℕ) (b : ℕ) → header_end unit ≡ length unit → is_empty (header unit) ≡ false → is_white b ≡ true
    → is_header (header unit) ≡ false → (more : List ℕ) → is_header (header ((unit ++ b ∷ []) ++ more)) ≡ false
ended unit b ends some w none more = ap is_header (header_ends_at_white unit b more ends some w) ∙ none

at_space : (stage : Stage) (p : Progress) (unit : List ℕ) (b : ℕ) → one_more p.size ≡ in_u64 (length (unit ++ b ∷ [])) → is_white b ≡ true
    → At stage p unit → At (behind_space stage) (progress_to (behind_space stage) p) (unit ++ b ∷ [])
at_space WhiteSpace p unit b size w h = wider_on p unit b size w h
at_space Asterisk p unit b size w h = ended unit b h.ends (ap is_empty h.spelled) w (is_header_at_stage Asterisk (header unit) h.spelled)
at_space Colon p unit b size w h = ended unit b h.ends h.spelled.1.some w (is_header_at_stage Colon (header unit) h.spelled)
at_space HeaderSeparator p unit b size w h = gap_read HeaderSeparator p unit b size w h.spelled h.ends.0 h
at_space ProgramData p unit b size w h = space_read ProgramData p unit b w h.spelled h.ends.0 h
at_space DataSpace p unit b size w h = space_read DataSpace p unit b w h.spelled h.ends.0 h
at_space Misspelled p unit b size w h = misspelled_on unit b h
at_space Illegal p unit b size w h = tt
at_space stage p unit b size w h =
    gap_read stage p unit b size w (is_header_at_stage stage (header unit) h.spelled) (rest_none unit h.ends) h

data_more : (stage : Stage) (p : Progress) (unit : List ℕ) (b : ℕ) → one_more p.size ≡ in_u64 (length (unit ++ b ∷ [])) → is_white b ≡ false
    → is_header (header unit) ≡ true → HasData p unit → IsRead stage p unit
    → IsRead ProgramData (progress_to ProgramData p) (unit ++ b ∷ [])
data_more stage p unit b size w is d h =
    data_read stage p unit b size w is (data_after_header unit d.some)
    (λ e. (let f : false ≡ true = sym d.some ∙ e in absurd cc)) (λ e. d.begins) h

at_graphic : (stage : Stage) (p : Progress) (unit : List ℕ) (b : ℕ) → one_more p.size ≡ in_u64 (length (unit ++ b ∷ []))
    → is_white b ≡ false → At stage p unit → At (behind_graphic stage b) (progress_to (behind_graphic stage b) p) (unit ++ b ∷ [])
at_graphic HeaderSeparator p unit b size w h =
    data_read HeaderSeparator p unit b size w h.spelled h.ends.1 (λ e. h.ends.2)
    (λ e. (let f : true ≡ false = sym (ap is_empty h.ends.0) ∙ e in absurd cc)) h
at_graphic ProgramData p unit b size w h = data_more ProgramData p unit b size w h.spelled h.ends.0 h
at_graphic DataSpace p unit b size w h = data_more DataSpace p unit b size w h.spelled h.ends.0 h
at_graphic Misspelled p unit b size w h = misspelled_on unit b h
at_graphic Illegal p unit b size w h = tt
at_graphic stage p unit b size w h = first_on stage p unit b refl h.ends size w h

-- The next byte leads from each stage to the next.
pub next_stage_is_right : (stage : Stage) (p : Progress) (unit : List ℕ) (b : ℕ) → one_more p.size ≡ in_u64 (length (unit ++ b ∷ []))
    → At stage p unit → At (next stage b) (progress_to (next stage b) p) (unit ++ b ∷ [])
next_stage_is_right stage p unit b size h = at (is_white b) refl (is_ascii_graphic b)
  where
    at : (w : Bool) → is_white b ≡ w → (g : Bool) → At (cond w (behind_space stage) (cond g (behind_graphic stage b) Illegal))
        (progress_to (cond w (behind_space stage) (cond g (behind_graphic stage b) Illegal)) p) (unit ++ b ∷ [])
    at true w g = at_space stage p unit b size w h
    at false w true = at_graphic stage p unit b size w h
    at false w false = tt
