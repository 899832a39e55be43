-- A unit read byte by byte has the fault and the parts that it has when it is read at once.
use Rattle.std.proofs.Common.{◌≡◌, ℕ, ◌+◌, ◌-◌, ◌^◌, ◌<◌, ◌≤◌, ◌==◌, Bool, true, false, not, ◌&&◌, ◌||◌, cond, List, [], ◌∷◌, ◌++◌, length, take, get_or, max, nat_lt, nat_le, ◌⊎◌, Option, Some, None, inl, inr, refl, sym, ap, ◌∙◌, subst, append_assoc, append-nil, arith}
use Rattle.std.specs.List.{list_all}
use Rattle.std.specs.Char.{is_ascii_graphic, is_ascii_alphabetic as is_letter}
use Rattle.std.proofs.lemmas.Bool.{cases_lt, le-leb, lt-leb}
use Rattle.std.proofs.lemmas.Bool.Decides.{nat_tests}
use Rattle.std.proofs.lemmas.List.{length_push, take_more}
use Rattle.sv_errors.specs.declared.code.Code.{Code}
use Rattle.sv_errors.specs.declared.code.Code.TheVariants.{InvalidCharacter, SyntaxError, ProgramMnemonicTooLong}
use Rattle.sv_text.specs.White.{is_white}
use Rattle.sv_lexer.specs.Spelled.{is_word_byte, is_header, words}
use Rattle.sv_lexer.specs.Unit.{header, header_place, rest, rest_place, is_legal, unit_fault}
use Rattle.sv_lexer.specs.Partial.{Progress, in_u64, header_end, rest_end, last, others, longest, is_illegal, HasData, IsRead, At, Reads}
use Rattle.sv_lexer.specs.Inside.Stage.{behind_graphic, behind_space, next}
use Rattle.sv_lexer.specs.Inside.Moved.{progress_to, one_more}
use Rattle.sv_lexer.specs.Inside.Finish.{IsCut, length_fault_of, fault_of, data_of}
use Rattle.sv_lexer.specs.declared.stage.Stage.{Stage}
use Rattle.sv_lexer.specs.declared.stage.Stage.TheVariants.{WhiteSpace, Asterisk, Colon, CommonMnemonic, Mnemonic, QuerySign, HeaderSeparator, ProgramData, DataSpace, Misspelled, Illegal}
use Rattle.sv_lexer.proofs.Standing.{stands_within}
use Rattle.sv_lexer.proofs.Tokens.{header_stands, rest_stands}
use Rattle.sv_lexer.proofs.Headers.{header_some, longest_is}
use Rattle.sv_lexer.proofs.Pushes.{list_all_append_one, rest_none, rest_place_without_data}
use Rattle.sv_lexer.proofs.Stages.{next_stage_is_right, is_header_at_stage, may_end}
use mathlib.Core.Bool.{and-true, and-false}

-- ---- another byte

illegal_cond : (t : Bool) (a b : Stage) → is_illegal a ≡ false → is_illegal b ≡ false → is_illegal (cond t a b) ≡ false
illegal_cond true a b e f = e
illegal_cond false a b e f = f

space_legal : (stage : Stage) → is_illegal (behind_space stage) ≡ is_illegal stage
space_legal Illegal = refl
space_legal _ = refl

graphic_legal : (stage : Stage) (b : ℕ) → is_illegal (behind_graphic stage b) ≡ is_illegal stage
graphic_legal WhiteSpace b =
    illegal_cond (b == 42) Asterisk _ refl (illegal_cond (b == 58) Colon _ refl (illegal_cond (is_letter b) Mnemonic Misspelled refl refl))
graphic_legal Asterisk b = illegal_cond (is_letter b) CommonMnemonic Misspelled refl refl
graphic_legal Colon b = illegal_cond (is_letter b) Mnemonic Misspelled refl refl
graphic_legal CommonMnemonic b =
    illegal_cond (is_word_byte b) CommonMnemonic _ refl (illegal_cond (b == 63) QuerySign Misspelled refl refl)
graphic_legal Mnemonic b =
    illegal_cond (is_word_byte b) Mnemonic _ refl
    (illegal_cond (b == 63) QuerySign _ refl (illegal_cond (b == 58) Colon Misspelled refl refl))
graphic_legal _ b = refl

graphic_is : (b : ℕ) → (nat_lt 32 b && nat_lt b 127) ≡ is_ascii_graphic b
graphic_is b = grind (arith, nat_tests)

legal_next : (stage : Stage) (b : ℕ) → (not (is_illegal stage) && is_legal b) ≡ not (is_illegal (next stage b))
legal_next stage b =
    ap (λ (t : Bool). not (is_illegal stage) && (is_white b || t)) (graphic_is b) ∙ at (is_white b) (is_ascii_graphic b)
  where
    at : (w g : Bool) → (not (is_illegal stage) && (w || g))
        ≡ not (is_illegal (cond w (behind_space stage) (cond g (behind_graphic stage b) Illegal)))
    at true g = and-true (not (is_illegal stage)) ∙ ap not (sym (space_legal stage))
    at false true = and-true (not (is_illegal stage)) ∙ ap not (sym (graphic_legal stage b))
    at false false = and-false (not (is_illegal stage))

-- Before the first byte, nothing was read.
pub nothing_was_read : (p : Progress) → p.stage ≡ WhiteSpace → p.size ≡ 0 → p.header_start ≡ 0 → p.mnemonic ≡ 0 → p.longest ≡ 0 → Reads p []
nothing_was_read p stage size start mnemonic front = record {
  size = size;
  legal = ap (λ (s : Stage). not (is_illegal s)) (sym stage);
  known = subst (λ (s : Stage). At s p []) (sym stage) (record {
    spelled = refl;
    ends = refl;
    begins = start;
    closes = λ some. (let f : true ≡ false = some in absurd cc);
    mnemonic = mnemonic;
    front = front;
  });
}

-- One byte more is read.
pub reads_byte : (p new : Progress) (unit : List ℕ) (b : ℕ) → new ≡ progress_to (next p.stage b) p → Reads p unit
    → Reads new (unit ++ b ∷ [])
reads_byte p new unit b is h =
    let long = length_push unit b in
    let size : one_more p.size ≡ in_u64 (length (unit ++ b ∷ [])) = omega (arith, long, h.size) in
    subst (λ (q : Progress). Reads q (unit ++ b ∷ [])) (sym is) (record {
      size = size;
      legal = list_all_append_one is_legal unit b ∙ ap (λ (t : Bool). t && is_legal b) h.legal ∙ legal_next p.stage b;
      known = next_stage_is_right p.stage p unit b size h.known;
    })

-- The next of several bytes is read.
pub reads_next_byte : (p : Progress) (before bytes : List ℕ) (i : ℕ) → i < length bytes
    → Reads p (before ++ take i bytes ++ get_or bytes i 0 ∷ []) → Reads p (before ++ take (i + 1) bytes)
reads_next_byte p before bytes i lt h =
    subst (Reads p)
    (append_assoc before (take i bytes) (get_or bytes i 0 ∷ []) ∙ ap (λ (l : List ℕ). before ++ l) (sym (take_more bytes i 0 lt))) h

-- ---- the unit's fault

-- Whether a mnemonic has at most 12 characters.
abbrev is_brief : List ℕ → Bool
is_brief word = nat_le (length word) 12

-- The fault of a unit: -101, else -102, else -112, else none.
abbrev fault_by : (legal spelled brief : Bool) → Option Code
fault_by legal spelled brief =
    cond (not legal) (Some InvalidCharacter) (cond (not spelled) (Some SyntaxError) (cond (not brief) (Some ProgramMnemonicTooLong) None))

misspelled : (text : List ℕ) → list_all is_legal text ≡ true → is_header (header text) ≡ false → unit_fault text ≡ Some SyntaxError
misspelled text legal spelled =
    ap (λ (l : Bool). fault_by l (is_header (header text)) (list_all is_brief (words (header text)))) legal
    ∙ ap (λ (s : Bool). fault_by true s (list_all is_brief (words (header text)))) spelled

well_spelled : (text : List ℕ) (b : Bool) → list_all is_legal text ≡ true → is_header (header text) ≡ true
    → list_all is_brief (words (header text)) ≡ b → unit_fault text ≡ cond b None (Some ProgramMnemonicTooLong)
well_spelled text b legal spelled brief =
    ap (λ (l : Bool). fault_by l (is_header (header text)) (list_all is_brief (words (header text)))) legal
    ∙ ap (λ (s : Bool). fault_by true s (list_all is_brief (words (header text)))) spelled
    ∙ ap (fault_by true true) brief ∙ at b
  where
    at : (b : Bool) → fault_by true true b ≡ cond b None (Some ProgramMnemonicTooLong)
    at true = refl
    at false = refl

illegal : (text : List ℕ) → list_all is_legal text ≡ false → unit_fault text ≡ Some InvalidCharacter
illegal text legal = ap (λ (l : Bool). fault_by l (is_header (header text)) (list_all is_brief (words (header text)))) legal

max_le : (m n : ℕ) → nat_le (max m n) 12 ≡ (nat_le m 12 && nat_le n 12)
max_le m n =
    elim (cases_lt 12 m) [
      | inl lt ↦ lt-leb (max m n) 12 (omega (arith, lt)) ∙ sym (ap (λ (t : Bool). t && nat_le n 12) (lt-leb m 12 lt))
      | inr ge ↦
          let same : nat_le (max m n) 12 ≡ nat_le n 12 =
          elim (cases_lt 12 n) [
            | inl lt ↦ lt-leb (max m n) 12 (omega (arith, lt)) ∙ sym (lt-leb n 12 lt)
            | inr le ↦ le-leb (max m n) 12 (omega (arith, ge, le)) ∙ sym (le-leb n 12 le)
          ] in
          same ∙ sym (ap (λ (t : Bool). t && nat_le n 12) (le-leb m 12 ge))
    ]

kept_le : (n : ℕ) → nat_le (in_u64 n) 12 ≡ nat_le n 12
kept_le n =
    elim (cases_lt 12 n) [
      | inl lt ↦ lt-leb (in_u64 n) 12 (omega (arith, lt)) ∙ sym (lt-leb n 12 lt)
      | inr le ↦ le-leb (in_u64 n) 12 (omega (arith, le)) ∙ sym (le-leb n 12 le)
    ]

-- All mnemonics are short enough exactly if the longest one is.
longest_brief : (parts : List (List ℕ)) → list_all is_brief parts ≡ nat_le (longest parts) 12
longest_brief [] = refl
longest_brief (part ∷ parts) =
    ap (λ (t : Bool). nat_le (length part) 12 && t) (longest_brief parts) ∙ sym (max_le (length part) (longest parts))

counts_brief : (stage : Stage) (p : Progress) (unit : List ℕ) → IsRead stage p unit
    → list_all is_brief (words (header unit)) ≡ nat_le (max p.longest p.mnemonic) 12
counts_brief stage p unit h =
    let parts : List (List ℕ) = words (header unit) in
    longest_brief parts ∙ ap (λ (n : ℕ). nat_le n 12) (longest_is parts) ∙ max_le (longest (others parts)) (length (last parts))
    ∙ sym (ap (λ (t : Bool). t && nat_le (length (last parts)) 12) (kept_le (longest (others parts))))
    ∙ sym (ap (λ (t : Bool). nat_le (in_u64 (longest (others parts))) 12 && t) (kept_le (length (last parts))))
    ∙ sym (max_le (in_u64 (longest (others parts))) (in_u64 (length (last parts))))
    ∙ ap (λ (n : ℕ). nat_le (max n (in_u64 (length (last parts)))) 12) (sym h.front)
    ∙ ap (λ (n : ℕ). nat_le (max p.longest n) 12) (sym h.mnemonic)

unspelled : (stage : Stage) (p : Progress) (unit : List ℕ) → may_end stage ≡ false → list_all is_legal unit ≡ true
    → IsRead stage p unit → unit_fault unit ≡ Some SyntaxError
unspelled stage p unit none legal h = misspelled unit legal (is_header_at_stage stage (header unit) h.spelled ∙ none)

spelled : (stage : Stage) (p : Progress) (unit : List ℕ) → may_end stage ≡ true → list_all is_legal unit ≡ true
    → IsRead stage p unit → unit_fault unit ≡ length_fault_of p
spelled stage p unit some legal h =
    well_spelled unit (nat_le (max p.longest p.mnemonic) 12) legal (is_header_at_stage stage (header unit) h.spelled ∙ some)
    (counts_brief stage p unit h)

fault_at : (stage : Stage) (p : Progress) (unit : List ℕ) → list_all is_legal unit ≡ not (is_illegal stage) → At stage p unit
    → unit_fault unit ≡ fault_of stage p
fault_at WhiteSpace p unit legal h = unspelled WhiteSpace p unit refl legal h
fault_at Asterisk p unit legal h = unspelled Asterisk p unit refl legal h
fault_at Colon p unit legal h = unspelled Colon p unit refl legal h
fault_at Misspelled p unit legal h =
    misspelled unit legal (ap (λ (l : List ℕ). is_header (header l)) (sym (append-nil unit)) ∙ h [])
fault_at Illegal p unit legal h = illegal unit legal
fault_at stage p unit legal h = spelled stage p unit refl legal h

-- The fault found byte by byte is the fault of the whole unit.
fault_is : (p : Progress) (unit : List ℕ) → Reads p unit → unit_fault unit ≡ fault_of p.stage p
fault_is p unit h = fault_at p.stage p unit h.legal h.known

-- ---- the positions of the unit's parts

-- A position in a unit that isn't too long is stored exactly.
stored_exactly : (place n : ℕ) (unit : List ℕ) → length unit ≤ 2 ^ 64 - 1 → n ≤ length unit → place ≡ in_u64 n → place ≡ n
stored_exactly place n unit room within e = omega (arith, room, within, e)

header_within : (unit : List ℕ) → header_end unit ≤ length unit
header_within unit = stands_within unit (header unit) (header_place unit) (header_stands unit)

rest_ends : (unit : List ℕ) → rest_end unit ≤ length unit
rest_ends unit = stands_within unit (rest unit) (rest_place unit) (rest_stands unit)

-- Nothing but white space follows the header.
cut_header : (stage : Stage) (p : Progress) (unit : List ℕ) → length unit ≤ 2 ^ 64 - 1 → is_header (header unit) ≡ true → rest unit ≡ []
    → IsRead stage p unit → IsCut unit p.header_start p.header_end p.header_end p.header_end
cut_header stage p unit room is none h =
    let within = header_within unit in
    let begins = stored_exactly p.header_start (header_place unit) unit room (omega (arith, within)) h.begins in
    let ends = stored_exactly p.header_end (header_end unit) unit room within (h.closes (header_some (header unit) is)) in
    let there = rest_place_without_data unit none in
    let nothing : length (rest unit) ≡ 0 = ap length none in
    record { header_begins = begins; header_ends = ends; data_begins = ends ∙ sym there; data_ends = omega (arith, ends, there, nothing) }

cut_data : (stage : Stage) (p : Progress) (unit : List ℕ) → length unit ≤ 2 ^ 64 - 1 → is_header (header unit) ≡ true → HasData p unit
    → IsRead stage p unit → IsCut unit p.header_start p.header_end p.data_start p.data_end
cut_data stage p unit room is d h =
    let within = header_within unit in
    let behind = rest_ends unit in
    record {
      header_begins = stored_exactly p.header_start (header_place unit) unit room (omega (arith, within)) h.begins;
      header_ends = stored_exactly p.header_end (header_end unit) unit room within (h.closes (header_some (header unit) is));
      data_begins = stored_exactly p.data_start (rest_place unit) unit room (omega (arith, behind)) d.begins;
      data_ends = stored_exactly p.data_end (rest_end unit) unit room behind d.ends;
    }

cut_at : (stage : Stage) (p : Progress) (unit : List ℕ) → length unit ≤ 2 ^ 64 - 1 → fault_of stage p ≡ None → At stage p unit
    → IsCut unit p.header_start p.header_end (data_of stage p.header_end p.data_start) (data_of stage p.header_end p.data_end)
cut_at CommonMnemonic p unit room none h =
    cut_header CommonMnemonic p unit room (is_header_at_stage CommonMnemonic (header unit) h.spelled) (rest_none unit h.ends) h
cut_at Mnemonic p unit room none h =
    cut_header Mnemonic p unit room (is_header_at_stage Mnemonic (header unit) h.spelled) (rest_none unit h.ends) h
cut_at QuerySign p unit room none h =
    cut_header QuerySign p unit room (is_header_at_stage QuerySign (header unit) h.spelled) (rest_none unit h.ends) h
cut_at HeaderSeparator p unit room none h = cut_header HeaderSeparator p unit room h.spelled h.ends.0 h
cut_at ProgramData p unit room none h = cut_data ProgramData p unit room h.spelled h.ends.0 h
cut_at DataSpace p unit room none h = cut_data DataSpace p unit room h.spelled h.ends.0 h
cut_at _ p unit room none h = absurd cc

-- ---- the end of the unit

-- At this stage the unit may end: its only fault can be a mnemonic that is too long. Its program
-- data would be at these positions.
pub record MayEnd (p : Progress) (start end : ℕ) : Type 0 where
  pub fault : fault_of p.stage p ≡ length_fault_of p
  pub begins : start ≡ data_of p.stage p.header_end p.data_start
  pub ends : end ≡ data_of p.stage p.header_end p.data_end

ends_at : (stage : Stage) (p : Progress) (start end : ℕ) → p.stage ≡ stage → fault_of stage p ≡ length_fault_of p
    → start ≡ data_of stage p.header_end p.data_start → end ≡ data_of stage p.header_end p.data_end → MayEnd p start end
ends_at stage p start end is fault begins ends = record {
  fault = ap (λ (s : Stage). fault_of s p) is ∙ fault;
  begins = begins ∙ sym (ap (λ (s : Stage). data_of s p.header_end p.data_start) is);
  ends = ends ∙ sym (ap (λ (s : Stage). data_of s p.header_end p.data_end) is);
}

pub ends_after_header : (p : Progress)
    → p.stage ≡ CommonMnemonic ⊎ (p.stage ≡ Mnemonic ⊎ (p.stage ≡ QuerySign ⊎ p.stage ≡ HeaderSeparator))
    → MayEnd p p.header_end p.header_end
ends_after_header p (inl e) = ends_at CommonMnemonic p _ _ e refl refl refl
ends_after_header p (inr (inl e)) = ends_at Mnemonic p _ _ e refl refl refl
ends_after_header p (inr (inr (inl e))) = ends_at QuerySign p _ _ e refl refl refl
ends_after_header p (inr (inr (inr e))) = ends_at HeaderSeparator p _ _ e refl refl refl

pub ends_after_data : (p : Progress) → p.stage ≡ ProgramData ⊎ p.stage ≡ DataSpace → MayEnd p p.data_start p.data_end
ends_after_data p (inl e) = ends_at ProgramData p _ _ e refl refl refl
ends_after_data p (inr e) = ends_at DataSpace p _ _ e refl refl refl

incomplete_at : (p : Progress) → p.stage ≡ WhiteSpace ⊎ (p.stage ≡ Asterisk ⊎ (p.stage ≡ Colon ⊎ p.stage ≡ Misspelled))
    → fault_of p.stage p ≡ Some SyntaxError
incomplete_at p (inl e) = ap (λ (s : Stage). fault_of s p) e
incomplete_at p (inr (inl e)) = ap (λ (s : Stage). fault_of s p) e
incomplete_at p (inr (inr (inl e))) = ap (λ (s : Stage). fault_of s p) e
incomplete_at p (inr (inr (inr e))) = ap (λ (s : Stage). fault_of s p) e

-- A header that isn't complete or is misspelled is the unit's fault.
pub fault_if_incomplete : (p : Progress) (unit : List ℕ) → Reads p unit
    → p.stage ≡ WhiteSpace ⊎ (p.stage ≡ Asterisk ⊎ (p.stage ≡ Colon ⊎ p.stage ≡ Misspelled)) → unit_fault unit ≡ Some SyntaxError
fault_if_incomplete p unit h at = fault_is p unit h ∙ incomplete_at p at

pub fault_if_long : (p : Progress) (unit : List ℕ) (start end most : ℕ) → Reads p unit → MayEnd p start end
    → most ≡ max p.longest p.mnemonic → 12 < most → unit_fault unit ≡ Some ProgramMnemonicTooLong
fault_if_long p unit start end most h m is lt =
    fault_is p unit h ∙ m.fault
    ∙ ap (λ (t : Bool). cond t None (Some ProgramMnemonicTooLong)) (ap (λ n. nat_le n 12) (sym is) ∙ lt-leb most 12 lt)

no_fault : (p : Progress) (start end most : ℕ) → MayEnd p start end → most ≡ max p.longest p.mnemonic → most ≤ 12
    → fault_of p.stage p ≡ None
no_fault p start end most m is le =
    m.fault ∙ ap (λ (t : Bool). cond t None (Some ProgramMnemonicTooLong)) (ap (λ n. nat_le n 12) (sym is) ∙ le-leb most 12 le)

-- A unit that may end, and whose mnemonics are short enough, has no fault.
pub no_fault_if_short : (p : Progress) (unit : List ℕ) (start end most : ℕ) → Reads p unit → MayEnd p start end
    → most ≡ max p.longest p.mnemonic → most ≤ 12 → unit_fault unit ≡ None
no_fault_if_short p unit start end most h m is le = fault_is p unit h ∙ no_fault p start end most m is le

-- Without a fault, the parts of the unit are at these positions.
pub cut_is : (p : Progress) (unit : List ℕ) (start end most : ℕ) → length unit ≤ 2 ^ 64 - 1 → Reads p unit → MayEnd p start end
    → most ≡ max p.longest p.mnemonic → most ≤ 12 → IsCut unit p.header_start p.header_end start end
cut_is p unit start end most room h m is le =
    rw (m.begins, m.ends) (cut_at p.stage p unit room (no_fault p start end most m is le) h.known)
