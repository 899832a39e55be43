-- The mnemonics of a header, and how further bytes change them.
use Rattle.std.proofs.Common.{◌≡◌, ℕ, suc, ◌-◌, ◌==◌, Bool, true, false, ◌&&◌, cond, List, [], ◌∷◌, ◌++◌, length, take, drop, refl, sym, ap, ◌∙◌, append_assoc, append-nil, arith}
use Rattle.std.proofs.lemmas.Bool.{eqb-true}
use Rattle.std.proofs.lemmas.Bool.Decides.{nat_tests}
use Rattle.std.specs.List.{onto_first as onto}
use Rattle.sv_text.specs.Cut.{cut_at}
use Rattle.sv_text.specs.Front.{is_empty}
use Rattle.sv_text.specs.Header.{is_query, unsigned, lead, body}
use Rattle.sv_text.specs.declared.header.Lead.{Lead}
use Rattle.sv_text.specs.declared.header.Lead.TheVariants.{Common, Root, Onward}
use Rattle.sv_lexer.specs.Spelled.{is_word_byte, words}
use Rattle.sv_lexer.specs.Partial.{last, others, is_common}

-- A header without its question mark, computed from the front.
abbrev pub without_question_mark : List ℕ → List ℕ
without_question_mark [] = []
without_question_mark (b ∷ more) = cond (b == 63 && is_empty more) [] (b ∷ without_question_mark more)

pub unsigned_from_front : (text : List ℕ) → unsigned text ≡ without_question_mark text
unsigned_from_front [] = refl
unsigned_from_front (b ∷ []) = at (b == 63)
  where
    at : (t : Bool) → cond t [] (b ∷ []) ≡ cond (t && true) [] (b ∷ [])
    at true = refl
    at false = refl
unsigned_from_front (b ∷ c ∷ more) = at (unsigned_from_front (c ∷ more))
  where
    last : suc (suc (length more)) - 1 ≡ suc (length more)
    last = omega arith

    before : suc (length more) - 1 ≡ length more
    before = omega arith

    behind : (t : Bool) → cond t (take (suc (length more)) (b ∷ c ∷ more)) (b ∷ c ∷ more)
        ≡ b ∷ cond t (take (length more) (c ∷ more)) (c ∷ more)
    behind true = refl
    behind false = refl

    kept : (t : Bool) → b ∷ without_question_mark (c ∷ more) ≡ cond (t && false) [] (b ∷ without_question_mark (c ∷ more))
    kept true = refl
    kept false = refl

    at : unsigned (c ∷ more) ≡ without_question_mark (c ∷ more) → unsigned (b ∷ c ∷ more) ≡ without_question_mark (b ∷ c ∷ more)
    at h =
        let shorter : cond (is_query (c ∷ more)) (take (length more) (c ∷ more)) (c ∷ more) ≡ unsigned (c ∷ more) = rw before refl in
        let same : is_query (b ∷ c ∷ more) ≡ is_query (c ∷ more) = rw (last, before) refl in
        let whole : unsigned (b ∷ c ∷ more) ≡ cond (is_query (b ∷ c ∷ more)) (take (suc (length more)) (b ∷ c ∷ more)) (b ∷ c ∷ more) =
        rw last refl in
        whole ∙ ap (λ (t : Bool). cond t (take (suc (length more)) (b ∷ c ∷ more)) (b ∷ c ∷ more)) same ∙ behind (is_query (c ∷ more))
        ∙ ap (λ (l : List ℕ). b ∷ l) (shorter ∙ h) ∙ kept (b == 63)

-- Whether a question mark is the last byte, computed from the front.
abbrev pub ends_in_question_mark : List ℕ → Bool
ends_in_question_mark [] = false
ends_in_question_mark (b ∷ []) = b == 63
ends_in_question_mark (b ∷ c ∷ more) = ends_in_question_mark (c ∷ more)

pub is_query_from_front : (text : List ℕ) → is_query text ≡ ends_in_question_mark text
is_query_from_front [] = refl
is_query_from_front (b ∷ []) = refl
is_query_from_front (b ∷ c ∷ more) = same ∙ is_query_from_front (c ∷ more)
  where
    end : suc (suc (length more)) - 1 ≡ suc (length more)
    end = omega arith

    before : suc (length more) - 1 ≡ length more
    before = omega arith

    same : is_query (b ∷ c ∷ more) ≡ is_query (c ∷ more)
    same = rw (end, before) refl

pub is_query_append : (text : List ℕ) (b : ℕ) → is_query (text ++ b ∷ []) ≡ (b == 63)
is_query_append text b = is_query_from_front (text ++ b ∷ []) ∙ at text
  where
    at : (text : List ℕ) → ends_in_question_mark (text ++ b ∷ []) ≡ (b == 63)
    at [] = refl
    at (x ∷ []) = refl
    at (x ∷ y ∷ text) = at (y ∷ text)

-- A byte stays if it isn't a question mark or another byte follows.
pub strip_other : (b : ℕ) (more : List ℕ) → (b == 63) ≡ false → without_question_mark (b ∷ more) ≡ b ∷ without_question_mark more
strip_other b more e = ap (λ (t : Bool). cond (t && is_empty more) [] (b ∷ without_question_mark more)) e

pub strip_front : (b c : ℕ) (more : List ℕ) → without_question_mark (b ∷ c ∷ more) ≡ b ∷ without_question_mark (c ∷ more)
strip_front b c more = at (b == 63)
  where
    at : (t : Bool) → cond (t && false) [] (b ∷ without_question_mark (c ∷ more)) ≡ b ∷ without_question_mark (c ∷ more)
    at true = refl
    at false = refl

strip_over : (text more : List ℕ) → ends_in_question_mark text ≡ false
    → without_question_mark (text ++ more) ≡ text ++ without_question_mark more
strip_over [] more e = refl
strip_over (b ∷ []) more e = strip_other b more e
strip_over (b ∷ c ∷ text) more e = strip_front b c (text ++ more) ∙ ap (λ (l : List ℕ). b ∷ l) (strip_over (c ∷ text) more e)

strip_all : (text : List ℕ) → ends_in_question_mark text ≡ false → without_question_mark text ≡ text
strip_all text e = ap without_question_mark (sym (append-nil text)) ∙ strip_over text [] e ∙ append-nil text

tail_unsigned : (b : ℕ) (text : List ℕ) → ends_in_question_mark (b ∷ text) ≡ false → ends_in_question_mark text ≡ false
tail_unsigned b [] e = refl
tail_unsigned b (c ∷ text) e = e

-- ---- parts between separators

-- Whether there is a part.
abbrev pub has_first_part : List (List ℕ) → Bool
has_first_part [] = false
has_first_part (part ∷ parts) = true

pub cut_some : (s : ℕ) (text : List ℕ) → has_first_part (cut_at s text) ≡ true
cut_some s [] = refl
cut_some s (b ∷ text) = at (b == s) (cut_at s text)
  where
    at : (t : Bool) (parts : List (List ℕ)) → has_first_part (cond t ([] ∷ parts) (onto b parts)) ≡ true
    at true parts = refl
    at false [] = refl
    at false (part ∷ parts) = refl

pub words_some : (text : List ℕ) → has_first_part (words text) ≡ true
words_some text = at (lead text)
  where
    at : (l : Lead) → has_first_part (elim l [ Common ↦ body text ∷ [] | _ ↦ cut_at 58 (body text) ]) ≡ true
    at Common = refl
    at Root = cut_some 58 (body text)
    at Onward = cut_some 58 (body text)

-- These parts, the first one with `word` in front of it.
abbrev pub prepend_to_first : List ℕ → List (List ℕ) → List (List ℕ)
prepend_to_first word [] = word ∷ []
prepend_to_first word (part ∷ parts) = (word ++ part) ∷ parts

pub joined_none : (parts : List (List ℕ)) → has_first_part parts ≡ true → prepend_to_first [] parts ≡ parts
joined_none [] e = let f : false ≡ true = e in absurd cc
joined_none (part ∷ parts) e = refl

joined_onto : (b : ℕ) (word : List ℕ) (parts : List (List ℕ)) → onto b (prepend_to_first word parts) ≡ prepend_to_first (b ∷ word) parts
joined_onto b word [] = refl
joined_onto b word (part ∷ parts) = refl

-- Cutting two texts in sequence: the last part of the first continues with the first part of the
-- second.
cut_over : (s : ℕ) (text more : List ℕ)
    → cut_at s (text ++ more) ≡ others (cut_at s text) ++ prepend_to_first (last (cut_at s text)) (cut_at s more)
cut_over s [] more = sym (joined_none (cut_at s more) (cut_some s more))
cut_over s (b ∷ text) more = at (b == s) (cut_at s text) (cut_some s text) (cut_over s text more)
  where
    at : (t : Bool) (parts : List (List ℕ)) → has_first_part parts ≡ true
        → cut_at s (text ++ more) ≡ others parts ++ prepend_to_first (last parts) (cut_at s more)
        → cond t ([] ∷ cut_at s (text ++ more)) (onto b (cut_at s (text ++ more)))
        ≡ others (cond t ([] ∷ parts) (onto b parts)) ++ prepend_to_first (last (cond t ([] ∷ parts) (onto b parts))) (cut_at s more)
    at t [] p e = let f : false ≡ true = p in absurd cc
    at true (part ∷ parts) p e = ap (λ (ps : List (List ℕ)). [] ∷ ps) e
    at false (part ∷ []) p e = ap (onto b) e ∙ joined_onto b part (cut_at s more)
    at false (part ∷ next ∷ parts) p e = ap (onto b) e

pub others_push : (parts : List (List ℕ)) (part : List ℕ) → others (parts ++ part ∷ []) ≡ parts
others_push [] part = refl
others_push (x ∷ []) part = refl
others_push (x ∷ y ∷ parts) part = ap (λ (ps : List (List ℕ)). x ∷ ps) (others_push (y ∷ parts) part)

pub last_push : (parts : List (List ℕ)) (part : List ℕ) → last (parts ++ part ∷ []) ≡ part
last_push [] part = refl
last_push (x ∷ []) part = refl
last_push (x ∷ y ∷ parts) part = last_push (y ∷ parts) part

pub others_last : (parts : List (List ℕ)) → has_first_part parts ≡ true → others parts ++ last parts ∷ [] ≡ parts
others_last [] e = let f : false ≡ true = e in absurd cc
others_last (x ∷ []) e = refl
others_last (x ∷ y ∷ parts) e = ap (λ (ps : List (List ℕ)). x ∷ ps) (others_last (y ∷ parts) refl)

-- ---- mnemonics

-- A header that begins with neither an asterisk nor a colon is cut at its colons.
lead_onward : (b : ℕ) (more : List ℕ) → (b == 42) ≡ false → (b == 58) ≡ false → lead (b ∷ more) ≡ Onward
lead_onward b more a k = ap (λ (t : Bool). cond t Common (cond (b == 58) Root Onward)) a ∙ ap (λ (t : Bool). cond t Root Onward) k

-- The mnemonics of a header without its question mark, for each way to begin it.
abbrev body_led : List ℕ → Lead → List ℕ
body_led text l = drop (elim l [ Onward ↦ 0 | _ ↦ 1 ]) text

abbrev words_as : Lead → List ℕ → List (List ℕ)
words_as l text = elim l [ Common ↦ text ∷ [] | _ ↦ cut_at 58 text ]

abbrev words_led : List ℕ → Lead → List (List ℕ)
words_led text l = words_as l (body_led text l)

pub words_onward : (b : ℕ) (more : List ℕ) → (b == 42) ≡ false → (b == 58) ≡ false
    → words (b ∷ more) ≡ cut_at 58 (without_question_mark (b ∷ more))
words_onward b more a k = ap (words_led (unsigned (b ∷ more))) (lead_onward b more a k) ∙ ap (cut_at 58) (unsigned_from_front (b ∷ more))

words_common : (more : List ℕ) → words (42 ∷ more) ≡ without_question_mark more ∷ []
words_common more = ap (λ (l : List ℕ). drop 1 l ∷ []) (unsigned_from_front (42 ∷ more))

words_root : (more : List ℕ) → words (58 ∷ more) ≡ cut_at 58 (without_question_mark more)
words_root more = ap (λ (l : List ℕ). cut_at 58 (drop 1 l)) (unsigned_from_front (58 ∷ more))

-- The parts that further bytes make: one for a common command, else those between colons.
abbrev pub words_added : Bool → List ℕ → List (List ℕ)
words_added true more = without_question_mark more ∷ []
words_added false more = cut_at 58 (without_question_mark more)

words_cut : (head text more : List ℕ) → words head ≡ cut_at 58 text → words (head ++ more) ≡ cut_at 58 (text ++ without_question_mark more)
    → words (head ++ more) ≡ others (words head) ++ prepend_to_first (last (words head)) (cut_at 58 (without_question_mark more))
words_cut head text more all longer =
    longer ∙ cut_over 58 text (without_question_mark more)
    ∙ ap (λ (ps : List (List ℕ)). others ps ++ prepend_to_first (last ps) (cut_at 58 (without_question_mark more))) (sym all)

-- Further bytes continue the last mnemonic and may add others.
pub words_more : (head more : List ℕ) → is_empty head ≡ false → is_query head ≡ false
    → words (head ++ more) ≡ others (words head) ++ prepend_to_first (last (words head)) (words_added (is_common head) more)
words_more [] more s q = let f : true ≡ false = s in absurd cc
words_more (b ∷ text) more s q = at (b == 42) refl (b == 58) refl
  where
    unsigned_all : ends_in_question_mark (b ∷ text) ≡ false
    unsigned_all = sym (is_query_from_front (b ∷ text)) ∙ q

    common : words (42 ∷ (text ++ more)) ≡ others (words (42 ∷ text)) ++ prepend_to_first (last (words (42 ∷ text)))
        (without_question_mark more ∷ [])
    common =
        let e = tail_unsigned b text unsigned_all in
        let all : words (42 ∷ text) ≡ text ∷ [] = words_common text ∙ ap (λ (l : List ℕ). l ∷ []) (strip_all text e) in
        words_common (text ++ more) ∙ ap (λ (l : List ℕ). l ∷ []) (strip_over text more e)
        ∙ ap (λ (ps : List (List ℕ)). others ps ++ prepend_to_first (last ps) (without_question_mark more ∷ [])) (sym all)

    root : words (58 ∷ (text ++ more)) ≡ others (words (58 ∷ text)) ++ prepend_to_first (last (words (58 ∷ text)))
        (cut_at 58 (without_question_mark more))
    root =
        let e = tail_unsigned b text unsigned_all in
        words_cut (58 ∷ text) text more (words_root text ∙ ap (cut_at 58) (strip_all text e))
        (words_root (text ++ more) ∙ ap (cut_at 58) (strip_over text more e))

    at : (a : Bool) → (b == 42) ≡ a → (k : Bool) → (b == 58) ≡ k → words (b ∷ (text ++ more))
        ≡ others (words (b ∷ text)) ++ prepend_to_first (last (words (b ∷ text))) (words_added a more)
    at true a k e = rw (eqb-true b 42 a) common
    at false a true e = rw (eqb-true b 58 e) root
    at false a false e = words_cut (b ∷ text) (b ∷ text) more
        (words_onward b text a e ∙ ap (cut_at 58) (strip_all (b ∷ text) unsigned_all))
        (words_onward b (text ++ more) a e ∙ ap (cut_at 58) (strip_over (b ∷ text) more unsigned_all))

-- Letters, digits and underscores are neither a question mark nor a colon.
pub word_byte_no_question_mark : (b : ℕ) → is_word_byte b ≡ true → (b == 63) ≡ false
word_byte_no_question_mark b w = grind (arith, nat_tests, w)

word_no_colon : (b : ℕ) → is_word_byte b ≡ true → (b == 58) ≡ false
word_no_colon b w = grind (arith, nat_tests, w)

-- One more byte: a question mark, a colon, or a byte of a mnemonic.
pub words_with_question_mark : (head : List ℕ) → is_empty head ≡ false → is_query head ≡ false → words (head ++ 63 ∷ []) ≡ words head
words_with_question_mark head s q = words_more head (63 ∷ []) s q ∙ at (is_common head)
  where
    same : others (words head) ++ (last (words head) ++ []) ∷ [] ≡ words head
    same =
        ap (λ (l : List ℕ). others (words head) ++ l ∷ []) (append-nil (last (words head)))
        ∙ others_last (words head) (words_some head)

    at : (c : Bool) → others (words head) ++ prepend_to_first (last (words head)) (words_added c (63 ∷ [])) ≡ words head
    at true = same
    at false = same

pub words_with_colon : (head : List ℕ) → is_empty head ≡ false → is_query head ≡ false → is_common head ≡ false
    → words (head ++ 58 ∷ []) ≡ words head ++ [] ∷ []
words_with_colon head s q c =
    words_more head (58 ∷ []) s q
    ∙ ap (λ (t : Bool). others (words head) ++ prepend_to_first (last (words head)) (words_added t (58 ∷ []))) c
    ∙ ap (λ (l : List ℕ). others (words head) ++ (l ∷ ([] ∷ []))) (append-nil (last (words head)))
    ∙ sym (append_assoc (others (words head)) (last (words head) ∷ []) ([] ∷ []))
    ∙ ap (λ (ps : List (List ℕ)). ps ++ [] ∷ []) (others_last (words head) (words_some head))

pub words_with_word_byte : (head : List ℕ) (b : ℕ) → is_empty head ≡ false → is_query head ≡ false → is_word_byte b ≡ true
    → words (head ++ b ∷ []) ≡ others (words head) ++ (last (words head) ++ b ∷ []) ∷ []
words_with_word_byte head b s q w = words_more head (b ∷ []) s q ∙ at (is_common head)
  where
    stays : without_question_mark (b ∷ []) ≡ b ∷ []
    stays = strip_other b [] (word_byte_no_question_mark b w)

    one : cut_at 58 (b ∷ []) ≡ (b ∷ []) ∷ []
    one = ap (λ (t : Bool). cond t ([] ∷ ([] ∷ [])) ((b ∷ []) ∷ [])) (word_no_colon b w)

    at : (c : Bool) → others (words head) ++ prepend_to_first (last (words head)) (words_added c (b ∷ []))
        ≡ others (words head) ++ (last (words head) ++ b ∷ []) ∷ []
    at true = ap (λ (l : List ℕ). others (words head) ++ (last (words head) ++ l) ∷ []) stays
    at false = ap (λ (ps : List (List ℕ)). others (words head) ++ prepend_to_first (last (words head)) ps) (ap (cut_at 58) stays ∙ one)
