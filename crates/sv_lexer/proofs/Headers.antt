-- How each further byte changes the header read so far.
use Rattle.std.proofs.Common.{◌≡◌, ℕ, ◌+◌, ◌==◌, Bool, true, false, ◌&&◌, cond, List, [], ◌∷◌, ◌++◌, length, max, refl, sym, ap, ◌∙◌, subst, append_assoc, arith}
use Rattle.std.specs.Char.{is_ascii_alphabetic as is_letter}
use Rattle.std.specs.List.{list_all, onto_first as onto}
use Rattle.std.proofs.lemmas.Bool.{and_parts, eqb-true}
use Rattle.std.proofs.lemmas.Bool.Decides.{nat_tests}
use Rattle.std.proofs.lemmas.List.{length_push}
use Rattle.std.proofs.lemmas.List.Folds.{list_all-append}
use Rattle.sv_text.specs.Cut.{cut_at}
use Rattle.sv_text.specs.Front.{is_empty}
use Rattle.sv_text.specs.Header.{is_query}
use Rattle.sv_lexer.specs.Spelled.{is_word_byte, is_mnemonic, is_header, words}
use Rattle.sv_lexer.specs.Partial.{in_u64, last, others, longest, is_common, Awaits, IsUnsigned, HeaderEnds}
use Rattle.sv_lexer.specs.Inside.Stage.{behind_graphic}
use Rattle.sv_lexer.specs.Inside.Moved.{one_more, mnemonic_in, longest_in}
use Rattle.sv_lexer.specs.declared.stage.Stage.{Stage}
use Rattle.sv_lexer.specs.declared.stage.Stage.TheVariants.{WhiteSpace, Asterisk, Colon, CommonMnemonic, Mnemonic, QuerySign, HeaderSeparator, ProgramData, DataSpace, Misspelled, Illegal}
use Rattle.sv_lexer.proofs.Ends.{append_not_empty}
use Rattle.sv_lexer.proofs.Words.{without_question_mark, strip_other, strip_front, is_query_append, cut_some, words_some, prepend_to_first, joined_none, last_push, others_push, others_last, words_added, words_onward, words_more, words_with_question_mark, words_with_colon, words_with_word_byte, word_byte_no_question_mark, has_first_part}
use mathlib.Core.Bool.{and-false, and-true}

-- The lengths of the last mnemonic and of the longest one before it are counted.
pub record IsCounted (mnemonic front : ℕ) (head : List ℕ) : Type 0 where
  pub last_size : mnemonic ≡ in_u64 (length (last (words head)))
  pub front_size : front ≡ in_u64 (longest (others (words head)))

-- With the next byte, the header has the form that this stage requires, and its mnemonics are
-- counted.
pub record IsPushed (stage : Stage) (n m : ℕ) (head : List ℕ) : Type 0 where
  pub spelled : HeaderEnds stage head
  pub counted : IsCounted (mnemonic_in stage n) (longest_in stage n m) head

abbrev pub HeaderPushed : Stage → (n m : ℕ) (head : List ℕ) (b : ℕ) → Type 0
HeaderPushed Misspelled n m head b = (more : List ℕ) → is_header (head ++ b ∷ more) ≡ false
HeaderPushed WhiteSpace n m head b = ⊥
HeaderPushed HeaderSeparator n m head b = ⊥
HeaderPushed ProgramData n m head b = ⊥
HeaderPushed DataSpace n m head b = ⊥
HeaderPushed Illegal n m head b = ⊥
HeaderPushed stage n m head b = IsPushed stage n m (head ++ b ∷ [])

-- ---- bytes

letter_word : (b : ℕ) → is_letter b ≡ true → is_word_byte b ≡ true
letter_word b l = grind (arith, nat_tests, l)

-- ---- words

-- All words are the last one and those before it.
pub list_all_by_last : (test : List ℕ → Bool) (parts : List (List ℕ)) → has_first_part parts ≡ true
    → list_all test parts ≡ (list_all test (others parts) && test (last parts))
list_all_by_last test parts some =
    ap (list_all test) (sym (others_last parts some)) ∙ list_all-append test (others parts) (last parts ∷ [])
    ∙ ap (λ (t : Bool). list_all test (others parts) && t) (and-true (test (last parts)))

pub longest_is : (parts : List (List ℕ)) → longest parts ≡ max (longest (others parts)) (length (last parts))
longest_is [] = refl
longest_is (part ∷ []) = omega arith
longest_is (part ∷ next ∷ parts) = let more = longest_is (next ∷ parts) in omega (arith, more)

mnemonic_on : (word more : List ℕ) → is_mnemonic word ≡ true → is_mnemonic (word ++ more) ≡ list_all is_word_byte more
mnemonic_on [] more e = let f : false ≡ true = e in absurd cc
mnemonic_on (x ∷ word) more e =
    let parts = and_parts (is_letter x) (list_all is_word_byte word) e in
    ap (λ (t : Bool). t && list_all is_word_byte (word ++ more)) parts.0 ∙ list_all-append is_word_byte word more
    ∙ ap (λ (t : Bool). t && list_all is_word_byte more) parts.1

pub header_some : (head : List ℕ) → is_header head ≡ true → is_empty head ≡ false
header_some [] e = let f : false ≡ true = e in absurd cc
header_some (b ∷ head) e = refl

common_push : (head : List ℕ) (b : ℕ) → is_empty head ≡ false → is_common (head ++ b ∷ []) ≡ is_common head
common_push [] b e = let f : true ≡ false = e in absurd cc
common_push (x ∷ head) b e = refl

-- ---- counts

counted_word : (n m : ℕ) (head : List ℕ) (b : ℕ) → is_empty head ≡ false → is_query head ≡ false → is_word_byte b ≡ true
    → IsCounted n m head → IsCounted (one_more n) m (head ++ b ∷ [])
counted_word n m head b s q w h =
    let all = words_with_word_byte head b s q w in
    let word : last (words (head ++ b ∷ [])) ≡ last (words head) ++ b ∷ [] = ap last all ∙ last_push (others (words head)) _ in
    let size : length (last (words (head ++ b ∷ []))) ≡ length (last (words head)) + 1 =
    ap length word ∙ length_push (last (words head)) b in
    record {
      last_size = omega (arith, size, h.last_size);
      front_size = h.front_size
          ∙ ap (λ (ps : List (List ℕ)). in_u64 (longest ps)) (sym (ap others all ∙ others_push (others (words head)) _));
    }

counted_sign : (n m : ℕ) (head : List ℕ) (b : ℕ) → is_empty head ≡ false → is_query head ≡ false → (b == 63) ≡ true
    → IsCounted n m head → IsCounted n m (head ++ b ∷ [])
counted_sign n m head b s q e h =
    let same : words (head ++ b ∷ []) ≡ words head = ap (λ (x : ℕ). words (head ++ x ∷ [])) (eqb-true b 63 e)
    ∙ words_with_question_mark head s q in
    record {
      last_size = h.last_size ∙ ap (λ (ps : List (List ℕ)). in_u64 (length (last ps))) (sym same);
      front_size = h.front_size ∙ ap (λ (ps : List (List ℕ)). in_u64 (longest (others ps))) (sym same);
    }

counted_colon : (n m : ℕ) (head : List ℕ) (b : ℕ) → words (head ++ b ∷ []) ≡ words head ++ [] ∷ []
    → IsCounted n m head → IsCounted 0 (max m n) (head ++ b ∷ [])
counted_colon n m head b all h =
    let long : longest (others (words (head ++ b ∷ []))) ≡ longest (words head) =
    ap longest (ap others all ∙ others_push (words head) []) in
    let two = longest_is (words head) in
    record {
      last_size = ap (λ (l : List ℕ). in_u64 (length l)) (sym (ap last all ∙ last_push (words head) []));
      front_size = omega (arith, long, two, h.last_size, h.front_size);
    }

-- ---- well-formed headers

-- A letter begins the mnemonic that must follow.
letter_begins_mnemonic : (head : List ℕ) (b : ℕ) → Awaits head → is_letter b ≡ true → IsUnsigned (head ++ b ∷ [])
letter_begins_mnemonic head b h l =
    let w = letter_word b l in
    let all = words_with_word_byte head b h.some h.unsigned w in record {
      header = ap (list_all is_mnemonic) all
          ∙ list_all-append is_mnemonic (others (words head)) ((last (words head) ++ b ∷ []) ∷ [])
          ∙ ap (λ (t : Bool). t && (is_mnemonic (last (words head) ++ b ∷ []) && true)) h.mnemonics
          ∙ ap (λ (word : List ℕ). is_mnemonic (word ++ b ∷ []) && true) h.empty ∙ ap (λ (t : Bool). (t && true) && true) l;
      unsigned = is_query_append head b ∙ word_byte_no_question_mark b w;
    }

-- A letter, digit or underscore continues the mnemonic.
byte_continues_mnemonic : (head : List ℕ) (b : ℕ) → IsUnsigned head → is_word_byte b ≡ true → IsUnsigned (head ++ b ∷ [])
byte_continues_mnemonic head b h w =
    let all = words_with_word_byte head b (header_some head h.header) h.unsigned w in
    let parts = and_parts _ _ (sym (list_all_by_last is_mnemonic (words head) (words_some head)) ∙ h.header) in record {
      header = ap (list_all is_mnemonic) all
          ∙ list_all-append is_mnemonic (others (words head)) ((last (words head) ++ b ∷ []) ∷ [])
          ∙ ap (λ (t : Bool). t && (is_mnemonic (last (words head) ++ b ∷ []) && true)) parts.0
          ∙ ap (λ (t : Bool). t && true) (mnemonic_on (last (words head)) (b ∷ []) parts.1) ∙ ap (λ (t : Bool). (t && true) && true) w;
      unsigned = is_query_append head b ∙ word_byte_no_question_mark b w;
    }

-- After a colon, a mnemonic must follow.
colon_awaits_mnemonic : (head : List ℕ) → is_common head ≡ false → IsUnsigned head → Awaits (head ++ 58 ∷ [])
colon_awaits_mnemonic head c h =
    let all = words_with_colon head (header_some head h.header) h.unsigned c in record {
      some = append_not_empty head 58;
      unsigned = is_query_append head 58;
      empty = ap last all ∙ last_push (words head) [];
      mnemonics = ap (list_all is_mnemonic) (ap others all ∙ others_push (words head) []) ∙ h.header;
    }

-- ---- headers that are malformed, whatever follows

common_none : (b : ℕ) (more : List ℕ) → is_letter b ≡ false → is_mnemonic (without_question_mark (b ∷ more)) ≡ false
common_none b more l = at (b == 63 && is_empty more)
  where
    at : (t : Bool) → is_mnemonic (cond t [] (b ∷ without_question_mark more)) ≡ false
    at true = refl
    at false = ap (λ (t : Bool). t && list_all is_word_byte (without_question_mark more)) l

other_none : (b : ℕ) (more : List ℕ) → is_letter b ≡ false → list_all is_mnemonic (cut_at 58 (without_question_mark (b ∷ more))) ≡ false
other_none b more l = at (b == 63 && is_empty more)
  where
    onto_none : (parts : List (List ℕ)) → list_all is_mnemonic (onto b parts) ≡ false
    onto_none [] = ap (λ (t : Bool). (t && true) && true) l
    onto_none (part ∷ parts) = ap (λ (t : Bool). (t && list_all is_word_byte part) && list_all is_mnemonic parts) l

    cut_none : (t : Bool)
        → list_all is_mnemonic (cond t ([] ∷ cut_at 58 (without_question_mark more)) (onto b (cut_at 58 (without_question_mark more))))
        ≡ false
    cut_none true = refl
    cut_none false = onto_none (cut_at 58 (without_question_mark more))

    at : (t : Bool) → list_all is_mnemonic (cut_at 58 (cond t [] (b ∷ without_question_mark more))) ≡ false
    at true = refl
    at false = cut_none (b == 58)

-- If the last word, continued by further bytes, makes no mnemonics, the header is malformed.
bad_words_fail : (head more : List ℕ) → is_empty head ≡ false → is_query head ≡ false
    → list_all is_mnemonic (prepend_to_first (last (words head)) (words_added (is_common head) more)) ≡ false
    → is_header (head ++ more) ≡ false
bad_words_fail head more s q none =
    ap (list_all is_mnemonic) (words_more head more s q)
    ∙ list_all-append is_mnemonic (others (words head)) (prepend_to_first (last (words head)) (words_added (is_common head) more))
    ∙ ap (λ (t : Bool). list_all is_mnemonic (others (words head)) && t) none ∙ and-false (list_all is_mnemonic (others (words head)))

no_letter_fails : (head : List ℕ) (b : ℕ) (more : List ℕ) → Awaits head → is_letter b ≡ false → is_header (head ++ b ∷ more) ≡ false
no_letter_fails head b more h l =
    bad_words_fail head (b ∷ more) h.some h.unsigned
    (ap (λ (word : List ℕ). list_all is_mnemonic (prepend_to_first word (words_added (is_common head) (b ∷ more)))) h.empty
    ∙ at (is_common head))
  where
    at : (c : Bool) → list_all is_mnemonic (prepend_to_first [] (words_added c (b ∷ more))) ≡ false
    at true = ap (λ (t : Bool). t && true) (common_none b more l)
    at false = ap (list_all is_mnemonic)
        (joined_none (cut_at 58 (without_question_mark (b ∷ more))) (cut_some 58 (without_question_mark (b ∷ more)))) ∙ other_none b more l

-- After a mnemonic, a byte that neither continues nor ends it makes the header malformed.
bad_byte_fails : (head : List ℕ) (b : ℕ) (more : List ℕ) → IsUnsigned head → is_word_byte b ≡ false
    → without_question_mark (b ∷ more) ≡ b ∷ without_question_mark more
    → (is_common head ≡ false → (b == 58) ≡ false) → is_header (head ++ b ∷ more) ≡ false
bad_byte_fails head b more h w stays apart =
    let parts = and_parts _ _ (sym (list_all_by_last is_mnemonic (words head) (words_some head)) ∙ h.header) in
    bad_words_fail head (b ∷ more) (header_some head h.header) h.unsigned (at (last (words head)) parts.1 (is_common head) apart)
  where
    bad : (word rest : List ℕ) → is_mnemonic word ≡ true → is_mnemonic (word ++ b ∷ rest) ≡ false
    bad word rest m = mnemonic_on word (b ∷ rest) m ∙ ap (λ (t : Bool). t && list_all is_word_byte rest) w

    onto_bad : (word : List ℕ) (parts : List (List ℕ)) → is_mnemonic word ≡ true
        → list_all is_mnemonic (prepend_to_first word (onto b parts)) ≡ false
    onto_bad word [] m = ap (λ (t : Bool). t && true) (bad word [] m)
    onto_bad word (part ∷ parts) m = ap (λ (t : Bool). t && list_all is_mnemonic parts) (bad word part m)

    at : (word : List ℕ) → is_mnemonic word ≡ true → (c : Bool) → (c ≡ false → (b == 58) ≡ false)
        → list_all is_mnemonic (prepend_to_first word (words_added c (b ∷ more))) ≡ false
    at word m true none =
        ap (λ (l : List ℕ). is_mnemonic (word ++ l) && true) stays ∙ ap (λ (t : Bool). t && true) (bad word (without_question_mark more) m)
    at word m false none =
        ap (λ (l : List ℕ). list_all is_mnemonic (prepend_to_first word (cut_at 58 l))) stays
        ∙ ap (λ (t : Bool). list_all is_mnemonic
        (prepend_to_first word
        (cond t ([] ∷ cut_at 58 (without_question_mark more)) (onto b (cut_at 58 (without_question_mark more))))))
        (none refl)
        ∙ onto_bad word (cut_at 58 (without_question_mark more)) m

-- ---- stages

pushed_first : (b n m : ℕ) → IsCounted n m [] → HeaderPushed (behind_graphic WhiteSpace b) n m [] b
pushed_first b n m h = at (b == 42) refl (b == 58) refl (is_letter b) refl
  where
    colon : IsPushed Colon n m (58 ∷ [])
    colon = record {
      spelled = (refl, record { some = refl; unsigned = refl; empty = refl; mnemonics = refl });
      counted = record { last_size = refl; front_size = omega (arith, h.last_size, h.front_size) };
    }

    letter : (b == 42) ≡ false → (b == 58) ≡ false → is_letter b ≡ true → IsPushed Mnemonic n m (b ∷ [])
    letter a k l =
        let sign = word_byte_no_question_mark b (letter_word b l) in
        let one : words (b ∷ []) ≡ (b ∷ []) ∷ [] =
        words_onward b [] a k ∙ ap (cut_at 58) (strip_other b [] sign) ∙ ap (λ (t : Bool). cond t ([] ∷ ([] ∷ [])) ((b ∷ []) ∷ [])) k in
        record {
          spelled = (
            a,
            record {
              header = ap (list_all is_mnemonic) one ∙ ap (λ (t : Bool). (t && true) && true) l;
              unsigned =
                  is_query_append [] b ∙ sign;
            },
          );
          counted = record {
            last_size = ap one_more h.last_size ∙ ap (λ (ps : List (List ℕ)). in_u64 (length (last ps))) (sym one);
            front_size = h.front_size ∙ ap (λ (ps : List (List ℕ)). in_u64 (longest (others ps))) (sym one);
          };
        }

    at : (a : Bool) → (b == 42) ≡ a → (k : Bool) → (b == 58) ≡ k → (l : Bool) → is_letter b ≡ l
        → HeaderPushed (cond a Asterisk (cond k Colon (cond l Mnemonic Misspelled))) n m [] b
    at true a k e l f =
        subst (λ (x : ℕ). IsPushed Asterisk n m (x ∷ [])) (sym (eqb-true b 42 a))
        (record { spelled = refl; counted = record { last_size = h.last_size; front_size = h.front_size } })
    at false a true e l f = subst (λ (x : ℕ). IsPushed Colon n m (x ∷ [])) (sym (eqb-true b 58 e)) colon
    at false a false e true f = letter a e f
    at false a false e false f = λ more. ap (list_all is_mnemonic) (words_onward b more a e) ∙ other_none b more f

awaited : (stage : Stage) (head : List ℕ) (b n m : ℕ) → Awaits head → IsCounted n m head
    → (is_letter b ≡ true → IsCounted (one_more n) m (head ++ b ∷ []) → IsUnsigned (head ++ b ∷ []) → HeaderPushed stage n m head b)
    → HeaderPushed (cond (is_letter b) stage Misspelled) n m head b
awaited stage head b n m h counted then = at (is_letter b) refl
  where
    at : (l : Bool) → is_letter b ≡ l → HeaderPushed (cond l stage Misspelled) n m head b
    at true l = then l (counted_word n m head b h.some h.unsigned (letter_word b l) counted) (letter_begins_mnemonic head b h l)
    at false l = λ more. no_letter_fails head b more h l

-- At a stage within a mnemonic.
behind_word : (stage other : Stage) (head : List ℕ) (b n m : ℕ) → IsUnsigned head → IsCounted n m head
    → (IsUnsigned (head ++ b ∷ []) → IsCounted (one_more n) m (head ++ b ∷ []) → HeaderPushed stage n m head b)
    → (is_word_byte b ≡ false → (b == 63) ≡ false → HeaderPushed other n m head b)
    → HeaderPushed (cond (is_word_byte b) stage (cond (b == 63) QuerySign other)) n m head b
behind_word stage other head b n m h counted then else = at (is_word_byte b) refl (b == 63) refl
  where
    some : is_empty head ≡ false
    some = header_some head h.header

    at : (w : Bool) → is_word_byte b ≡ w → (q : Bool) → (b == 63) ≡ q → HeaderPushed (cond w stage (cond q QuerySign other)) n m head b
    at true w q e = then (byte_continues_mnemonic head b h w) (counted_word n m head b some h.unsigned w counted)
    at false w true e = record {
      spelled = (head, ap (λ (x : ℕ). head ++ x ∷ []) (eqb-true b 63 e), h);
      counted = counted_sign n m head b some h.unsigned e counted;
    }
    at false w false e = else w e

pushed_common : (head : List ℕ) (b n m : ℕ) → is_common head ≡ true → IsUnsigned head → IsCounted n m head
    → HeaderPushed (behind_graphic CommonMnemonic b) n m head b
pushed_common head b n m c h counted =
    behind_word CommonMnemonic Misspelled head b n m h counted
    (λ is more. record { spelled = (common_push head b (header_some head h.header) ∙ c, is); counted = more })
    (λ w e more. bad_byte_fails head b more h w (strip_other b more e) (λ d. let f : true ≡ false = sym c ∙ d in absurd cc))

pushed_mnemonic : (head : List ℕ) (b n m : ℕ) → is_common head ≡ false → IsUnsigned head → IsCounted n m head
    → HeaderPushed (behind_graphic Mnemonic b) n m head b
pushed_mnemonic head b n m c h counted =
    behind_word Mnemonic (cond (b == 58) Colon Misspelled) head b n m h counted
    (λ is more. record { spelled = (common_push head b some ∙ c, is); counted = more }) (λ w e. at w e (b == 58) refl)
  where
    some : is_empty head ≡ false
    some = header_some head h.header

    at : is_word_byte b ≡ false → (b == 63) ≡ false → (k : Bool) → (b == 58) ≡ k → HeaderPushed (cond k Colon Misspelled) n m head b
    at w e true f =
        subst (λ (x : ℕ). IsPushed Colon n m (head ++ x ∷ [])) (sym (eqb-true b 58 f)) (record {
          spelled = (common_push head 58 some ∙ c, colon_awaits_mnemonic head c h);
          counted = counted_colon n m head 58 (words_with_colon head some h.unsigned c) counted;
        })
    at w e false f = λ more. bad_byte_fails head b more h w (strip_other b more e) (λ d. f)

pushed_sign : (head : List ℕ) (b n m : ℕ) → HeaderEnds QuerySign head → HeaderPushed Misspelled n m head b
pushed_sign head b n m h = λ more.
    ap (λ (l : List ℕ). is_header (l ++ b ∷ more)) h.1 ∙ ap is_header (append_assoc h.0 (63 ∷ []) (b ∷ more))
    ∙ bad_byte_fails h.0 63 (b ∷ more) h.2 refl (strip_front 63 b more) (λ d. refl)

asterisk_awaits : (head : List ℕ) → head ≡ 42 ∷ [] → Awaits head
asterisk_awaits head e = subst Awaits (sym e) (record { some = refl; unsigned = refl; empty = refl; mnemonics = refl })

-- Whether no byte of the unit follows its header yet.
abbrev pub is_before_header_end : Stage → Bool
is_before_header_end WhiteSpace = true
is_before_header_end Asterisk = true
is_before_header_end Colon = true
is_before_header_end CommonMnemonic = true
is_before_header_end Mnemonic = true
is_before_header_end QuerySign = true
is_before_header_end _ = false

pub header_is_pushed : (stage : Stage) (head : List ℕ) (b n m : ℕ) → is_before_header_end stage ≡ true → HeaderEnds stage head
    → IsCounted n m head → HeaderPushed (behind_graphic stage b) n m head b
header_is_pushed WhiteSpace head b n m first h counted =
    subst (λ (l : List ℕ). HeaderPushed (behind_graphic WhiteSpace b) n m l b) (sym h)
    (pushed_first b n m (subst (IsCounted n m) h counted))
header_is_pushed Asterisk head b n m first h counted =
    awaited CommonMnemonic head b n m (asterisk_awaits head h) counted
    (λ l more is. record { spelled = (common_push head b (ap is_empty h) ∙ ap is_common h, is); counted = more })
header_is_pushed Colon head b n m first h counted =
    awaited Mnemonic head b n m h.1 counted
    (λ l more is. record { spelled = (common_push head b h.1.some ∙ h.0, is); counted = more })
header_is_pushed CommonMnemonic head b n m first h counted = pushed_common head b n m h.0 h.1 counted
header_is_pushed Mnemonic head b n m first h counted = pushed_mnemonic head b n m h.0 h.1 counted
header_is_pushed QuerySign head b n m first h counted = pushed_sign head b n m h
header_is_pushed _ head b n m first h counted = absurd cc
