-- How many bytes a writer has accepted, after several texts were written to it.
use Rattle.std.proofs.Common.{◌≡◌, ℕ, ◌+◌, ◌-◌, ◌<◌, ◌≤◌, ◌/◌, ◌%◌, Bool, true, false, List, [], ◌∷◌, ◌++◌, length, take, drop, map, Option, refl, sym, ap, ◌∙◌, append_assoc, append-nil, slice_index, slice_index_or, subst, arith}
use Rattle.std.specs.List.{concat}
use Rattle.std.proofs.lemmas.List.{take_all, take-append-drop, length-drop, map_more, map-append}
use Rattle.std.proofs.lemmas.List.Folds.{concat-append}
use Rattle.hex.specs.Hex.{encode_with, encode_lower, lower_digits}
use Rattle.std.specs.Prelude.{Result, Ok, Err, ⊤, IsErr}
use Rattle.std.specs.Io.KnownBytes.{Appends}
use Rattle.sv_print.specs.TakenByWriter.{IsTakenByWriter}
use Rattle.sv_print.specs.Printed.{Prints}
pub use Rattle.std.proofs.KnownBytes.{Appends-nil as appends_none, Appends-kept as appends_keeps, Appends-trans as appends_then}

-- If the first write fails, the writer accepted a prefix of both texts.
pub first_text_fails : {E F : Type 0} (old new : Option (List ℕ)) (a b : List ℕ) (e : E) (r : Result ⊤ F) → IsErr r
    → IsTakenByWriter old new (Err e) a → IsTakenByWriter old new r (a ++ b)
first_text_fails old new a b e (Ok all) h x = absurd cc
first_text_fails old new a b e (Err f) h x = (x.0, (x.1.0 ++ b, ap (λ (l : List ℕ). l ++ b) x.1.1 ∙ append_assoc x.0 x.1.0 b), x.2)

-- After the first text was accepted, the second decides.
pub second_text_decides : {E : Type 0} (old mid new : Option (List ℕ)) (a b : List ℕ) (r : Result ⊤ E) → Appends old mid a
    → IsTakenByWriter mid new r b → IsTakenByWriter old new r (a ++ b)
second_text_decides old mid new a b (Ok all) x y = appends_then old mid new a b x y
second_text_decides old mid new a b (Err e) x y = (
  a ++ y.0,
  (y.1.0, ap (λ (l : List ℕ). a ++ l) y.1.1 ∙ sym (append_assoc a y.0 y.1.0)),
  appends_then old mid new a y.0 x y.2,
)

-- More bytes of a text were accepted.
pub more_bytes_taken : (text done rest : List ℕ) (n : ℕ) (old mid new : Option (List ℕ)) → text ≡ done ++ rest → n ≤ length rest
    → Appends old mid done → Appends mid new (take n rest)
    → (more : List ℕ) × (text ≡ more ++ take (length rest - n) (drop n rest)) × Appends old new more
more_bytes_taken text done rest n old mid new e within x y =
    let all : take (length rest - n) (drop n rest) ≡ drop n rest =
    take_all (length rest - n) (drop n rest) (omega (arith, length-drop n rest)) in (
      done ++ take n rest,
      e ∙ ap (λ (l : List ℕ). done ++ l) (sym (take-append-drop n rest)) ∙ sym (append_assoc done (take n rest) (drop n rest))
          ∙ ap (λ (l : List ℕ). (done ++ take n rest) ++ l) (sym all),
      appends_then old mid new done (take n rest) x y,
    )

pub encode_append : (t a b : List ℕ) → encode_with t (a ++ b) ≡ encode_with t a ++ encode_with t b
unfolding encode_with
encode_append t [] b = refl
encode_append t (x ∷ a) b = ap (λ (l : List ℕ). slice_index t (x / 16) ∷ slice_index t (x % 16) ∷ l) (encode_append t a b)

pub hex_none : (old : Option (List ℕ)) (bytes : List ℕ) → (done : List ℕ) × (bytes ≡ done ++ bytes) × Appends old old (encode_lower done)
unfolding encode_with
hex_none old bytes = ([], refl, appends_none old)

-- Another piece was accepted in hexadecimal.
pub hex_more : (bytes done rest piece others : List ℕ) (old mid new : Option (List ℕ)) → bytes ≡ done ++ rest → rest ≡ piece ++ others
    → Appends old mid (encode_lower done)
    → Appends mid new (encode_lower piece) → (more : List ℕ) × (bytes ≡ more ++ others) × Appends old new (encode_lower more)
hex_more bytes done rest piece others old mid new e f x y = (
  done ++ piece,
  e ∙ ap (λ (l : List ℕ). done ++ l) f ∙ sym (append_assoc done piece others),
  subst (λ (l : List ℕ). Appends old new l) (sym (encode_append lower_digits done piece))
      (appends_then old mid new (encode_lower done) (encode_lower piece) x y),
)

-- The writer failed within a piece.
pub hex_stop : {E F : Type 0} (bytes done rest piece others : List ℕ) (old mid new : Option (List ℕ)) (e : E) (r : Result ⊤ F)
    → bytes ≡ done ++ rest → rest ≡ piece ++ others → IsErr r
    → Appends old mid (encode_lower done) → IsTakenByWriter mid new (Err e) (encode_lower piece)
    → IsTakenByWriter old new r (encode_lower bytes)
hex_stop bytes done rest piece others old mid new e r is split h x y =
    let whole : encode_lower bytes ≡ (encode_lower done ++ encode_lower piece) ++ encode_lower others =
    ap encode_lower (is ∙ ap (λ (l : List ℕ). done ++ l) split ∙ sym (append_assoc done piece others))
    ∙ encode_append lower_digits (done ++ piece) others
    ∙ ap (λ (l : List ℕ). l ++ encode_lower others) (encode_append lower_digits done piece) in
    subst (λ (l : List ℕ). IsTakenByWriter old new r l) (sym whole)
    (first_text_fails old new (encode_lower done ++ encode_lower piece) (encode_lower others) e r h
    (second_text_decides old mid new (encode_lower done) (encode_lower piece) (Err e) x y))

pub take_and_drop_join : (n : ℕ) (all front back : List ℕ) → front ≡ take n all → back ≡ drop n all → all ≡ front ++ back
take_and_drop_join n all front back e f = sym (take-append-drop n all) ∙ ap (λ (l : List ℕ). l ++ drop n all) (sym e)
    ∙ ap (λ (l : List ℕ). front ++ l) (sym f)

-- ---- the texts of a list's elements

module _ {X : Type 0} (f : X → List ℕ) where
  -- The text of the next element follows the texts before it.
  pub texts_more : (xs : List X) (i : ℕ) (d : X) → i < length xs
      → concat (map f (take (i + 1) xs)) ≡ concat (map f (take i xs)) ++ f (slice_index_or xs i d)
  texts_more xs i d h = ap concat (map_more f xs i d h) ∙ concat-append (map f (take i xs)) (f (slice_index_or xs i d) ∷ [])
      ∙ ap (λ (l : List ℕ). concat (map f (take i xs)) ++ l) (append-nil (f (slice_index_or xs i d)))

  -- The texts of the elements so far, after some text; and the text of the next one appended to
  -- them.
  pub texts_appended : (xs : List X) (i : ℕ) (d : X) (start old new : List ℕ) → i < length xs
      → old ≡ start ++ concat (map f (take i xs)) → new ≡ old ++ f (slice_index_or xs i d)
      → new ≡ start ++ concat (map f (take (i + 1) xs))
  texts_appended xs i d start old new h e is = is ∙ ap (λ (l : List ℕ). l ++ f (slice_index_or xs i d)) e
      ∙ append_assoc start (concat (map f (take i xs))) (f (slice_index_or xs i d))
      ∙ ap (λ (l : List ℕ). start ++ l) (sym (texts_more xs i d h))

  -- All texts: those before an element, its own, and those after it.
  pub texts_cut : (xs : List X) (i : ℕ) (d : X) → i < length xs
      → concat (map f xs) ≡ (concat (map f (take i xs)) ++ f (slice_index_or xs i d)) ++ concat (map f (drop (i + 1) xs))
  texts_cut xs i d h = ap (λ (l : List X). concat (map f l)) (sym (take-append-drop (i + 1) xs))
      ∙ ap concat (map-append f (take (i + 1) xs) (drop (i + 1) xs))
      ∙ concat-append (map f (take (i + 1) xs)) (map f (drop (i + 1) xs))
      ∙ ap (λ (l : List ℕ). l ++ concat (map f (drop (i + 1) xs))) (texts_more xs i d h)

  -- After the loop, all texts were written.
  pub texts_all : (xs : List X) (i : ℕ) → length xs ≤ i → concat (map f (take i xs)) ≡ concat (map f xs)
  texts_all xs i h = ap (λ (l : List X). concat (map f l)) (take_all i xs h)

  -- The text of another element was accepted.
  pub appends_more : (xs : List X) (i : ℕ) (d : X) (old mid new : Option (List ℕ)) → i < length xs
      → Appends old mid (concat (map f (take i xs))) → Appends mid new (f (slice_index_or xs i d))
      → Appends old new (concat (map f (take (i + 1) xs)))
  appends_more xs i d old mid new h x y = subst (λ (l : List ℕ). Appends old new l) (sym (texts_more xs i d h))
      (appends_then old mid new (concat (map f (take i xs))) (f (slice_index_or xs i d)) x y)

  -- The writer failed at the text of an element.
  pub takes_stuck : {E F : Type 0} (xs : List X) (i : ℕ) (d : X) (old mid new : Option (List ℕ)) (e : E) (r : Result ⊤ F) → i < length xs
      → IsErr r
      → Appends old mid (concat (map f (take i xs))) → IsTakenByWriter mid new (Err e) (f (slice_index_or xs i d))
      → IsTakenByWriter old new r (concat (map f xs))
  takes_stuck xs i d old mid new e r h is x y =
      let front : List ℕ = concat (map f (take i xs)) in
      let own : List ℕ = f (slice_index_or xs i d) in
      subst (λ (l : List ℕ). IsTakenByWriter old new r l) (sym (texts_cut xs i d h))
      (first_text_fails old new (front ++ own) (concat (map f (drop (i + 1) xs))) e r is
      (second_text_decides old mid new front own (Err e) x y))

-- ---- printers, which write nothing after a failure

pub prints_none : (old : Option (List ℕ)) (failed : Bool) → Prints old failed old failed []
prints_none old true = (refl, refl)
prints_none old false = appends_none old

-- A text is printed, and then another.
pub prints_then : (old mid new : Option (List ℕ)) (f g h : Bool) (a b : List ℕ) → Prints old f mid g a → Prints mid g new h b
    → Prints old f new h (a ++ b)
prints_then old mid new true true h a b x y = (y.0, y.1 ∙ x.1)
prints_then old mid new true false h a b x y = absurd cc
prints_then old mid new false true true a b x y = (
  x.0,
  (x.1.0 ++ b, ap (λ (l : List ℕ). l ++ b) x.1.1 ∙ append_assoc x.0 x.1.0 b),
  subst (λ (o : Option (List ℕ)). Appends old o x.0) (sym y.1) x.2,
)
prints_then old mid new false true false a b x y = absurd cc
prints_then old mid new false false false a b x y = appends_then old mid new a b x y
prints_then old mid new false false true a b x y = (
  a ++ y.0,
  (y.1.0, ap (λ (l : List ℕ). a ++ l) y.1.1 ∙ sym (append_assoc a y.0 y.1.0)),
  appends_then old mid new a y.0 x y.2,
)

pub prints_equal_text : (old new : Option (List ℕ)) (f g : Bool) (a b : List ℕ) → a ≡ b → Prints old f new g a → Prints old f new g b
prints_equal_text old new f g a b e x = subst (λ (l : List ℕ). Prints old f new g l) e x

-- A loop prints the text of another element.
pub prints_more : {X : Type 0} (f : X → List ℕ) (xs : List X) (i : ℕ) (d : X) (old mid new : Option (List ℕ)) (a b c : Bool) → i < length xs
    → Prints old a mid b (concat (map f (take i xs))) → Prints mid b new c (f (slice_index_or xs i d))
    → Prints old a new c (concat (map f (take (i + 1) xs)))
prints_more f xs i d old mid new a b c h x y = prints_equal_text old new a c _ _ (sym (texts_more f xs i d h))
    (prints_then old mid new a b c (concat (map f (take i xs))) (f (slice_index_or xs i d)) x y)
