-- At which position a part of a text begins: a prefix, a suffix, or the text without the white
-- space around it.
use Rattle.std.proofs.Common.{◌≡◌, ℕ, suc, ◌+◌, ◌-◌, ◌≤◌, Bool, true, false, cond, List, [], ◌∷◌, ◌++◌, length, take, drop, refl, sym, ap, ◌∙◌, slice_range, arith}
use Rattle.std.specs.Prelude.{reverse}
use Rattle.std.proofs.lemmas.List.{append_assoc, append-nil, length-append, length-drop, length-take-le, reverse-append, reverse-reverse, take-append-drop}
use Rattle.std.proofs.lemmas.List.Sums.{prefix_len-le-length}
use Rattle.std.proofs.Math.Seq.{take-append-add, drop-append-add}
use Rattle.sv_text.specs.White.{is_white, trim_start, trim_end, trim}
use Rattle.sv_lexer.specs.Token.{StandsAt}
use Rattle.sv_lexer.specs.Unit.{white_size}

pub stands_self : (text : List ℕ) → StandsAt text 0 text
stands_self text = ([], [], sym (append-nil text), refl)

-- Positions add up: a part of a text is a part of whatever contains the text.
pub stands_transitive : (unit text part : List ℕ) (p q : ℕ) → StandsAt unit p text → StandsAt text q part → StandsAt unit (p + q) part
stands_transitive unit text part p q outer inner = (
  outer.0 ++ inner.0,
  inner.1 ++ outer.1,
  outer.2 ∙ ap (λ t. outer.0 ++ (t ++ outer.1)) inner.2 ∙ simp append_assoc refl,
  length-append outer.0 inner.0 ∙ omega (arith, outer.3, inner.3),
)

pub stands_take : (n : ℕ) (text : List ℕ) → StandsAt text 0 (take n text)
stands_take n text = ([], drop n text, sym (take-append-drop n text), refl)

pub stands_drop : (n : ℕ) (text : List ℕ) → n ≤ length text → StandsAt text n (drop n text)
stands_drop n text le = (
  take n text,
  [],
  sym (ap (λ t. take n text ++ t) (append-nil (drop n text)) ∙ take-append-drop n text),
  length-take-le n text le,
)

pub stands_after_byte : (text part behind : List ℕ) (b n : ℕ) → text ≡ part ++ b ∷ behind → n ≡ length part + 1 → StandsAt text n behind
stands_after_byte text part behind b n e s =
    (part ++ b ∷ [], [], e ∙ simp (append_assoc, append-nil) refl, length-append part (b ∷ []) ∙ sym s)

-- Removing leading white space drops as many bytes as there are of it.
pub start_dropped : (text : List ℕ) → trim_start text ≡ drop (white_size text) text
start_dropped [] = refl
start_dropped (b ∷ text) = at (is_white b) (start_dropped text)
  where
    at : (t : Bool) → trim_start text ≡ drop (white_size text) text
        → cond t (trim_start text) (b ∷ text) ≡ drop (cond t (1 + white_size text) 0) (b ∷ text)
    at true h = let n : 1 + white_size text ≡ suc (white_size text) = omega arith in rw n h
    at false h = refl

pub white_within : (text : List ℕ) → white_size text ≤ length text
white_within text = prefix_len-le-length is_white text

pub white_rest : (text : List ℕ) → white_size text + length (trim_start text) ≡ length text
white_rest text =
    let dropped : length (trim_start text) ≡ length text - white_size text =
    ap length (start_dropped text) ∙ length-drop (white_size text) text in
    let le = white_within text in
    omega (arith, dropped, le)

pub stands_start : (text : List ℕ) → StandsAt text (white_size text) (trim_start text)
stands_start text = rw (start_dropped text) (stands_drop (white_size text) text (white_within text))

-- Removing trailing white space leaves a prefix of the text.
pub end_taken : (text : List ℕ) → text ≡ trim_end text ++ reverse (take (white_size (reverse text)) (reverse text))
end_taken text =
    sym (reverse-reverse text)
    ∙ ap reverse (sym (take-append-drop (white_size (reverse text)) (reverse text)))
    ∙ reverse-append (take (white_size (reverse text)) (reverse text)) (drop (white_size (reverse text)) (reverse text))
    ∙ ap (λ t. reverse t ++ reverse (take (white_size (reverse text)) (reverse text))) (sym (start_dropped (reverse text)))

pub stands_end : (text : List ℕ) → StandsAt text 0 (trim_end text)
stands_end text = ([], reverse (take (white_size (reverse text)) (reverse text)), end_taken text, refl)

-- Without white space around it, a text begins after its leading white space.
pub stands_trim : (text : List ℕ) → StandsAt text (white_size text) (trim text)
stands_trim text = rw (← plus_zero (white_size text))
    (stands_transitive text (trim_start text) (trim text) (white_size text) 0 (stands_start text) (stands_end (trim_start text)))
  where
    plus_zero : (n : ℕ) → n + 0 ≡ n
    plus_zero n = omega arith

pub stands_within : (unit text : List ℕ) (p : ℕ) → StandsAt unit p text → p + length text ≤ length unit
stands_within unit text p h =
    let whole : length unit ≡ length h.0 + length (text ++ h.1) = ap length h.2 ∙ length-append h.0 (text ++ h.1) in
    let inner : length (text ++ h.1) ≡ length text + length h.1 = length-append text h.1 in
    omega (arith, whole, inner, h.3)

pub slice_stands : (text part : List ℕ) (p q : ℕ) → StandsAt text p part → q ≡ p + length part → slice_range text p q ≡ part
slice_stands text part p q h e =
    let front : List ℕ = h.0 in
    let behind : List ℕ = h.1 in
    let at : p ≡ length front + 0 = omega (arith, h.3) in
    let size : q - p ≡ length part + 0 = omega (arith, e) in
    ap (λ (t : List ℕ). take (q - p) (drop p t)) h.2 ∙ ap (λ (n : ℕ). take (q - p) (drop n (front ++ (part ++ behind)))) at
    ∙ ap (take (q - p)) (drop-append-add front (part ++ behind) 0) ∙ ap (λ (n : ℕ). take n (part ++ behind)) size
    ∙ take-append-add part behind 0 ∙ append-nil part
