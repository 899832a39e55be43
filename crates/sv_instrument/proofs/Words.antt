-- An answer that is printed into an empty buffer is the text of its value.
use Rattle.std.proofs.Common.{◌≡◌, ℕ, ◌<◌, ◌++◌, List, [], ◌∙◌, ap}
use Rattle.std.specs.Prelude.{◌↔◌, decimal}
use Rattle.std.specs.Int.{bit_at}
use Rattle.sv_instrument.specs.QueryResponse.{IsWord}

-- A 16-bit word that is printed as a wider integer.
pub word_printed : (Bit : ℕ → Type 0) (word wide : ℕ) (before text : List ℕ) → word < 65536 → before ≡ [] → wide ≡ word
    → text ≡ before ++ decimal wide → ((k : ℕ) → (bit_at word k ≡ 1) ↔ Bit k) → IsWord Bit text
word_printed Bit word wide before text fits empty same is bits = record {
  word = word;
  fits = fits;
  text_is = is ∙ ap (λ (front : List ℕ). front ++ decimal wide) empty ∙ ap decimal same;
  bits = bits;
}

-- A number that is printed as a wider integer.
pub number_printed : (number wide : ℕ) (before text : List ℕ) → before ≡ [] → wide ≡ number → text ≡ before ++ decimal wide
    → text ≡ decimal number
number_printed number wide before text empty same is = is ∙ ap (λ (front : List ℕ). front ++ decimal wide) empty ∙ ap decimal same

pub append_to_empty : {before piece text : List ℕ} → before ≡ [] → text ≡ before ++ piece → text ≡ piece
append_to_empty {before} {piece} {text} empty is = is ∙ ap (λ (front : List ℕ). front ++ piece) empty
