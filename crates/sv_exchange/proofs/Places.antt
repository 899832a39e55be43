-- The position of the first byte that passes a test, and what a read returns.
use Rattle.std.proofs.Common.{◌≡◌, ℕ, zero, suc, ◌+◌, ◌==◌, Bool, true, false, not, cond, List, [], ◌∷◌, length, take, min, refl, ap, ◌∙◌, ◌≤◌, Option, Some, arith}
use Rattle.std.proofs.lemmas.List.{length-take-le}
use Rattle.sv_exchange.specs.declared.read.Read.{Read}
use Rattle.sv_exchange.specs.Read.{read_count, ends_at_term}
use Rattle.sv_exchange.specs.ReadGiven.{IsReadOf}
use Rattle.std.specs.List.{position_or_len}
use Rattle.sv_exchange.specs.Limits.{max_read}

pub position_in_prefix : (p : ℕ → Bool) (bytes : List ℕ) (k : ℕ)
    → position_or_len p (take k bytes) ≡ min (position_or_len p bytes) (min k (length bytes))
position_in_prefix p [] zero = refl
position_in_prefix p [] (suc k) = omega arith
position_in_prefix p (b ∷ bytes) zero = omega arith
position_in_prefix p (b ∷ bytes) (suc k) = at (p b) (position_in_prefix p bytes k)
  where
    at : (t : Bool) → position_or_len p (take k bytes) ≡ min (position_or_len p bytes) (min k (length bytes))
        → cond (not t) (1 + position_or_len p (take k bytes)) 0
        ≡ min (cond (not t) (1 + position_or_len p bytes) 0) (min (suc k) (suc (length bytes)))
    at true h = omega arith
    at false h = omega arith

-- A read returns bytes up to the termination character, if that comes within its limit.
pub read_count_by_position : (response : List ℕ) (most last limit place count : ℕ) → limit ≡ min most (min max_read (length response))
    → place ≡ position_or_len (λ b. b == last) (take limit response)
    → count ≡ min limit (place + 1) → count ≡ read_count response most (Some last)
read_count_by_position response most last limit place count e f h =
    omega (arith, position_in_prefix (λ b. b == last) response limit)

-- A read that returns this many bytes, and tells why it ends after them, is what is asked for.
pub read_is : (read : Read) (response : List ℕ) (most : ℕ) (term : Option ℕ) (count : ℕ) → count ≡ read_count response most term
    → read.bytes.now ≡ take count response → read.request_count ≡ (count == most)
    → read.character ≡ ends_at_term response count term → read.end ≡ (count == length response) → IsReadOf read response most term
read_is read response most term count is bytes request_count character end =
    let few : count ≤ length response = omega (arith, is) in
    let size : length read.bytes.now ≡ count = ap length bytes ∙ length-take-le count response few in
    record {
      bytes = bytes ∙ ap (λ n. take n response) is;
      size = size ∙ is;
      within = omega (arith, size, few);
      request_count = request_count ∙ ap (λ n. n == most) is;
      character = character ∙ ap (λ n. ends_at_term response n term) is;
      end = end ∙ ap (λ n. n == length response) is;
    }
