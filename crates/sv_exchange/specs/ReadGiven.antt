-- The parts of what a read returns.
use Rattle.std.specs.Prelude.{◌≡◌, ℕ, ◌≤◌, ◌==◌, List, length, take, Option}
use Rattle.sv_exchange.specs.declared.read.Read.{Read}
use Rattle.sv_exchange.specs.Read.{read_count, ends_at_term}

-- `read` is what reading at most `most` bytes of a response returns: the bytes, and the reasons why
-- reading ends after them.
pub record IsReadOf (read : Read) (response : List ℕ) (most : ℕ) (term : Option ℕ) : Type 0 where
  pub bytes : read.bytes.now ≡ take (read_count response most term) response
  pub size : length read.bytes.now ≡ read_count response most term
  pub within : length read.bytes.now ≤ length response
  pub request_count : read.request_count ≡ (read_count response most term == most)
  pub character : read.character ≡ ends_at_term response (read_count response most term) term
  pub end : read.end ≡ (read_count response most term == length response)
