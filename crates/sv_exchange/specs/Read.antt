-- What a read returns of a response (VXI-11 revision 1.0, device_read).
use Rattle.std.specs.Prelude.{ℕ, ◌+◌, ◌-◌, ◌==◌, Bool, false, ◌&&◌, List, length, min, Option, Some, None, nat_lt, slice_get}
use Rattle.std.specs.List.{position_or_len}
use Rattle.std.specs.Option.{option_map_or}
use Rattle.sv_exchange.specs.Limits.{max_read}

-- how many bytes there are up to and including the first termination character; all bytes if there
-- is no termination character
abbrev pub term_end : Option ℕ → List ℕ → ℕ
term_end (Some term) bytes = min (position_or_len (λ b. b == term) bytes + 1) (length bytes)
term_end None bytes = length bytes

-- how many bytes are read: up to the termination character, the requested number, 8,192 bytes, or
-- the end of the response, whichever comes first
abbrev pub read_count : List ℕ → ℕ → Option ℕ → ℕ
read_count response most term = min (term_end term response) (min most (min max_read (length response)))

-- whether at least one byte is read, and the last of the first `count` bytes of the response is the
-- termination character
abbrev pub ends_at_term : List ℕ → ℕ → Option ℕ → Bool
ends_at_term response count (Some term) = nat_lt 0 count && option_map_or (λ b. b == term) (slice_get response (count - 1)) false
ends_at_term response count None = false
