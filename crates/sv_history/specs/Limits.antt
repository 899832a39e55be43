-- How many bytes can wait to be sent on a connection.
use Rattle.std.specs.Prelude.{ℕ, ◌+◌}
use Rattle.sv_exchange.specs.Limits.{max_read}

-- the length of the longest reply in bytes, with its record mark. The longest reply is one to a
-- device_read: it has 40 bytes besides the data that the read returns (RFC 5531, sections 9 and 11;
-- VXI-11, device_read).
abbrev pub longest_reply : ℕ
longest_reply = 40 + max_read

-- how many bytes of replies can wait on a connection until the peer takes them
abbrev pub max_output : ℕ
max_output = 16384
