-- How many connections, links and calls there may be, and how long calls and handles may be.
use Rattle.std.specs.Prelude.{ℕ, ◌+◌, ◌*◌}

-- how many connections there may be; they are numbered from 0
abbrev pub max_connections : ℕ
max_connections = 16

-- how many calls may be suspended: one of each connection
abbrev pub max_waiting : ℕ
max_waiting = max_connections

-- how many links may exist at the same time
abbrev pub max_links : ℕ
max_links = 32

-- how many links may have service requests enabled at the same time: as many as may exist
abbrev pub max_enabled : ℕ
max_enabled = max_links

-- how many calls may wait on an interrupt channel, including a call of which the peer took only a
-- part
abbrev pub max_calls : ℕ
max_calls = 32

-- how long the handle of a service request may be, in bytes (VXI-11 revision 1.0, section B.6,
-- device_enable_srq)
abbrev pub max_handle : ℕ
max_handle = 40

-- the length of the longest device_intr_srq in bytes: its header (40 bytes), the length field of
-- the handle (4 bytes), and the longest handle, which needs no padding
abbrev pub longest_text : ℕ
longest_text = 44 + max_handle

-- the length in bytes of the longest device_intr_srq as a record: the header of its one fragment (4
-- bytes; RFC 5531, section 11), and the call
abbrev pub longest_call : ℕ
longest_call = 4 + longest_text

-- how many bytes may wait on an interrupt channel: 32 calls of the greatest length
abbrev pub max_queued : ℕ
max_queued = max_calls * longest_call
