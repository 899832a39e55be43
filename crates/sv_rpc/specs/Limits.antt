-- How long records and their parts may be.
use Rattle.std.specs.Prelude.{ℕ, ◌/◌}

-- the capacity of a record buffer, in bytes; each record in it uses 4 bytes more than its length
abbrev pub capacity : ℕ
capacity = 16384

-- the most records that a buffer can hold: even an empty record uses 4 bytes
abbrev pub max_records : ℕ
max_records = capacity / 4

-- how long a record may be, in bytes
abbrev pub max_record : ℕ
max_record = 8192

-- how long the body of a credential or a verifier may be, in bytes (RFC 5531, section 8.2)
abbrev pub max_auth : ℕ
max_auth = 400
