-- How much message exchange accepts, stores and returns, in bytes.
use Rattle.std.specs.Prelude.{ℕ}

-- how long a program message may be, and how long one write may be
abbrev pub max_message : ℕ
max_message = 4096

-- how many bytes of text can be stored: a message that hasn't ended (4,096), and one more write
-- (4,096)
abbrev pub max_text : ℕ
max_text = 8192

-- how long a response may be, with its new line
abbrev pub max_response : ℕ
max_response = 32768

-- how many bytes one read returns, at most
abbrev pub max_read : ℕ
max_read = 8192
