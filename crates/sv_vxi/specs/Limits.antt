-- How long the arguments of calls may be.
use Rattle.std.specs.Prelude.{ℕ}

-- how long the handle of a service request may be, in bytes (VXI-11 revision 1.0, section B.6,
-- device_enable_srq)
abbrev pub max_handle : ℕ
max_handle = 40
