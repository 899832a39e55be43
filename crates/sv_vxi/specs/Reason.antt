-- Why a read ended (VXI-11 revision 1.0, section B.6).
use Rattle.std.specs.Prelude.{ℕ, ◌+◌, if◌then◌else◌}
use Rattle.sv_vxi.specs.declared.reason.Reason.{Reason}

-- the reasons as a number, as the reply contains them: the sum of REQCNT (1), CHR (2) and END (4),
-- each added if it applies
abbrev pub reason_number : Reason → ℕ
reason_number r = (if r.request_count then 1 else 0) + (if r.character then 2 else 0) + (if r.end then 4 else 0)
