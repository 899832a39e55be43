-- The calls of the core channel (VXI-11 revision 1.0, section B.6), as plain data.
use Rattle.std.specs.Prelude.{ℕ, ℤ, pos, Bool, false, [], length, Option, Some, None, nat_lt}
use Rattle.sv_vxi.specs.declared.error_code.ErrorCode.{ErrorCode}
use Rattle.sv_vxi.specs.declared.arguments.GenericCall.TheVariants.{Readstb}
use Rattle.sv_vxi.specs.Arguments.{LinkCall, DeviceWrite, DeviceRead, Generic, DeviceDocmd, Arguments, CreateLink, OnLink, is_create_link}
use Rattle.sv_vxi.specs.Results.{Outcome, Link, Size, Read, Status, Plain, Data}
use Rattle.sv_exchange.specs.Limits.{max_message}

-- a call of the core channel: its transaction id (xid) and its arguments
pub record CoreCall : Type 0 where
  pub xid : ℕ
  pub arguments : Arguments

-- whether a call is create_link
abbrev pub creates_link : Option CoreCall → Bool
creates_link (Some call) = is_create_link call.arguments
creates_link None = false

-- the number of the link that a call names; `None` if the call names no link, or a negative number,
-- which no link has
abbrev pub lid_of : Option ℤ → Option ℕ
lid_of (Some (pos lid)) = Some lid
lid_of _ = None

-- whether a call is a write of more than 4,096 bytes
abbrev pub is_too_long : LinkCall → Bool
is_too_long (DeviceWrite io_timeout lock_timeout flags bytes) = nat_lt max_message (length bytes)
is_too_long _ = false

-- the result of a read that returns no bytes
abbrev pub no_bytes : ErrorCode → Outcome
no_bytes error = Read error (record { request_count = false; character = false; end = false }) []

-- the result of a call that fails with this error: all other fields of the result are 0 or empty
abbrev pub failure : Arguments → ErrorCode → Outcome
failure (CreateLink client_id lock_device lock_timeout device) error = Link error (pos 0) 0 0
failure (OnLink lid (DeviceWrite io_timeout lock_timeout flags bytes)) error = Size error 0
failure (OnLink lid (DeviceRead request_size io_timeout lock_timeout flags term_char)) error = no_bytes error
failure (OnLink lid (Generic Readstb flags lock_timeout io_timeout)) error = Status error 0
failure (OnLink lid (DeviceDocmd flags io_timeout lock_timeout cmd network_order datasize bytes)) error = Data error []
failure _ error = Plain error
