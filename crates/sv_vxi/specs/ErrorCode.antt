-- The numbers of the errors (VXI-11 revision 1.0, section B.5).
use Rattle.std.specs.Prelude.{ℕ, ◌==◌, if◌then◌else◌}
use Rattle.sv_vxi.specs.declared.error_code.ErrorCode.{ErrorCode}
use Rattle.sv_vxi.specs.declared.error_code.ErrorCode.TheVariants.{NoError, NotAccessible, InvalidLink, ParameterError, NotEstablished, NotSupported, OutOfResources, Locked, NoLock, IoTimeout, InvalidAddress, Abort, AlreadyEstablished}

-- the number of an error
abbrev pub error_number : ErrorCode → ℕ
error_number NoError = 0
error_number NotAccessible = 3
error_number InvalidLink = 4
error_number ParameterError = 5
error_number NotEstablished = 6
error_number NotSupported = 8
error_number OutOfResources = 9
error_number Locked = 11
error_number NoLock = 12
error_number IoTimeout = 15
error_number InvalidAddress = 21
error_number Abort = 23
error_number AlreadyEstablished = 29

-- a field of a result: `value`, or `nothing` (0 or empty) if there is an error
abbrev pub unless_error : {A : Type 0} → ErrorCode → A → A → A
unless_error error value nothing = if error_number error == 0 then value else nothing
