-- The function that reads the arguments of a call from left to right.
use Rattle.std.specs.Prelude.{ℕ, ℤ, Bool, List, [], ◌∷◌, Result, Ok, ◌==◌, if◌then◌else◌}
use Rattle.std.specs.Result.{result_map_both}
use Rattle.sv_xdr.specs.declared.garbage.Garbage.{Garbage}
use Rattle.sv_xdr.specs.Garbage.{◌>>=◌}
use Rattle.sv_xdr.specs.Reader.{unsigned_at, signed_at, boolean_at, opaque_at}
use Rattle.sv_vxi.specs.declared.arguments.Args.{Args}
use Rattle.sv_vxi.specs.declared.arguments.Args.TheVariants as args
use Rattle.sv_vxi.specs.declared.arguments.GenericCall.TheVariants.{Readstb, Trigger, Clear, Remote, Local}
use Rattle.sv_vxi.specs.declared.arguments.LinkCall.{LinkCall as Called}
use Rattle.sv_vxi.specs.declared.arguments.LinkCall.TheVariants as calls
use Rattle.sv_vxi.specs.Limits.{max_handle}
use Rattle.sv_vxi.specs.Arguments.{LinkCall, DeviceAbort, DeviceWrite, DeviceRead, Generic, DeviceLock, DeviceUnlock, DeviceEnableSrq, DeviceDocmd, DestroyLink, Arguments, CreateLink, OnLink, CreateIntrChan, DestroyIntrChan}

-- the kind of a field; opaque data have at most `most` bytes
pub data Kind : Type 0 where
  signed unsigned boolean : Kind
  opaque : (most : ℕ) → Kind

-- the kind of opaque data of any length that the length field can express
abbrev pub any : Kind
any = opaque 4294967295

-- the type of a function that takes the values of fields of these kinds, in order, and returns an A
abbrev pub Makes : List Kind → Type 0 → Type 0
Makes [] A = A
Makes (signed ∷ kinds) A = ℤ → Makes kinds A
Makes (unsigned ∷ kinds) A = ℕ → Makes kinds A
Makes (boolean ∷ kinds) A = Bool → Makes kinds A
Makes (opaque most ∷ kinds) A = List ℕ → Makes kinds A

-- Reads fields of these kinds from bytes, in order. The result is what the function `makes` returns
-- for the values of the fields, or `Garbage` if a field can't be read. Bytes after the last field
-- are ignored.
abbrev pub read : {A : Type 0} → (kinds : List Kind) → Makes kinds A → List ℕ → Result A Garbage
read [] value bytes = Ok value
read (signed ∷ kinds) makes bytes = signed_at bytes >>= λ x. read kinds (makes x.0) x.1
read (unsigned ∷ kinds) makes bytes = unsigned_at bytes >>= λ x. read kinds (makes x.0) x.1
read (boolean ∷ kinds) makes bytes = boolean_at bytes >>= λ x. read kinds (makes x.0) x.1
read (opaque most ∷ kinds) makes bytes = opaque_at most bytes >>= λ x. read kinds (makes x.0) x.1

-- the arguments of a call on a link: the link is read first, then the fields of these kinds
abbrev pub read_on_link : (kinds : List Kind) → Makes kinds LinkCall → List ℕ → Result Arguments Garbage
read_on_link kinds makes bytes = signed_at bytes >>= λ x. result_map_both (OnLink x.0) (λ garbage. garbage) (read kinds makes x.1)

-- the arguments of the call with this number, read from bytes
abbrev pub arguments_at : ℕ → List ℕ → Result Arguments Garbage
arguments_at proc =
    if proc == 1 then read_on_link [] DeviceAbort
    else (if proc == 10 then read (signed ∷ boolean ∷ unsigned ∷ any ∷ []) CreateLink
    else (if proc == 11 then read_on_link (unsigned ∷ unsigned ∷ unsigned ∷ any ∷ []) DeviceWrite
    else (if proc == 12 then read_on_link (unsigned ∷ unsigned ∷ unsigned ∷ unsigned ∷ unsigned ∷ []) DeviceRead
    else (if proc == 13 then read_on_link (unsigned ∷ unsigned ∷ unsigned ∷ []) (Generic Readstb)
    else (if proc == 14 then read_on_link (unsigned ∷ unsigned ∷ unsigned ∷ []) (Generic Trigger)
    else (if proc == 15 then read_on_link (unsigned ∷ unsigned ∷ unsigned ∷ []) (Generic Clear)
    else (if proc == 16 then read_on_link (unsigned ∷ unsigned ∷ unsigned ∷ []) (Generic Remote)
    else (if proc == 17 then read_on_link (unsigned ∷ unsigned ∷ unsigned ∷ []) (Generic Local)
    else (if proc == 18 then read_on_link (unsigned ∷ unsigned ∷ []) DeviceLock
    else (if proc == 19 then read_on_link [] DeviceUnlock
    else (if proc == 20 then read_on_link (boolean ∷ opaque max_handle ∷ []) DeviceEnableSrq
    else (if proc == 22 then read_on_link (unsigned ∷ unsigned ∷ unsigned ∷ signed ∷ boolean ∷ signed ∷ any ∷ []) DeviceDocmd
    else (if proc == 23 then read_on_link [] DestroyLink
    else (if proc == 25 then read (unsigned ∷ unsigned ∷ unsigned ∷ unsigned ∷ unsigned ∷ []) CreateIntrChan
    else read [] DestroyIntrChan))))))))))))))

-- a call on a link, turned from the code's type (`Called`) into plain data
abbrev pub plain_call : Called → LinkCall
plain_call calls.DeviceAbort = DeviceAbort
plain_call (calls.DeviceWrite io_timeout lock_timeout flags bytes) = DeviceWrite io_timeout lock_timeout flags.0 bytes.now
plain_call (calls.DeviceRead request_size io_timeout lock_timeout flags term_char) =
    DeviceRead request_size io_timeout lock_timeout flags.0 term_char
plain_call (calls.Generic call flags lock_timeout io_timeout) = Generic call flags.0 lock_timeout io_timeout
plain_call (calls.DeviceLock flags lock_timeout) = DeviceLock flags.0 lock_timeout
plain_call calls.DeviceUnlock = DeviceUnlock
plain_call (calls.DeviceEnableSrq enable handle) = DeviceEnableSrq enable handle.now
plain_call (calls.DeviceDocmd flags io_timeout lock_timeout cmd network_order datasize bytes) =
    DeviceDocmd flags.0 io_timeout lock_timeout cmd network_order datasize bytes.now
plain_call calls.DestroyLink = DestroyLink

-- the arguments of the code, as plain data
abbrev pub plain_arguments : Args → Arguments
plain_arguments (args.CreateLink client_id lock_device lock_timeout device) = CreateLink client_id lock_device lock_timeout device.now
plain_arguments (args.OnLink lid call) = OnLink lid (plain_call call)
plain_arguments (args.CreateIntrChan host_addr host_port prog_num prog_vers prog_family) =
    CreateIntrChan host_addr host_port prog_num prog_vers prog_family
plain_arguments args.DestroyIntrChan = DestroyIntrChan

-- the result of reading arguments in the code, as plain data
abbrev pub plain_reading : Result Args Garbage → Result Arguments Garbage
plain_reading = result_map_both plain_arguments (λ garbage. garbage)
