-- The arguments of the calls (VXI-11 revision 1.0, sections B.5 and B.6), as a relation between
-- bytes and arguments.
use Rattle.std.specs.Prelude.{◌≡◌, ◌==◌, ℕ, ◌≤◌, ℤ, Bool, true, false, List, [], ◌∷◌, length, Option, Some, None, Result, Ok, Err}
use Rattle.std.specs.Int.{bit_at}
use Rattle.std.specs.List.{list_any}
use Rattle.sv_vxi.specs.declared.arguments.GenericCall.{GenericCall}
use Rattle.sv_vxi.specs.declared.arguments.GenericCall.TheVariants.{Readstb, Trigger, Clear, Remote, Local}
use Rattle.sv_vxi.specs.declared.arguments.LockWait.{LockWait}
use Rattle.sv_xdr.specs.declared.garbage.Garbage.{Garbage}
use Rattle.sv_xdr.specs.Spelling.{Field, Unsigned, Signed, Boolean, Opaque, BeginsAll}
pub use Rattle.sv_vxi.specs.Limits.{max_handle}

-- the arguments of a call on a link, without the link itself, as plain data. Timeouts are in
-- milliseconds. `Generic` has Device_GenericParms, the arguments that five of the calls share.
pub data LinkCall : Type 0 where
  DeviceAbort : LinkCall
  DeviceWrite : (io_timeout lock_timeout flags : ℕ) (bytes : List ℕ) → LinkCall
  DeviceRead : (request_size io_timeout lock_timeout flags term_char : ℕ) → LinkCall
  Generic : (call : GenericCall) (flags lock_timeout io_timeout : ℕ) → LinkCall
  DeviceLock : (flags lock_timeout : ℕ) → LinkCall
  DeviceUnlock : LinkCall
  DeviceEnableSrq : (enable : Bool) (handle : List ℕ) → LinkCall
  DeviceDocmd : (flags io_timeout lock_timeout : ℕ) (cmd : ℤ) (network_order : Bool) (datasize : ℤ) (bytes : List ℕ) → LinkCall
  DestroyLink : LinkCall

-- the arguments of a call, as plain data
pub data Arguments : Type 0 where
  CreateLink : (client_id : ℤ) (lock_device : Bool) (lock_timeout : ℕ) (device : List ℕ) → Arguments
  OnLink : (lid : ℤ) (call : LinkCall) → Arguments
  CreateIntrChan : (host_addr host_port prog_num prog_vers prog_family : ℕ) → Arguments
  DestroyIntrChan : Arguments

-- the procedure number of the call that has these arguments
abbrev pub procedure_of : Arguments → ℕ
procedure_of (OnLink lid DeviceAbort) = 1
procedure_of (CreateLink client_id lock_device lock_timeout device) = 10
procedure_of (OnLink lid (DeviceWrite io_timeout lock_timeout flags bytes)) = 11
procedure_of (OnLink lid (DeviceRead request_size io_timeout lock_timeout flags term_char)) = 12
procedure_of (OnLink lid (Generic Readstb flags lock_timeout io_timeout)) = 13
procedure_of (OnLink lid (Generic Trigger flags lock_timeout io_timeout)) = 14
procedure_of (OnLink lid (Generic Clear flags lock_timeout io_timeout)) = 15
procedure_of (OnLink lid (Generic Remote flags lock_timeout io_timeout)) = 16
procedure_of (OnLink lid (Generic Local flags lock_timeout io_timeout)) = 17
procedure_of (OnLink lid (DeviceLock flags lock_timeout)) = 18
procedure_of (OnLink lid DeviceUnlock) = 19
procedure_of (OnLink lid (DeviceEnableSrq enable handle)) = 20
procedure_of (OnLink lid (DeviceDocmd flags io_timeout lock_timeout cmd network_order datasize bytes)) = 22
procedure_of (OnLink lid DestroyLink) = 23
procedure_of (CreateIntrChan host_addr host_port prog_num prog_vers prog_family) = 25
procedure_of DestroyIntrChan = 26

-- the procedure numbers of the core channel's calls
abbrev pub core_calls : List ℕ
core_calls = 10 ∷ 11 ∷ 12 ∷ 13 ∷ 14 ∷ 15 ∷ 16 ∷ 17 ∷ 18 ∷ 19 ∷ 20 ∷ 22 ∷ 23 ∷ 25 ∷ 26 ∷ []

-- the procedure number of device_abort, the only call of the abort channel
abbrev pub abort_calls : List ℕ
abort_calls = 1 ∷ []

-- whether `proc` is one of the numbers in `calls`
abbrev pub is_one_of : List ℕ → ℕ → Bool
is_one_of calls proc = list_any (λ call. proc == call) calls

-- the fields of the arguments of a call on a link, without the field of the link
abbrev pub call_fields : LinkCall → List Field
call_fields (DeviceWrite io_timeout lock_timeout flags bytes) =
    Unsigned io_timeout ∷ Unsigned lock_timeout ∷ Unsigned flags ∷ Opaque bytes ∷ []
call_fields (DeviceRead request_size io_timeout lock_timeout flags term_char) =
    Unsigned request_size ∷ Unsigned io_timeout ∷ Unsigned lock_timeout ∷ Unsigned flags ∷ Unsigned term_char ∷ []
call_fields (Generic call flags lock_timeout io_timeout) = Unsigned flags ∷ Unsigned lock_timeout ∷ Unsigned io_timeout ∷ []
call_fields (DeviceLock flags lock_timeout) = Unsigned flags ∷ Unsigned lock_timeout ∷ []
call_fields (DeviceEnableSrq enable handle) = Boolean enable ∷ Opaque handle ∷ []
call_fields (DeviceDocmd flags io_timeout lock_timeout cmd network_order datasize bytes) =
    Unsigned flags ∷ Unsigned io_timeout ∷ Unsigned lock_timeout ∷ Signed cmd ∷ Boolean network_order ∷ Signed datasize
    ∷ Opaque bytes ∷ []
call_fields _ = []

-- the fields of the arguments, in order
abbrev pub argument_fields : Arguments → List Field
argument_fields (CreateLink client_id lock_device lock_timeout device) =
    Signed client_id ∷ Boolean lock_device ∷ Unsigned lock_timeout ∷ Opaque device ∷ []
argument_fields (OnLink lid call) = Signed lid ∷ call_fields call
argument_fields (CreateIntrChan host_addr host_port prog_num prog_vers prog_family) =
    Unsigned host_addr ∷ Unsigned host_port ∷ Unsigned prog_num ∷ Unsigned prog_vers ∷ Unsigned prog_family ∷ []
argument_fields DestroyIntrChan = []

-- If the arguments include a handle, this handle has at most 40 bytes.
abbrev pub InBounds : Arguments → Type 0
InBounds (OnLink lid (DeviceEnableSrq enable handle)) = length handle ≤ max_handle
InBounds _ = Unit {0}

-- The bytes begin with the encoded arguments, and `after` are the bytes that follow.
abbrev pub BeginsWith : List ℕ → Arguments → List ℕ → Type 0
BeginsWith bytes arguments after = InBounds arguments × BeginsAll bytes (argument_fields arguments) after

-- If the bytes are read as arguments of the call with this number, this is the result: the
-- arguments, or `Garbage`. Bytes after the last field are ignored.
abbrev pub ArgumentsAre : ℕ → List ℕ → Result Arguments Garbage → Type 0
ArgumentsAre proc bytes (Ok arguments) = (procedure_of arguments ≡ proc) × (after : List ℕ) × BeginsWith bytes arguments after
ArgumentsAre proc bytes (Err garbage) = (arguments : Arguments) (after : List ℕ) → procedure_of arguments ≡ proc
    → BeginsWith bytes arguments after → ⊥

-- the number of the link on which a call is made; `None` if no argument of the call is a link
abbrev pub link : Arguments → Option ℤ
link (OnLink lid call) = Some lid
link _ = None

-- what the flags of a call and the lock timeout (in milliseconds) say: the call waits for the lock
-- if bit 0 (waitlock) of the flags is set
abbrev pub lock_wait_of : ℕ → ℕ → Option LockWait
lock_wait_of flags timeout = Some (record { waits = bit_at flags 0 == 1; timeout = timeout })

-- what a call does while another link holds the lock (section B.4.4); `None` if the call is
-- executed nevertheless
abbrev pub lock_wait : LinkCall → Option LockWait
lock_wait (DeviceWrite io_timeout lock_timeout flags bytes) = lock_wait_of flags lock_timeout
lock_wait (DeviceRead request_size io_timeout lock_timeout flags term_char) = lock_wait_of flags lock_timeout
lock_wait (Generic call flags lock_timeout io_timeout) = lock_wait_of flags lock_timeout
lock_wait (DeviceLock flags lock_timeout) = lock_wait_of flags lock_timeout
lock_wait (DeviceDocmd flags io_timeout lock_timeout cmd network_order datasize bytes) = lock_wait_of flags lock_timeout
lock_wait _ = None

-- whether the call is create_link
abbrev pub is_create_link : Arguments → Bool
is_create_link (CreateLink client_id lock_device lock_timeout device) = true
is_create_link _ = false
