-- What stops a call of the core channel (VXI-11 revision 1.0, sections B.4.4 and B.6). The checks
-- are, in this order: the call's link; the call's size; the lock; what the call has to wait for.
use Rattle.std.specs.Prelude.{ℕ, ◌+◌, ◌==◌, not, Bool, List, length, Option, Some, None, option_map, is_some, codes, nat_lt, ◌&&◌, if◌then◌else◌}
use Rattle.std.specs.Str.{bytes_eq}
use Rattle.sv_vxi.specs.declared.error_code.ErrorCode.{ErrorCode}
use Rattle.sv_vxi.specs.declared.error_code.ErrorCode.TheVariants.{InvalidLink, ParameterError, NotAccessible, NotSupported, OutOfResources, InvalidAddress, AlreadyEstablished}
use Rattle.sv_vxi.specs.declared.error_code.ErrorCode.TheVariants.{Locked as DeviceLocked}
use Rattle.sv_vxi.specs.declared.arguments.LockWait.{LockWait}
use Rattle.sv_vxi.specs.Arguments.{LinkCall, DeviceWrite, DeviceRead, Arguments, CreateLink, OnLink, CreateIntrChan, DestroyIntrChan, link, lock_wait}
use Rattle.sv_links.specs.declared.waiting.Wait.{Wait}
use Rattle.sv_links.specs.declared.waiting.Wait.TheVariants.{Lock, Input, Response, Dial}
use Rattle.sv_links.specs.Links.{live, lids_left, holder, is_locked_out}
use Rattle.sv_links.specs.Waiting.{Entered, creating}
use Rattle.sv_links.specs.Limits.{max_links}
use Rattle.sv_exchange.specs.Exchange.{has_ended}
use Rattle.sv_instrument.specs.Step.{is_answerable}
use Rattle.sv_history.specs.declared.event.Config.{Config}
use Rattle.sv_history.specs.Act.{DeviceAct, link_acts, wait_acts, instrument_acts, exchange_acts, ticks}
use Rattle.sv_history.specs.CallOutcome.{CallOutcome, only, suspend_by}
use Rattle.sv_history.specs.CoreCall.{lid_of, is_too_long, failure}
use Rattle.sv_history.specs.Interrupts.{has_channel, is_peer}
use Rattle.sv_history.specs.CoreChannel.{owns, own_call}

-- what happens to a call that is stopped: the call fails with an error; or the call is suspended,
-- for at most `timeout` milliseconds if there is a timeout
pub data Stop : Type 0 where
  Fails : (error : ErrorCode) → Stop
  Awaits : (wait : Wait) (timeout : Option ℕ) → Stop

-- what stops a call while another link holds the lock: the call waits for the lock if its waitlock
-- flag is set, else the call fails with error 11
abbrev pub lock_stop : LockWait → Stop
lock_stop wait = if wait.waits then Awaits Lock (Some wait.timeout) else Fails DeviceLocked

-- What a call waits for besides the lock, and the call's timeout in milliseconds. A device_write
-- waits while the instrument hasn't finished a message that came completely. A device_read waits
-- until the instrument can answer it.
abbrev pub device_wait : LinkCall → List DeviceAct → Option (Wait × ℕ)
device_wait (DeviceWrite timeout lock_timeout flags bytes) acts = if has_ended (exchange_acts acts) then Some (Input, timeout) else None
device_wait (DeviceRead request_size timeout lock_timeout flags term_char) acts =
    if is_answerable (instrument_acts acts) then None else Some (Response, timeout)
device_wait _ acts = None

-- What stops a call on a link, by the first of these that applies: the connection doesn't own the
-- link; the call is a write that is too long; another link holds the lock that the call needs; the
-- call has to wait for the device.
abbrev pub call_stop : ℕ → Option ℕ → LinkCall → List DeviceAct → Option Stop
call_stop c lid call acts =
    if not (owns c lid acts) then Some (Fails InvalidLink)
    else (if is_too_long call then Some (Fails ParameterError)
    else (if is_some (lock_wait call) && is_locked_out (holder (link_acts acts)) lid then option_map lock_stop (lock_wait call)
    else option_map (λ wait. Awaits wait.0 (Some wait.1)) (device_wait call acts)))

-- whether one more link may be created: the live links and the suspended create_link calls are
-- together fewer than 32, and a link number is still unused
abbrev pub may_make_more : List DeviceAct → Bool
may_make_more acts = nat_lt (length (live (link_acts acts)) + creating (wait_acts acts)) max_links && lids_left (link_acts acts)

-- What stops create_link, by the first of these that applies: the device's name isn't inst0; no
-- more link may be created; the call asks for the lock, and a link holds the lock.
abbrev pub link_stop : Bool → ℕ → List ℕ → List DeviceAct → Option Stop
link_stop lock_device timeout device acts =
    if not (bytes_eq device (codes "inst0")) then Some (Fails NotAccessible)
    else (if not (may_make_more acts) then Some (Fails OutOfResources)
    else (if lock_device && is_locked_out (holder (link_acts acts)) None then Some (Awaits Lock (Some timeout)) else None))

-- What stops create_intr_chan, by the first of these that applies: the connection already has a
-- channel; the protocol isn't TCP (0); the server doesn't connect to this address or port. If none
-- applies, the call waits without a deadline until its peer is connected.
abbrev pub channel_stop : Bool → ℕ → ℕ → ℕ → Stop
channel_stop there host_addr host_port prog_family =
    if there then Fails AlreadyEstablished
    else (if not (prog_family == 0) then Fails NotSupported
    else (if not (is_peer host_addr host_port) then Fails InvalidAddress else Awaits Dial None))

-- what stops a call of connection `c`; `None` if nothing stops it
abbrev pub stop_of : ℕ → Arguments → List DeviceAct → Option Stop
stop_of c (CreateLink client_id lock_device lock_timeout device) acts = link_stop lock_device lock_timeout device acts
stop_of c (OnLink lid call) acts = call_stop c (lid_of (Some lid)) call acts
stop_of c (CreateIntrChan host_addr host_port prog_num prog_vers prog_family) acts =
    Some (channel_stop (has_channel c acts) host_addr host_port prog_family)
stop_of c DestroyIntrChan acts = None

-- the value of the clock at which a wait that begins now times out; `None` if the wait has no
-- timeout
abbrev pub deadline : Config → Option ℕ → List DeviceAct → Option ℕ
deadline config timeout acts = option_map (λ milliseconds. config.clock + ticks acts + milliseconds) timeout

-- The outcome of a call: if nothing stops the call, the outcome of executing it; else the call
-- fails or is suspended.
abbrev pub admission : Config → ℕ → ℕ → Arguments → Option Stop → List DeviceAct → CallOutcome
admission config polled c arguments None acts = own_call config polled c arguments acts
admission config polled c arguments (Some (Fails error)) acts = only (failure arguments error)
admission config polled c arguments (Some (Awaits wait timeout)) acts =
    suspend_by (Entered c (lid_of (link arguments)) wait (deadline config timeout acts))
