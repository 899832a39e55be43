-- The calls for interrupt channels (VXI-11 revision 1.0, section B.6: device_enable_srq,
-- create_intr_chan, destroy_intr_chan).
use Rattle.std.specs.Prelude.{ℕ, ◌/◌, ◌==◌, ◌&&◌, Bool, true, false, List, [], ◌∷◌, length, filter, Option, Some, None, nat_lt, if◌then◌else◌}
use Rattle.sv_vxi.specs.declared.error_code.ErrorCode.TheVariants.{NoError, ParameterError, NotEstablished}
use Rattle.sv_vxi.specs.Arguments.{Arguments, CreateIntrChan, max_handle}
use Rattle.sv_vxi.specs.Results.{Plain}
use Rattle.sv_links.specs.declared.waiting.Wait.{Wait}
use Rattle.sv_links.specs.declared.waiting.Wait.TheVariants.{Dial as Dialing}
use Rattle.sv_links.specs.Waiting.{WaitAct, waits, connections}
use Rattle.sv_links.specs.Channels.{SrqEnabled, SrqDisabled, ChannelOpened, is_channel_open}
use Rattle.sv_history.specs.declared.event.Dial.{Dial}
use Rattle.sv_history.specs.Act.{Act, DeviceAct, Channel, of, device_acts, wait_acts, channel_acts}
use Rattle.sv_history.specs.Connection.{pending_call}
use Rattle.sv_history.specs.CallOutcome.{CallOutcome, answer_with, only}
use Rattle.sv_history.specs.CoreCall.{CoreCall, failure}
use Rattle.sv_history.specs.Request.{core_call_in}

-- whether the interrupt channel of a connection is open
abbrev pub has_channel : ℕ → List DeviceAct → Bool
has_channel c acts = is_channel_open c (channel_acts acts)

-- device_enable_srq: a link enables service requests, with a handle of at most 40 bytes, or
-- disables them. A longer handle gets error 5; but no call comes here with one, because its
-- arguments can't be read (`opaque max_handle`, VXI-11 revision 1.0, section B.6).
abbrev pub enable_srq : ℕ → Bool → ℕ → List ℕ → CallOutcome
enable_srq c true lid handle = if nat_lt max_handle (length handle) then only (Plain ParameterError)
    else answer_with (Channel (SrqEnabled lid c handle) ∷ []) (Plain NoError)
enable_srq c false lid handle = answer_with (Channel (SrqDisabled lid) ∷ []) (Plain NoError)

-- whether the server connects an interrupt channel to this address and port: the address is in
-- 127.0.0.0/8, and the port is 1 to 65535
abbrev pub is_peer : ℕ → ℕ → Bool
is_peer host_addr host_port = (host_addr / 16777216 == 127) && nat_lt 0 host_port && nat_lt host_port 65536

-- whether this is a wait until the peer of an interrupt channel is connected
abbrev pub is_dial : Option Wait → Bool
is_dial (Some Dialing) = true
is_dial _ = false

-- whether a create_intr_chan of this connection is suspended until its peer is connected
abbrev pub is_dialing : ℕ → List WaitAct → Bool
is_dialing c acts = is_dial (waits c acts)

-- how many connections have a create_intr_chan that is suspended until its peer is connected
abbrev pub dialing : List WaitAct → ℕ
dialing acts = length (filter (λ c. is_dialing c acts) connections)

-- the address and the port that a create_intr_chan names; `None` for any other call, and for a port
-- above 65535
abbrev pub dial_by : Arguments → Option Dial
dial_by (CreateIntrChan host_addr host_port prog_num prog_vers prog_family) =
    if nat_lt host_port 65536 then Some (record { addr = host_addr; port = host_port }) else None
dial_by _ = None

-- the address and the port that a call names; `None` if there is no call, or if `dial_by` finds
-- none in it
abbrev pub dial_in : Option CoreCall → Option Dial
dial_in (Some call) = dial_by call.arguments
dial_in None = None

-- where to connect the interrupt channel of a connection; `None` if the connection has no suspended
-- create_intr_chan
abbrev pub dial_of : ℕ → List Act → Option Dial
dial_of c log = if is_dialing c (wait_acts (device_acts log)) then dial_in (core_call_in (pending_call (of c log))) else None

-- the outcome of a suspended create_intr_chan: if its peer was connected, the channel opens; if the
-- peer couldn't be connected, the call gets error 6
abbrev pub connect_outcome : ℕ → Bool → Arguments → CallOutcome
connect_outcome c true (CreateIntrChan host_addr host_port prog_num prog_vers prog_family) =
    answer_with (Channel (ChannelOpened c (record { prog = prog_num; vers = prog_vers })) ∷ []) (Plain NoError)
connect_outcome c _ arguments = only (failure arguments NotEstablished)
