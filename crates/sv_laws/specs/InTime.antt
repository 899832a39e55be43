-- How long a call can be without an answer (VXI-11 revision 1.0, section B.4.4).
use Rattle.std.specs.Prelude.{◌≡◌, ◌≢◌, ℕ, ◌+◌, ◌<◌, ◌≤◌, ◌==◌, Bool, true, false, List, [], ◌∷◌, ◌++◌, length, filter, Option, Some, None, if◌then◌else◌, ⊤}
use Rattle.std.specs.List.{AllByRecursion}
use Rattle.sv_vxi.specs.declared.arguments.LockWait.{LockWait}
use Rattle.sv_vxi.specs.Arguments.{DeviceWrite, DeviceRead, Arguments, CreateLink, OnLink, CreateIntrChan, lock_wait}
use Rattle.sv_links.specs.declared.waiting.Wait.{Wait}
use Rattle.sv_links.specs.declared.waiting.Wait.TheVariants.{Lock}
use Rattle.sv_links.specs.Waiting.{Entered, Again, waits}
use Rattle.sv_history.specs.declared.event.Config.{Config}
use Rattle.sv_history.specs.declared.event.Port.TheVariants.{Conn}
use Rattle.sv_history.specs.Event.{PlainEvent, Turn, Close, Tick}
use Rattle.sv_history.specs.Act.{Act, DeviceAct, CallTaken, Waited, Ticked, On, OnDevice, of, device_acts, wait_acts}
use Rattle.sv_history.specs.Connection.{next_call, pending_call}
use Rattle.sv_history.specs.CoreCall.{CoreCall}
use Rattle.sv_history.specs.Request.{core_call}
use Rattle.sv_history.specs.History.{IsLogOf}
use Rattle.sv_laws.specs.InOrder.{replies}

-- how many milliseconds passed since a call was last taken on connection `c`
abbrev pub age : ℕ → List Act → ℕ
age c [] = 0
age c (On d (CallTaken call) ∷ log) = if d == c then 0 else age c log
age c (OnDevice Ticked ∷ log) = age c log + 1
age c (_ ∷ log) = age c log

-- the longest wait of a call on a link for the lock, in milliseconds: its lock timeout if its
-- waitlock flag is set, else 0
abbrev pub lock_patience : Option LockWait → ℕ
lock_patience (Some wait) = if wait.waits then wait.timeout else 0
lock_patience None = 0

-- the longest wait of a call for the lock, in milliseconds
abbrev pub lock_time : Arguments → ℕ
lock_time (CreateLink client_id lock_device lock_timeout device) = if lock_device then lock_timeout else 0
lock_time (OnLink lid call) = lock_patience (lock_wait call)
lock_time _ = 0

-- the longest wait of a call for the device, in milliseconds: the I/O timeout of a device_write or
-- a device_read
abbrev pub device_time : Arguments → ℕ
device_time (OnLink lid (DeviceWrite io_timeout lock_timeout flags bytes)) = io_timeout
device_time (OnLink lid (DeviceRead request_size io_timeout lock_timeout flags term_char)) = io_timeout
device_time _ = 0

-- the longest wait of a call, in milliseconds: first for the lock, and then for the device
abbrev pub patience : Arguments → ℕ
patience arguments = lock_time arguments + device_time arguments

-- whether a call waits for its peer: create_intr_chan, which has no timeout
abbrev pub waits_for_peer : Arguments → Bool
waits_for_peer (CreateIntrChan host_addr host_port prog_num prog_vers prog_family) = true
waits_for_peer _ = false

-- A call that isn't answered was taken fewer milliseconds ago than it waits at most; and while it
-- waits for the lock, fewer milliseconds ago than it waits for the lock at most. The one exception
-- is a create_intr_chan, which waits until its peer is connected.
abbrev pub InTime : Type 0
InTime = (config : Config) (history : List PlainEvent) (log : List Act) (c : ℕ) (bytes : List ℕ) → IsLogOf config history log
    → pending_call (of c log) ≡ Some bytes → (call : CoreCall) × (core_call bytes ≡ Some call) × (waits_for_peer call.arguments ≡ false
    → (age c log < patience call.arguments) × (waits c (wait_acts (device_acts log)) ≡ Some Lock → age c log < lock_time call.arguments))

-- how many milliseconds passed since the present wait of a call of connection `c` began: since the
-- call was suspended, or since it began to wait for something else
abbrev pub waited : ℕ → List DeviceAct → ℕ
waited c [] = 0
waited c (Waited (Entered d link wait deadline) ∷ acts) = if d == c then 0 else waited c acts
waited c (Waited (Again d wait deadline) ∷ acts) = if d == c then 0 else waited c acts
waited c (Ticked ∷ acts) = waited c acts + 1
waited c (_ ∷ acts) = waited c acts

-- how many milliseconds a call waits for this at most: its lock timeout for the lock, its I/O
-- timeout for the device
abbrev pub time_for : Wait → Arguments → ℕ
time_for Lock arguments = lock_time arguments
time_for _ arguments = device_time arguments

-- A call that waits has waited for the same thing fewer milliseconds than it waits for it at most.
-- The one exception is a create_intr_chan, which waits until its peer is connected.
abbrev pub EachWaitInTime : Type 0
EachWaitInTime = (config : Config) (history : List PlainEvent) (log : List Act) (c : ℕ) (bytes : List ℕ) (wait : Wait)
    → IsLogOf config history log → pending_call (of c log) ≡ Some bytes → waits c (wait_acts (device_acts log)) ≡ Some wait
    → (call : CoreCall) × (core_call bytes ≡ Some call)
    × (waits_for_peer call.arguments ≡ false → waited c (device_acts log) < time_for wait call.arguments)

-- how many Tick events there are
abbrev pub ticks_in : List PlainEvent → ℕ
ticks_in events = length (filter (elim [ Tick ↦ true | _ ↦ false ]) events)

-- The event isn't the Close of this connection.
abbrev pub LeavesOpen : ℕ → PlainEvent → Type 0
LeavesOpen c (Close (Conn d)) = d ≢ c
LeavesOpen c _ = ⊤

-- A Turn takes a call of the core channel. After any events that don't close the connection, and
-- among which there are as many Ticks as the call waits milliseconds at most, the connection has
-- more replies than before the Turn. (By the law InOrder the first of these replies has the xid of
-- the call.)
abbrev pub AnsweredInTime : Type 0
AnsweredInTime = (config : Config) (past events : List PlainEvent) (before log : List Act) (c : ℕ) (bytes : List ℕ) (call : CoreCall)
    → IsLogOf config past before → next_call (of c before) ≡ Some bytes → core_call bytes ≡ Some call
    → waits_for_peer call.arguments ≡ false → IsLogOf config (events ++ Turn c ∷ past) log → AllByRecursion (LeavesOpen c) events
    → patience call.arguments ≤ ticks_in events → length (replies (of c before)) < length (replies (of c log))
