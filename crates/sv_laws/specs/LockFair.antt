-- The lock is given in the order in which calls came, and the link that holds it keeps it (VXI-11
-- revision 1.0, section B.4.4).
use Rattle.std.specs.Prelude.{◌≡◌, ◌≢◌, ◌⊎◌, ◌≤◌, ℕ, pos, ◌==◌, Bool, true, false, List, [], ◌∷◌, ◌++◌, map, Some, None, is_some, if◌then◌else◌}
use Rattle.sv_rpc.specs.Call.{call_at}
use Rattle.sv_vxi.specs.declared.error_code.ErrorCode.{ErrorCode}
use Rattle.sv_vxi.specs.declared.error_code.ErrorCode.TheVariants.{NoError, NotAccessible, InvalidLink, ParameterError, OutOfResources, Abort}
use Rattle.sv_vxi.specs.declared.error_code.ErrorCode.TheVariants.{Locked as DeviceLocked}
use Rattle.sv_vxi.specs.Arguments.{DeviceLock, DeviceUnlock, DestroyLink, Arguments, CreateLink, OnLink, lock_wait, link as link_in}
use Rattle.sv_links.specs.declared.waiting.Wait.TheVariants.{Lock}
use Rattle.sv_links.specs.Links.{LinkAct, Locked, owner, holder}
use Rattle.sv_links.specs.Waiting.{WaitAct, Entered, Again, Left, waits, link}
use Rattle.sv_history.specs.declared.event.Config.{Config}
use Rattle.sv_history.specs.declared.event.Role.TheVariants.{Core, Abort as AbortChannel}
use Rattle.sv_history.specs.Event.{PlainEvent, Turn}
use Rattle.sv_history.specs.Act.{Act, DeviceAct, CallTaken, Replied, Linked, Waited, On, OnDevice, of, device_acts, link_acts, wait_acts, instrument_acts}
use Rattle.sv_history.specs.Connection.{is_open, next_call, pending_call}
use Rattle.sv_vxi.specs.Results.{Plain, Link}
use Rattle.sv_history.specs.CallOutcome.{CallOutcome}
use Rattle.sv_history.specs.CoreCall.{CoreCall, lid_of, failure}
use Rattle.sv_history.specs.CoreChannel.{own_call}
use Rattle.sv_history.specs.Effect.{acts_of, result_reply, call_effect}
use Rattle.sv_history.specs.Request.{CoreRequest, AbortRequest, request_of, core_call_in, next_request}
use Rattle.sv_history.specs.PolledStatus.{IsPolled}
use Rattle.sv_history.specs.History.{IsLogOf}
use Rattle.sv_laws.specs.InTime.{age, lock_time}
use Rattle.sv_laws.specs.Conformance.{SameLinks}

-- The call of this connection waits for the lock.
abbrev pub WaitsForLock : List DeviceAct → ℕ → Type 0
WaitsForLock acts c = waits c (wait_acts acts) ≡ Some Lock

-- whether the newest call that was taken on connection `d` came after the newest call that was
-- taken on connection `c`
abbrev pub is_later : ℕ → ℕ → List Act → Bool
is_later c d [] = false
is_later c d (On e (CallTaken call) ∷ log) = if e == d then true else (if e == c then false else is_later c d log)
is_later c d (_ ∷ log) = is_later c d log

-- The call of connection `c` waits for the lock, and of all calls that wait for the lock it came
-- first.
abbrev pub IsFirst : ℕ → List Act → Type 0
IsFirst c log = WaitsForLock (device_acts log) c × ((d : ℕ) → WaitsForLock (device_acts log) d → d ≢ c → is_later c d log ≡ true)

-- While a call waits for the lock between two events, a link holds the lock, and it isn't the link
-- that the call names.
abbrev pub WaitsWhileHeld : Type 0
WaitsWhileHeld = (config : Config) (history : List PlainEvent) (log : List Act) (c : ℕ) → IsLogOf config history log
    → WaitsForLock (device_acts log) c
    → (lid : ℕ) × (holder (link_acts (device_acts log)) ≡ Some lid) × (link c (wait_acts (device_acts log)) ≢ Some lid)

-- whether a call needs the lock: a create_link that asks for the lock, or a call on a link that a
-- lock of another link stops
abbrev pub needs_lock : Arguments → Bool
needs_lock (CreateLink client_id lock_device lock_timeout device) = lock_device
needs_lock (OnLink lid call) = is_some (lock_wait call)
needs_lock _ = false

-- whether an error is a fault of the call itself: 3 (device not accessible), 4 (invalid link), 5
-- (parameter error) or 9 (out of resources)
abbrev pub is_own_fault : ErrorCode → Bool
is_own_fault = elim [ NotAccessible ↦ true | InvalidLink ↦ true | ParameterError ↦ true | OutOfResources ↦ true | _ ↦ false ]

-- The call that a Turn took isn't executed: the Turn does nothing to the links, the interrupt
-- channels and the instrument. The call waits for the lock, or it is answered with an error: a
-- fault of its own; or 11 if it waits no time for the lock, because its waitlock flag isn't set, or
-- its lock timeout is 0.
abbrev pub IsLockedOut : ℕ → List ℕ → CoreCall → List Act → List Act → Type 0
IsLockedOut c bytes call before log = SameLinks (device_acts log) (device_acts before)
    × (instrument_acts (device_acts log) ≡ instrument_acts (device_acts before))
    × (((of c log ≡ CallTaken bytes ∷ of c before) × WaitsForLock (device_acts log) c) ⊎ ((error : ErrorCode)
    × (((error ≡ DeviceLocked) × (lock_time call.arguments ≡ 0)) ⊎ (is_own_fault error ≡ true))
    × (of c log ≡ Replied (result_reply call.xid (failure call.arguments error)) ∷ CallTaken bytes ∷ of c before)))

-- While a link holds the lock, a Turn takes a call that needs the lock. If the call names another
-- link, or none, it isn't executed.
abbrev pub NoneOvertakes : Type 0
NoneOvertakes = (config : Config) (history : List PlainEvent) (before log : List Act) (c : ℕ) (bytes : List ℕ) (call : CoreCall)
    → IsLogOf config history before → IsLogOf config (Turn c ∷ history) log → holder (link_acts (device_acts before)) ≢ None
    → next_call (of c before) ≡ Some bytes → next_request (of c before) ≡ Some (CoreRequest call) → needs_lock call.arguments ≡ true
    → holder (link_acts (device_acts before)) ≢ lid_of (link_in call.arguments) → IsLockedOut c bytes call before log

-- whether this act changes what the call of connection `c` waits for: it is suspended, waits for
-- something else, or isn't suspended any more
abbrev pub changes_wait : ℕ → WaitAct → Bool
changes_wait c = elim [ Entered conn link wait deadline ↦ conn == c | Again conn wait deadline ↦ conn == c | Left conn ↦ conn == c ]

-- The newest acts are those of a device_abort that names the link of the suspended call of
-- connection `c`.
abbrev pub IsAborted : ℕ → List Act → Type 0
IsAborted c log = (d : ℕ) × (bytes reply : List ℕ) × (before : List Act) × (xid lid : ℕ)
    × (log ≡ On d (Replied reply) ∷ On d (CallTaken bytes) ∷ before)
    × (request_of AbortChannel (call_at bytes) ≡ AbortRequest xid (pos lid)) × (link c (wait_acts (device_acts before)) ≡ Some lid)

-- The call of connection `c` fails: the next act is the reply with the error. The error is 11, and
-- the call was taken at least as many milliseconds ago as its lock timeout says; or it is 23, and a
-- device_abort named the call's link.
abbrev pub FailsNext : ℕ → List Act → List Act → Type 0
FailsNext c newer older = (more : List Act) × (call : CoreCall) × (error : ErrorCode)
    × (newer ≡ more ++ On c (Replied (result_reply call.xid (failure call.arguments error))) ∷ [])
    × (core_call_in (pending_call (of c older)) ≡ Some call)
    × (((error ≡ DeviceLocked) × (lock_time call.arguments ≤ age c older)) ⊎ ((error ≡ Abort) × IsAborted c older))

-- The call of connection `c` has resumed and is executed: the next acts are those of `own_call`,
-- with its reply.
abbrev pub IsExecuted : Config → ℕ → List Act → List Act → Type 0
IsExecuted config c newer older = (more : List Act) × (call : CoreCall) × (polled : ℕ) × IsPolled polled (device_acts older)
    × (core_call_in (pending_call (of c older)) ≡ Some call)
    × (newer ≡ more ++ acts_of c (call_effect call.xid (own_call config polled c call.arguments (Waited (Left c) ∷ device_acts older))))

-- By this act a call passes the lock: it now waits for the device, or it is executed.
abbrev pub GoesOn : Config → WaitAct → List Act → List Act → Type 0
GoesOn config (Entered conn link wait deadline) newer older = ⊥
GoesOn config (Again conn wait deadline) newer older = wait ≢ Lock
GoesOn config (Left conn) newer older = IsExecuted config conn newer older

-- A call stops waiting for the lock in three ways only: the lock is free, of all calls that wait
-- for the lock the call came first, and it goes on (`GoesOn`); or its connection was closed; or the
-- call fails, by its own timeout or by a device_abort (`FailsNext`).
abbrev pub OldestPasses : Type 0
OldestPasses = (config : Config) (history : List PlainEvent) (log newer older : List Act) (act : WaitAct) (c : ℕ)
    → IsLogOf config history log → log ≡ newer ++ OnDevice (Waited act) ∷ older → changes_wait c act ≡ true
    → WaitsForLock (device_acts older) c → ((holder (link_acts (device_acts older)) ≡ None) × IsFirst c older
    × GoesOn config act newer older) ⊎ (is_open (of c older) ≡ false) ⊎ FailsNext c newer older

-- A link may get the lock in three cases: it holds the lock already; or the lock is free and no
-- call waits for it; or the lock is free, and the call that takes it was suspended until now, and
-- of all calls that waited for the lock it came first. (In the third case the acts before are that
-- the call resumed and, for a create_link, that its link was made.)
abbrev pub MayGet : ℕ → List Act → Type 0
MayGet lid log = (holder (link_acts (device_acts log)) ≡ Some lid)
    ⊎ ((holder (link_acts (device_acts log)) ≡ None) × (((c : ℕ) → WaitsForLock (device_acts log) c → ⊥)
    ⊎ ((c : ℕ) × (made : List LinkAct) × (before : List Act)
    × (log ≡ map OnDevice (map Linked made) ++ OnDevice (Waited (Left c)) ∷ before)
    × (owner lid (link_acts (device_acts log)) ≡ Some c) × IsFirst c before)))

-- The call asks for the lock for this link: it is a device_lock of the link, or a create_link that
-- asks for the lock.
abbrev pub AsksForLock : ℕ → Arguments → Type 0
AsksForLock lid (OnLink (pos n) (DeviceLock flags lock_timeout)) = n ≡ lid
AsksForLock lid (CreateLink client_id lock_device lock_timeout device) = lock_device ≡ true
AsksForLock lid _ = ⊥

-- Each link that gets the lock may get it, and the unanswered call of its connection asks for the
-- lock.
abbrev pub OldestGets : Type 0
OldestGets = (config : Config) (history : List PlainEvent) (log newer older : List Act) (lid : ℕ) → IsLogOf config history log
    → log ≡ newer ++ OnDevice (Linked (Locked lid)) ∷ older → MayGet lid older × ((c : ℕ) × (call : CoreCall)
    × (owner lid (link_acts (device_acts older)) ≡ Some c) × (core_call_in (pending_call (of c older)) ≡ Some call)
    × AsksForLock lid call.arguments)

-- A call that asks for the lock is executed, and succeeds. Then its link holds the lock.
abbrev pub LockIsTaken : Type 0
LockIsTaken = (config : Config) (polled c lid abort_port most : ℕ) (arguments : Arguments) (acts : List DeviceAct) (outcome : CallOutcome)
    → outcome ≡ own_call config polled c arguments acts → AsksForLock lid arguments
    → (outcome.result ≡ Some (Plain NoError)) ⊎ (outcome.result ≡ Some (Link NoError (pos lid) abort_port most))
    → holder (link_acts (outcome.adds ++ acts)) ≡ Some lid

-- A device_unlock is executed, and succeeds. Then its link held the lock, and holds it no more.
abbrev pub LockIsFreed : Type 0
LockIsFreed = (config : Config) (polled c lid : ℕ) (acts : List DeviceAct) (outcome : CallOutcome)
    → outcome ≡ own_call config polled c (OnLink (pos lid) DeviceUnlock) acts → outcome.result ≡ Some (Plain NoError)
    → (holder (link_acts acts) ≡ Some lid) × (holder (link_acts (outcome.adds ++ acts)) ≢ Some lid)

-- The newest act takes a device_unlock or a destroy_link of this link, on this connection.
abbrev pub ReleasesLock : ℕ → ℕ → List Act → Type 0
ReleasesLock c lid log = (bytes : List ℕ) × (before : List Act) × (xid : ℕ) × (log ≡ On c (CallTaken bytes) ∷ before)
    × ((request_of Core (call_at bytes) ≡ CoreRequest (record { xid = xid; arguments = OnLink (pos lid) DeviceUnlock }))
    ⊎ (request_of Core (call_at bytes) ≡ CoreRequest (record { xid = xid; arguments = OnLink (pos lid) DestroyLink })))

-- A link that holds the lock keeps it until the connection that owns it lets it go: by a
-- device_unlock or a destroy_link of the link (`ReleasesLock`), or because the connection was
-- closed.
abbrev pub HolderKeeps : Type 0
HolderKeeps = (config : Config) (history : List PlainEvent) (log newer older : List Act) (act : Act) (c lid : ℕ)
    → IsLogOf config history log → log ≡ newer ++ act ∷ older → holder (link_acts (device_acts older)) ≡ Some lid
    → owner lid (link_acts (device_acts older)) ≡ Some c → holder (link_acts (device_acts (act ∷ older))) ≢ Some lid
    → (is_open (of c older) ≡ false) ⊎ ReleasesLock c lid older
