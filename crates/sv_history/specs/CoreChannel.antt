-- What each call of the core channel does if nothing stops it (VXI-11 revision 1.0, section B.6).
-- `Admission` says what stops a call.
use Rattle.std.specs.Prelude.{ℕ, ◌+◌, ◌%◌, ◌==◌, not, pos, negsuc, Bool, false, List, [], ◌∷◌, ◌++◌, length, map, take, Option, Some, None, nat_lt, if◌then◌else◌}
use Rattle.std.specs.Int.{bit_at}
use Rattle.sv_errors.specs.declared.code.Code.TheVariants.{QueryUnterminated}
use Rattle.sv_vxi.specs.declared.error_code.ErrorCode.TheVariants.{NoError, InvalidLink, ParameterError, NotSupported, NotEstablished, OutOfResources, NoLock, IoTimeout}
use Rattle.sv_vxi.specs.declared.error_code.ErrorCode.TheVariants.{Locked as DeviceLocked}
use Rattle.sv_vxi.specs.declared.arguments.GenericCall.TheVariants.{Readstb, Trigger, Clear}
use Rattle.sv_vxi.specs.Arguments.{LinkCall, DeviceWrite, DeviceRead, Generic, DeviceLock, DeviceUnlock, DeviceEnableSrq, DestroyLink, Arguments, CreateLink, OnLink, DestroyIntrChan}
use Rattle.sv_vxi.specs.Results.{Outcome, Link, Size, Read, Status, Plain}
use Rattle.sv_links.specs.Links.{Made, Destroyed, Locked, Unlocked, owner, is_of, links_made, lids_left, holder, is_locked_out, is_this}
use Rattle.sv_links.specs.Channels.{ChannelClosed}
use Rattle.sv_exchange.specs.Exchange.{Accepted, TextDropped, ResponseRead, has_ended, response, is_something}
use Rattle.sv_exchange.specs.Read.{read_count, ends_at_term}
use Rattle.sv_exchange.specs.Limits.{max_message}
use Rattle.sv_history.specs.declared.event.Config.{Config}
use Rattle.sv_layers.specs.Act.{Exchanged, Reported, Purged, Polled}
use Rattle.sv_instrument.specs.Step.{is_answerable}
use Rattle.sv_instrument.specs.Stimulus.{trigger_acts}
use Rattle.sv_history.specs.Act.{DeviceAct, Linked, Channel, Applied, link_acts, instrument_acts, exchange_acts}
use Rattle.sv_history.specs.CallOutcome.{CallOutcome, answer_with, only}
use Rattle.sv_history.specs.CoreCall.{no_bytes, failure}
use Rattle.sv_history.specs.Interrupts.{has_channel, enable_srq}

-- whether a connection owns a link: the link is live, and this connection made it
abbrev pub owns : ℕ → Option ℕ → List DeviceAct → Bool
owns c (Some lid) acts = is_of c (owner lid (link_acts acts))
owns c None acts = false

-- create_link: a link is created, and gets the lock if the call asks for the lock; error 9 if all
-- link numbers are used up
abbrev pub make_link : Config → ℕ → Bool → List DeviceAct → CallOutcome
make_link config c lock_device acts =
    if not (lids_left (link_acts acts)) then only (Link OutOfResources (pos 0) 0 0)
    else (let lid = links_made (link_acts acts) + 1 in
    answer_with ((if lock_device then Linked (Locked lid) ∷ [] else []) ++ Linked (Made lid c) ∷ [])
    (Link NoError (pos lid) config.abort max_message))

-- device_lock: the link gets the lock, even if it already holds the lock; error 11 if another link
-- holds the lock
abbrev pub device_lock : ℕ → List DeviceAct → CallOutcome
device_lock lid acts = if is_locked_out (holder (link_acts acts)) (Some lid) then only (Plain DeviceLocked)
    else answer_with (Linked (Locked lid) ∷ []) (Plain NoError)

-- device_unlock: the lock is freed; error 12 if this link doesn't hold the lock
abbrev pub device_unlock : ℕ → List DeviceAct → CallOutcome
device_unlock lid acts =
    if is_this lid (holder (link_acts acts)) then answer_with (Linked (Unlocked lid) ∷ []) (Plain NoError) else only (Plain NoLock)

-- device_write: the bytes are accepted; error 5 for more than 4,096 bytes; error 15 while the
-- instrument hasn't finished a message that came completely
abbrev pub device_write : ℕ → List ℕ → List DeviceAct → CallOutcome
device_write flags bytes acts =
    if nat_lt max_message (length bytes) then only (Size ParameterError 0)
    else (if has_ended (exchange_acts acts) then only (Size IoTimeout 0)
    else answer_with (Applied (Exchanged (Accepted bytes (bit_at flags 3 == 1))) ∷ []) (Size NoError (length bytes)))

-- the termination character: the low eight bits of `term_char` if bit 7 of the flags is set, else
-- none
abbrev pub term_of : ℕ → ℕ → Option ℕ
term_of flags term_char = if bit_at flags 7 == 1 then Some (term_char % 256) else None

-- the result of a device_read of this response. It has the first bytes of the response, up to the
-- requested number of bytes, 8,192 bytes or the termination character, whichever comes first. It
-- also has each of the three reasons that applies; none applies if only the 8,192 bytes ended the
-- read.
abbrev pub read_of : List ℕ → ℕ → Option ℕ → Outcome
read_of bytes most term =
    let count = read_count bytes most term in
    Read NoError (record { request_count = count == most; character = ends_at_term bytes count term; end = count == length bytes })
    (take count bytes)

-- the outcome of a device_read while there is a response: the bytes that the read returns are
-- removed from the response
abbrev pub reads : List ℕ → ℕ → Option ℕ → CallOutcome
reads bytes most term = answer_with (Applied (Exchanged (ResponseRead (read_count bytes most term))) ∷ []) (read_of bytes most term)

-- device_read: returns bytes of the response; error 15 if there is no response. If moreover no
-- response can come without a further write, the text of the unfinished message is dropped, and the
-- instrument's error -420 is reported.
abbrev pub device_read : ℕ → Option ℕ → List DeviceAct → CallOutcome
device_read most term acts =
    if is_something (response (exchange_acts acts)) then reads (response (exchange_acts acts)) most term
    else (if not (is_answerable (instrument_acts acts)) then only (no_bytes IoTimeout)
    else answer_with (Applied (Reported QueryUnterminated) ∷ Applied (Exchanged TextDropped) ∷ []) (no_bytes IoTimeout))

-- What a call on this link does, if a poll of the status byte would return `polled`. device_remote
-- and device_local do nothing. device_docmd isn't supported (error 8). device_abort isn't a call of
-- this channel, and gets error 8 too.
abbrev pub link_call : ℕ → ℕ → ℕ → LinkCall → List DeviceAct → CallOutcome
link_call polled c lid (DeviceWrite io_timeout lock_timeout flags bytes) acts = device_write flags bytes acts
link_call polled c lid (DeviceRead request_size io_timeout lock_timeout flags term_char) acts =
    device_read request_size (term_of flags term_char) acts
link_call polled c lid (Generic Readstb flags lock_timeout io_timeout) acts = answer_with (Applied Polled ∷ []) (Status NoError polled)
link_call polled c lid (Generic Trigger flags lock_timeout io_timeout) acts =
    answer_with (map Applied (trigger_acts (instrument_acts acts))) (Plain NoError)
link_call polled c lid (Generic Clear flags lock_timeout io_timeout) acts = answer_with (Applied Purged ∷ []) (Plain NoError)
link_call polled c lid (Generic _ flags lock_timeout io_timeout) acts = only (Plain NoError)
link_call polled c lid (DeviceLock flags lock_timeout) acts = device_lock lid acts
link_call polled c lid DeviceUnlock acts = device_unlock lid acts
link_call polled c lid (DeviceEnableSrq enable handle) acts =
    if owns c (Some lid) acts then enable_srq c enable lid handle else only (Plain InvalidLink)
link_call polled c lid DestroyLink acts = answer_with (Linked (Destroyed lid) ∷ []) (Plain NoError)
link_call polled c lid call acts = only (failure (OnLink (pos lid) call) NotSupported)

-- What any call of the core channel does. A call that names a negative link number fails, because
-- no link has such a number. The error 8 that create_intr_chan would get here is never sent:
-- `Admission` stops each create_intr_chan first; if the call is suspended, `connect_outcome` (in
-- `Interrupts`) is its later outcome.
abbrev pub own_call : Config → ℕ → ℕ → Arguments → List DeviceAct → CallOutcome
own_call config polled c (CreateLink client_id lock_device lock_timeout device) acts = make_link config c lock_device acts
own_call config polled c (OnLink (pos lid) call) acts = link_call polled c lid call acts
own_call config polled c (OnLink (negsuc n) call) acts = only (failure (OnLink (negsuc n) call) InvalidLink)
own_call config polled c DestroyIntrChan acts =
    if has_channel c acts then answer_with (Channel (ChannelClosed c) ∷ []) (Plain NoError) else only (Plain NotEstablished)
own_call config polled c arguments acts = only (failure arguments NotSupported)
