-- What common commands and queries set, change and keep (IEEE 488.2, chapters 10 to 12; SCPI-1999,
-- chapters 20 and 21); one law for each. Each law is about two logs of the instrument: that before
-- the command or query, and that after it was performed.
use Rattle.std.specs.Prelude.{◌≡◌, ◌≢◌, ◌↔◌, ℕ, ◌<◌, pos, neg_ℤ, true, false, List, [], ◌∷◌, ◌++◌, length, drop, Some, None, slice_get}
use Rattle.sv_vxi.specs.declared.arguments.GenericCall.TheVariants.{Readstb, Clear}
use Rattle.sv_vxi.specs.declared.error_code.ErrorCode.TheVariants.{NoError}
use Rattle.sv_vxi.specs.Arguments.{OnLink, Generic}
use Rattle.sv_vxi.specs.Results.{Plain, Status}
use Rattle.sv_errors.specs.declared.code.Code.{Code}
use Rattle.sv_errors.specs.ErrorQueue.{queue_codes}
use Rattle.sv_status.specs.declared.register_name.RegisterName.{RegisterName}
use Rattle.sv_status.specs.declared.register_name.RegisterName.TheVariants.{Operation, Questionable, Limit}
use Rattle.sv_errors.specs.declared.source.Source.TheVariants.{Immediate}
use Rattle.sv_scan.specs.Setting.{scan_list, monitor, range, upper, lower, limits, source, count}
use Rattle.sv_exchange.specs.Exchange.{answers, response, fits_response}
use Rattle.sv_layers.specs.Act.{Act, Reported, exchange_acts, queue_acts, scan_acts}
use Rattle.sv_layers.specs.Condition.{effective_acts, is_idle}
use Rattle.sv_layers.specs.Filter.{start, rise, fall, enable}
use Rattle.sv_layers.specs.Event.{EventStands}
use Rattle.sv_layers.specs.Standard.{Waits, Stands, enable as standard_enable}
use Rattle.sv_layers.specs.StatusByte.{service, SummaryBit, MasterBit, Request}
use Rattle.sv_header.specs.declared.command.Action.TheVariants as action
use Rattle.sv_header.specs.declared.command.Question.TheVariants as question
use Rattle.sv_instrument.specs.declared.command.order.Order.TheVariants as order
use Rattle.sv_instrument.specs.HeldUnit.{held_unit}
use Rattle.sv_instrument.specs.QueryResponse.{IsWord, oldest_text}
use Rattle.sv_instrument.specs.CommandEffect.{done, after_answering, Performs}
use Rattle.sv_history.specs.declared.event.Config.{Config}
use Rattle.sv_history.specs.Act.{DeviceAct, link_acts, channel_acts, instrument_acts}
use Rattle.sv_history.specs.CallOutcome.{CallOutcome}
use Rattle.sv_history.specs.CoreChannel.{own_call}
use Rattle.sv_history.specs.PolledStatus.{IsPolled}
use Rattle.sv_laws.specs.QueryAlone.{IsAtRest}

-- The two logs give each register the same filters and the same enable, and the same enables of
-- standard events and of service requests.
abbrev pub SameSettings : List Act → List Act → Type 0
SameSettings one two =
    ((name : RegisterName) → (rise name one ≡ rise name two) × (fall name one ≡ fall name two) × (enable name one ≡ enable name two))
    × (standard_enable one ≡ standard_enable two) × (service one ≡ service two)

-- The two logs give the same settings, the same bits of all event registers, the same pending
-- `*OPC`, the same error queue, and the same state of the scanner.
pub record SameRegisters (one two : List Act) : Type 0 where
  pub settings : SameSettings one two
  pub events : (name : RegisterName) (k : ℕ) → EventStands name k one ↔ EventStands name k two
  pub standard : (k : ℕ) → Stands k one ↔ Stands k two
  pub waits : Waits one ↔ Waits two
  pub queue : queue_acts one ≡ queue_acts two
  pub scanner : scan_acts one ≡ scan_acts two

-- The response that can be read, and the answers of the current message, are the same.
abbrev pub SameResponse : List Act → List Act → Type 0
SameResponse one two =
    (response (exchange_acts one) ≡ response (exchange_acts two)) × (answers (exchange_acts one) ≡ answers (exchange_acts two))

-- The two logs give the same settings, the same bits of all event registers, the same pending
-- `*OPC`, the same state of the scanner, and the same response.
abbrev pub SameElse : List Act → List Act → Type 0
SameElse one two = SameSettings one two × ((name : RegisterName) (k : ℕ) → EventStands name k one ↔ EventStands name k two)
    × (Waits one ↔ Waits two) × (scan_acts one ≡ scan_acts two) × SameResponse one two

-- The scanner has its default settings, and no measurement is under way.
pub record HasDefaults (log : List Act) : Type 0 where
  pub list : scan_list (effective_acts log) ≡ 1 ∷ []
  pub monitored : monitor (effective_acts log) ≡ 1
  pub range : range (effective_acts log) ≡ pos 10000000
  pub upper : upper (effective_acts log) ≡ pos 1000000000
  pub lower : lower (effective_acts log) ≡ neg_ℤ (pos 1000000000)
  pub limits : limits (effective_acts log) ≡ false
  pub source : source (effective_acts log) ≡ Immediate
  pub count : count (effective_acts log) ≡ 1
  pub idle : is_idle log ≡ true

-- Between two logs nothing happened to the links, the lock and the interrupt channels.
abbrev pub SameLinks : List DeviceAct → List DeviceAct → Type 0
SameLinks one two = (link_acts one ≡ link_acts two) × (channel_acts one ≡ channel_acts two)

-- A device_readstb that is executed returns the status byte, whose bit 6 is the request for
-- service. It ends the request, and changes nothing else: no register, no text, no link and no
-- interrupt channel (IEEE 488.2, 11.3; VXI-11 revision 1.0, section B.6).
abbrev pub PollEndsRequest : Type 0
PollEndsRequest = (config : Config) (polled c lid flags lock_timeout io_timeout : ℕ) (acts : List DeviceAct) (outcome : CallOutcome)
    → IsPolled polled acts → outcome ≡ own_call config polled c (OnLink (pos lid) (Generic Readstb flags lock_timeout io_timeout)) acts
    → (outcome.result ≡ Some (Status NoError polled)) × SameRegisters (instrument_acts (outcome.adds ++ acts)) (instrument_acts acts)
    × (exchange_acts (instrument_acts (outcome.adds ++ acts)) ≡ exchange_acts (instrument_acts acts))
    × (Request (instrument_acts (outcome.adds ++ acts)) → ⊥) × SameLinks (outcome.adds ++ acts) acts

-- `*STB?` returns the status byte, whose bit 6 is the master summary. If this answer finds room in
-- the response, the query changes no register, and doesn't end a request for service (IEEE 488.2,
-- 10.36 and 11.2.2.2).
abbrev pub StatusByteLeaves : Type 0
StatusByteLeaves = (log new : List Act) → Performs (order.Ask question.StatusByte) log new
    → (text : List ℕ) × IsWord (λ k. MasterBit k log) text × (new ≡ after_answering text (done log))
    × (fits_response (answers (exchange_acts (done log))) text ≡ true → SameRegisters new log × (Request new ↔ Request log))

-- `*CLS` clears all event registers, the standard events and the error queue, and cancels a pending
-- `*OPC`. It leaves all enables and filters, the scanner and the response. Of the summary bits only
-- MAV can be set then (IEEE 488.2, 10.3).
pub record IsCleared (log new : List Act) : Type 0 where
  pub events : (name : RegisterName) (k : ℕ) → EventStands name k new → ⊥
  pub standard : (k : ℕ) → Stands k new → ⊥
  pub queue : queue_codes (queue_acts new) ≡ []
  pub waits : Waits new → ⊥
  pub settings : SameSettings new log
  pub scanner : scan_acts new ≡ scan_acts log
  pub response : SameResponse new log
  pub summary : (k : ℕ) → SummaryBit k new → k ≡ 4

-- Where `*CLS` is performed, the new log is cleared (`IsCleared`).
abbrev pub ClearClears : Type 0
ClearClears = (log new : List Act) → Performs (order.Do action.ClearStatus) log new → IsCleared log new

-- `*RST` gives the scanner its default settings, and ends a measurement. It leaves all enables and
-- filters, the standard events, the error queue and the response, and clears no other event. It
-- cancels a pending `*OPC`. (It can set an event: if it ends a measurement, a condition bit falls;
-- IEEE 488.2, 10.32.)
pub record IsReset (log new : List Act) : Type 0 where
  pub defaults : HasDefaults new
  pub settings : SameSettings new log
  pub events : (name : RegisterName) (k : ℕ) → EventStands name k log → EventStands name k new
  pub standard : (k : ℕ) → Stands k new ↔ Stands k log
  pub waits : Waits new → ⊥
  pub queue : queue_acts new ≡ queue_acts log
  pub response : SameResponse new log

-- Where `*RST` is performed, the new log is reset (`IsReset`).
abbrev pub ResetLeaves : Type 0
ResetLeaves = (log new : List Act) → Performs (order.Do action.Reset) log new → IsReset log new

-- `*ESR?` returns the standard event register, and clears it. It keeps the error queue, the
-- settings, the other events, a pending `*OPC`, the scanner and the response (IEEE 488.2, 10.12).
-- (A request for service may end.)
abbrev pub StandardReadOnce : Type 0
StandardReadOnce = (log new : List Act) → Performs (order.Ask question.StandardEvents) log new
    → (text : List ℕ) × IsWord (λ k. Stands k log) text × (cleared : List Act) × (new ≡ after_answering text cleared)
    × ((k : ℕ) → Stands k cleared → ⊥) × (queue_acts cleared ≡ queue_acts log) × SameElse cleared log

-- STATus:PRESet gives each register its filters and its enable at power on, and clears no event. It
-- leaves all events but bit 9 of the questionable events, the standard events, the enables of
-- standard events and of service requests, a pending `*OPC`, the error queue, the scanner and the
-- response. (It can set bit 9 of the questionable events, since it enables all limit events;
-- SCPI-1999, chapter 20.)
pub record IsPreset (log new : List Act) : Type 0 where
  pub masks : (name : RegisterName) → (rise name new ≡ 32767) × (fall name new ≡ 0) × (enable name new ≡ start name)
  pub kept : (name : RegisterName) (k : ℕ) → EventStands name k log → EventStands name k new
  pub operation : (k : ℕ) → EventStands Operation k new ↔ EventStands Operation k log
  pub limit : (k : ℕ) → EventStands Limit k new ↔ EventStands Limit k log
  pub questionable : (k : ℕ) → k ≢ 9 → EventStands Questionable k new ↔ EventStands Questionable k log
  pub standard : (k : ℕ) → Stands k new ↔ Stands k log
  pub enables : (standard_enable new ≡ standard_enable log) × (service new ≡ service log)
  pub waits : Waits new ↔ Waits log
  pub queue : queue_acts new ≡ queue_acts log
  pub scanner : scan_acts new ≡ scan_acts log
  pub response : SameResponse new log

-- Where STATus:PRESet is performed, the new log is preset (`IsPreset`).
abbrev pub PresetLeaves : Type 0
PresetLeaves = (log new : List Act) → Performs (order.Do action.Preset) log new → IsPreset log new

-- SYSTem:ERRor? returns the oldest error of the queue and removes it. It keeps the standard events,
-- the settings, the other events, a pending `*OPC`, the scanner and the response. (A request for
-- service may end.) While fewer than 64 errors are unread, an error that is reported comes last
-- (SCPI-1999, volume 2, 21.8).
abbrev pub ErrorsInOrder : Type 0
ErrorsInOrder = ((log new : List Act) → Performs (order.Ask question.Error) log new → (taken : List Act)
    × (new ≡ after_answering (oldest_text (slice_get (queue_codes (queue_acts log)) 0)) taken)
    × (queue_codes (queue_acts taken) ≡ drop 1 (queue_codes (queue_acts log)))
    × ((k : ℕ) → Stands k taken ↔ Stands k log) × SameElse taken log)
    × ((log : List Act) (code : Code) → length (queue_codes (queue_acts log)) < 64
    → queue_codes (queue_acts (Reported code ∷ log)) ≡ queue_codes (queue_acts log) ++ code ∷ [])

-- A device_clear that is executed brings message exchange to rest, whatever was sent before: no
-- text, no response and no held unit is left. It cancels a pending `*OPC`, and changes no register,
-- no setting and no error (VXI-11 revision 1.0, section B.6; IEEE 488.2, 5.8).
pub record IsDeviceCleared (before after : List Act) : Type 0 where
  pub rest : IsAtRest (exchange_acts after)
  pub held : held_unit after ≡ None
  pub waits : Waits after → ⊥
  pub settings : SameSettings after before
  pub events : (name : RegisterName) (k : ℕ) → EventStands name k after ↔ EventStands name k before
  pub standard : (k : ℕ) → Stands k after ↔ Stands k before
  pub queue : queue_acts after ≡ queue_acts before
  pub scanner : scan_acts after ≡ scan_acts before

-- Where a device_clear is executed, it succeeds, and message exchange starts anew
-- (`IsDeviceCleared`). Links and interrupt channels stay. (Calls that waited go on then: a write is
-- accepted, a read fails.)
abbrev pub ClearRests : Type 0
ClearRests = (config : Config) (polled c lid flags lock_timeout io_timeout : ℕ) (acts : List DeviceAct) (outcome : CallOutcome)
    → outcome ≡ own_call config polled c (OnLink (pos lid) (Generic Clear flags lock_timeout io_timeout)) acts
    → (outcome.result ≡ Some (Plain NoError)) × IsDeviceCleared (instrument_acts acts) (instrument_acts (outcome.adds ++ acts))
    × SameLinks (outcome.adds ++ acts) acts
