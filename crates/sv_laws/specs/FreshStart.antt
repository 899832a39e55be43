-- The state after device_clear, `*RST` and `*CLS`. Only enables and filters depend on what happened
-- before.
use Rattle.std.specs.Prelude.{◌≡◌, ℕ, pos, ⊤, List, [], ◌++◌, None}
use Rattle.std.specs.List.{AllByRecursion}
use Rattle.sv_vxi.specs.declared.arguments.GenericCall.TheVariants.{Clear}
use Rattle.sv_vxi.specs.Arguments.{OnLink, Generic}
use Rattle.sv_errors.specs.ErrorQueue.{queue_codes}
use Rattle.sv_status.specs.declared.register_name.RegisterName.{RegisterName}
use Rattle.sv_exchange.specs.Exchange.{Accepted, Finished, symbols_of, text, response, answers}
use Rattle.sv_layers.specs.Act.{Act, Exchanged, Scanned, exchange_acts, queue_acts}
use Rattle.sv_layers.specs.Event.{EventStands}
use Rattle.sv_layers.specs.Standard.{Waits, Stands}
use Rattle.sv_layers.specs.StatusByte.{PolledBit}
use Rattle.sv_header.specs.declared.command.Action.TheVariants as action
use Rattle.sv_instrument.specs.declared.command.order.Order.TheVariants as order
use Rattle.sv_instrument.specs.HeldUnit.{held_unit}
use Rattle.sv_instrument.specs.CommandEffect.{Performs}
use Rattle.sv_history.specs.declared.event.Config.{Config}
use Rattle.sv_history.specs.Act.{DeviceAct, instrument_acts}
use Rattle.sv_history.specs.CallOutcome.{CallOutcome}
use Rattle.sv_history.specs.CoreChannel.{own_call}
use Rattle.sv_laws.specs.Conformance.{SameSettings, HasDefaults}

-- Bytes of a write are accepted, or a message is finished.
abbrev pub IsText : Act → Type 0
IsText = elim [ Exchanged (Accepted bytes ended) ↦ ⊤ | Exchanged Finished ↦ ⊤ | _ ↦ ⊥ ]

-- Bytes of a write are accepted, or a message is finished, or the scanner does something: a
-- measurement may be under way.
abbrev pub IsTextOrScan : Act → Type 0
IsTextOrScan = elim [ Exchanged (Accepted bytes ended) ↦ ⊤ | Exchanged Finished ↦ ⊤ | Scanned act ↦ ⊤ | _ ↦ ⊥ ]

-- The scanner has its default settings and is idle. No event, no error and no pending `*OPC` is
-- left, and a poll returns 0. There is no response, no answer and no held unit; the program text is
-- what was sent. Only the enables and filters are those of the log `before`.
pub record IsFresh (before sent new : List Act) : Type 0 where
  pub defaults : HasDefaults new
  pub events : (name : RegisterName) (k : ℕ) → EventStands name k new → ⊥
  pub standard : (k : ℕ) → Stands k new → ⊥
  pub status : (k : ℕ) → PolledBit k new → ⊥
  pub queue : queue_codes (queue_acts new) ≡ []
  pub waits : Waits new → ⊥
  pub held : held_unit new ≡ None
  pub text_is : text (exchange_acts new) ≡ symbols_of (exchange_acts sent)
  pub none_left : (response (exchange_acts new) ≡ []) × (answers (exchange_acts new) ≡ [])
  pub settings : SameSettings new before

-- A device_clear is executed; then `*RST` is performed; then `*CLS`. Before `*RST` only text comes,
-- and the scanner may act (`first`); between `*RST` and `*CLS` only text comes (`second`). Then the
-- driver finds a fresh instrument.
abbrev pub FreshStart : Type 0
FreshStart = (config : Config) (polled c lid flags lock_timeout io_timeout : ℕ) (acts : List DeviceAct) (outcome : CallOutcome)
    (first second reset new : List Act)
    → outcome ≡ own_call config polled c (OnLink (pos lid) (Generic Clear flags lock_timeout io_timeout)) acts
    → AllByRecursion IsTextOrScan first → Performs (order.Do action.Reset) (first ++ instrument_acts (outcome.adds ++ acts)) reset
    → AllByRecursion IsText second → Performs (order.Do action.ClearStatus) (second ++ reset) new
    → IsFresh (instrument_acts acts) (second ++ first) new
