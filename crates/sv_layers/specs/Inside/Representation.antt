-- The state of the instrument's layers, and when this state stands for a log of the instrument.
use Rattle.std.specs.Prelude.{◌≡◌, ◌↔◌, ℕ, ◌+◌, min, Bool, true, List, [], ◌∷◌, length}
use Rattle.sv_errors.specs.ErrorQueue.{entries, Queue, StandsFor as Queues}
use Rattle.sv_status.specs.declared.register_name.RegisterName.{RegisterName}
use Rattle.sv_status.specs.declared.register_name.RegisterName.TheVariants.{Operation, Questionable, Limit}
use Rattle.sv_status.specs.Register.{Latches as RegisterLatches, Summary, StandsFor as Registers}
use Rattle.sv_status.specs.StandardEvent.{Latches as StandardLatches, Summary as StandardSummary, StandsFor as Standards}
use Rattle.sv_status.specs.declared.status_byte.StatusAct.{StatusAct}
use Rattle.sv_status.specs.declared.status_byte.StatusAct.TheVariants.{Update, Poll}
use Rattle.sv_status.specs.StatusByte.{Latches as StatusLatches, IsRaised as IsRaisedAsTold, StandsFor as Statuses}
use Rattle.sv_scan.specs.declared.setting.State.{State}
use Rattle.sv_scan.specs.Condition.{bit}
use Rattle.sv_scan.specs.Representation.{run_state}
use Rattle.sv_scan.specs.Stands.{Contents as ScanContents, StandsFor as Scans}
use Rattle.sv_exchange.specs.Exchange.{response, is_something}
use Rattle.sv_exchange.specs.Contents.{Contents, StandsFor as Exchanges}
use Rattle.sv_layers.specs.Act.{Act, Polled}
use Rattle.sv_layers.specs.Filter.{start}
use Rattle.sv_layers.specs.StatusByte.{IsRaised}
use Rattle.sv_layers.specs.Inside.LayerLogs.{LayerLogs, after_begin, layer_logs}

-- the latches of the three status registers, one field for each register
pub record ByName : Type 0 where
  pub operation : RegisterLatches
  pub questionable : RegisterLatches
  pub limit : RegisterLatches

abbrev pub latches_of : RegisterName → ByName → RegisterLatches
latches_of Operation all = all.operation
latches_of Questionable all = all.questionable
latches_of Limit all = all.limit

pub record LayerState : Type 0 where
  pub exchange : Contents
  pub errors : Queue
  pub registers : ByName
  pub standard : StandardLatches
  pub status : StatusLatches
  pub scanner : ScanContents
  pub service : ℕ
  pub waits : Bool
  pub requests : ℕ

-- The summary bits that are set in the status byte `word` are exactly those that these logs of the
-- layers require.
pub record IsSummary (word : ℕ) (at : LayerLogs) : Type 0 where
  pub operates : Bool
  pub happened : Bool
  pub questioned : Bool
  pub operation : (operates ≡ true) ↔ Summary (start Operation) (at.registers Operation)
  pub standard : (happened ≡ true) ↔ StandardSummary at.standard
  pub questionable : (questioned ≡ true) ↔ Summary (start Questionable) (at.registers Questionable)
  pub word_is : word ≡ bit 7 operates + bit 5 happened + bit 4 (is_something (response at.exchange)) + bit 3 questioned
      + bit 2 (is_something (entries at.errors))

-- the acts of the status byte, with a poll in front if this act of the instrument is a poll
abbrev pub own_status : Act → List StatusAct → List StatusAct
own_status Polled acts = Poll ∷ acts
own_status _ acts = acts

-- `acts` are the acts of the status byte that a log of the instrument determines. Each act of the
-- instrument updates the summary bits and the service request enable in the status byte. If the
-- instrument's act is a poll, the status byte is polled before this update.
abbrev pub IsStatus : List Act → List StatusAct → Type 0
IsStatus [] acts = acts ≡ []
IsStatus (act ∷ log) acts = (word : ℕ) × (before : List StatusAct) × IsSummary word (layer_logs (act ∷ log)) × IsStatus log before
    × (acts ≡ Update word (layer_logs (act ∷ log)).service ∷ own_status act before)

-- The newest act of the instrument raises a request for service, according to the status byte's own
-- acts.
abbrev pub RaisedAt : List Act → Type 0
RaisedAt log = (acts : List StatusAct) × IsStatus log acts × IsRaisedAsTold acts

-- The state of each layer stands for the layer's own log, and the state of the status byte stands
-- for `status_log`.
pub record Represents (layered : LayerState) (at : LayerLogs) (status_log : List StatusAct) : Type 0 where
  pub exchange : Exchanges layered.exchange at.exchange
  pub errors : Queues layered.errors at.errors
  pub registers : (name : RegisterName) → Registers (start name) (latches_of name layered.registers) (at.registers name)
  pub standard : Standards layered.standard at.standard
  pub status : Statuses layered.status status_log
  pub scanner : Scans layered.scanner at.scanner
  pub service : layered.service ≡ at.service
  pub waits : layered.waits ≡ at.waits

-- The state of the layers stands for the instrument's log.
pub record StandsFor (layered : LayerState) (log : List Act) : Type 0 where
  pub status_log : List StatusAct
  pub are : IsStatus log status_log
  pub joined : Represents layered (layer_logs log) status_log

-- The state of the layers is the one after the first part of `act`, the act that follows `log`. The
-- act has changed its own layer and, if it is a poll, has polled the status byte. It hasn't changed
-- the other layers yet.
pub record Begun (layered : LayerState) (act : Act) (log : List Act) : Type 0 where
  pub status_log : List StatusAct
  pub are : IsStatus log status_log
  pub joined : Represents layered (after_begin act (layer_logs log)) (own_status act status_log)

-- The state of the layers stands for the log, and the counter of requests for service in `layered`
-- is 0, because it was read.
pub record AllRead (layered : LayerState) (log : List Act) : Type 0 where
  pub stands : StandsFor layered log
  pub none : layered.requests ≡ 0

-- the number at which the layers' counter of requests for service stops counting
abbrev pub max_count : ℕ
max_count = 255

-- The state of the layers stands for the log. The layers' counter of requests for service had the
-- value `before` when the newest act came. If the newest act raised a request, the counter is now
-- one higher, but at most `max_count`.
pub record IsApplied (before : ℕ) (layered : LayerState) (log : List Act) : Type 0 where
  pub stands : StandsFor layered log
  pub raised : Bool
  pub requests : (raised ≡ true) ↔ IsRaised log
  pub count : layered.requests ≡ min (before + bit 0 raised) max_count

-- the state of the scanner's trigger system, computed from the state of the layers
abbrev pub state_by : LayerState → State
state_by layered = run_state layered.scanner.run (length layered.scanner.readings)
