-- Laws of the layers. Each law is about one part of the instrument's state. It says that the value
-- which follows from the layers' own logs (`layer_logs`, in Inside/LayerLogs.antt) is the value
-- that the definitions in this folder find in the instrument's log.
use Rattle.std.specs.Prelude.{◌≡◌, ◌↔◌, ℕ, Bool, true, List, ◌∷◌}
use Rattle.std.specs.Int.{bit_at}
use Rattle.sv_status.specs.declared.register_name.RegisterName.{RegisterName}
use Rattle.sv_status.specs.declared.standard_event.StandardAct.TheVariants.{Occur}
use Rattle.sv_status.specs.declared.status_byte.StatusAct.{StatusAct}
use Rattle.sv_status.specs.Register as register
use Rattle.sv_status.specs.StandardEvent as standard
use Rattle.sv_status.specs.StatusByte as status
use Rattle.sv_scan.specs.Condition.{bit}
use Rattle.sv_layers.specs.Act.{Act, exchange_acts, queue_acts, scan_acts}
use Rattle.sv_layers.specs.Condition.{condition}
use Rattle.sv_layers.specs.Filter.{start, rise, fall, enable}
use Rattle.sv_layers.specs.Event.{EventStands}
use Rattle.sv_layers.specs.Standard.{Waits, Completes, Stands, enable as standard_enable}
use Rattle.sv_layers.specs.StatusByte.{service, SummaryBit, Request, IsRaised, PolledBit, MasterBit}
use Rattle.sv_layers.specs.Inside.LayerLogs.{layer_logs, after_begin, after_complete, register_acts}
use Rattle.sv_layers.specs.Inside.Representation.{IsSummary, IsStatus, RaisedAt}

-- The log of the layer of message exchange has exactly those acts of the instrument's log that are
-- acts of message exchange. The same holds for the error queue and for the scanner. The service
-- request enable in the layers' logs is the one that was set last.
abbrev pub OwnActs : Type 0
OwnActs = (log : List Act) → ((layer_logs log).exchange ≡ exchange_acts log) × ((layer_logs log).errors ≡ queue_acts log)
    × ((layer_logs log).scanner ≡ scan_acts log) × ((layer_logs log).service ≡ service log)

-- A register's own log and the instrument's log give the register the same condition, filters and
-- enable.
abbrev pub SameWords : Type 0
SameWords = (name : RegisterName) (log : List Act) → (register.condition (register_acts name (layer_logs log)) ≡ condition name log)
    × (register.rise (register_acts name (layer_logs log)) ≡ rise name log)
    × (register.fall (register_acts name (layer_logs log)) ≡ fall name log)
    × (register.enable (start name) (register_acts name (layer_logs log)) ≡ enable name log)

-- The log of the standard events and the instrument's log give the standard events the same enable
-- mask.
abbrev pub SameEnable : Type 0
SameEnable = (log : List Act) → standard.enable (layer_logs log).standard ≡ standard_enable log

-- A register's own log and the instrument's log agree on which bits of its event register are set.
abbrev pub SameEvents : Type 0
SameEvents = (name : RegisterName) (k : ℕ) (log : List Act)
    → register.EventStands k (register_acts name (layer_logs log)) ↔ EventStands name k log

-- The layers' logs and the instrument's log agree on whether an `*OPC` is pending.
abbrev pub SameWaiting : Type 0
SameWaiting = (log : List Act) → ((layer_logs log).waits ≡ true) ↔ Waits log

-- The layers' logs and the instrument's log agree on whether an `*OPC` completes at an act. In the
-- layers' logs it completes if the event of bit 0 (operation complete) occurs at the act.
abbrev pub SameCompletion : Type 0
SameCompletion = (act : Act) (before : List Act) → (completes : Bool)
    × ((after_complete (after_begin act (layer_logs before))).standard ≡ Occur (bit 0 completes)
    ∷ (after_begin act (layer_logs before)).standard)
    × ((completes ≡ true) ↔ Completes (act ∷ before))

-- The log of the standard events and the instrument's log agree on which standard event bits are
-- set.
abbrev pub SameStandardEvents : Type 0
SameStandardEvents = (k : ℕ) (log : List Act) → standard.Stands k (layer_logs log).standard ↔ Stands k log

-- The layers' logs and the instrument's log agree on which summary bits of the status byte are set.
abbrev pub SameSummaries : Type 0
SameSummaries = (word : ℕ) (log : List Act) → IsSummary word (layer_logs log) → (k : ℕ) → (bit_at word k ≡ 1) ↔ SummaryBit k log

-- Each log of the instrument determines exactly one list of acts of the status byte.
abbrev pub OneAccount : Type 0
OneAccount = (log : List Act) → (status_log : List StatusAct) × IsStatus log status_log
    × ((other : List StatusAct) → IsStatus log other → other ≡ status_log)

-- The status byte's own acts and the instrument's log agree on whether a request for service is
-- pending.
abbrev pub SameRequests : Type 0
SameRequests = (log : List Act) (status_log : List StatusAct) → IsStatus log status_log → status.Request status_log ↔ Request log

-- The status byte's own acts and the instrument's log agree on whether the newest act raises a
-- request for service.
abbrev pub SameRaising : Type 0
SameRaising = (log : List Act) → RaisedAt log ↔ IsRaised log

-- The status byte's own acts and the instrument's log agree on the bits of the status byte that a
-- poll returns, and on the bits that `*STB?` returns.
abbrev pub SameStatus : Type 0
SameStatus = (log : List Act) (status_log : List StatusAct) → IsStatus log status_log → (k : ℕ)
    → (status.StatusBit k status_log ↔ PolledBit k log) × (status.MasterBit k status_log ↔ MasterBit k log)
