-- The scanner's log holds exactly those acts of the instrument's log that are acts of the scanner;
-- the same for the error queue and for message exchange.
use Rattle.std.proofs.Common.{◌≡◌, List, [], ◌∷◌, refl, ap}
use Rattle.sv_errors.specs.declared.error_queue.QueueAct.{QueueAct}
use Rattle.sv_errors.specs.declared.error_queue.QueueAct.TheVariants as queue
use Rattle.sv_status.specs.declared.register_name.RegisterName.{RegisterName}
use Rattle.sv_status.specs.declared.register.RegisterAct.{RegisterAct}
use Rattle.sv_scan.specs.declared.acts.ScanAct.{ScanAct}
use Rattle.sv_exchange.specs.Exchange.{ExchangeAct, TextDropped, Interrupted}
use Rattle.sv_layers.specs.declared.change.StatusChange.TheVariants.{EnableService}
use Rattle.sv_layers.specs.Act.{Act, Exchanged, Purged, Scanned, Reported, EntryTaken, Cleared, exchange_acts, queue_acts, scan_acts, StatusChanged}
use Rattle.sv_layers.specs.StatusByte.{service}
use Rattle.sv_layers.specs.Inside.LayerLogs.{LayerLogs, after_begin, register_acts, layer_logs}
use Rattle.sv_layers.specs.Laws.{OwnActs}

-- The logs of these layers are their acts of the instrument's log.
abbrev Projects : LayerLogs → List Act → Type 0
Projects at log = (at.exchange ≡ exchange_acts log) × (at.errors ≡ queue_acts log) × (at.scanner ≡ scan_acts log)
    × (at.service ≡ service log)

-- The first part of an act updates the logs of these layers, and no register's log.
abbrev Begins : Act → List Act → LayerLogs → Type 0
Begins act log at = Projects at log → Projects (after_begin act at) (act ∷ log)
    × ((after_begin act at).registers ≡ at.registers)

begins : (act : Act) (log : List Act) (at : LayerLogs) → Begins act log at
begins (Exchanged act) log at h = ((ap (λ (acts : List ExchangeAct). act ∷ acts) h.0, h.1, h.2, h.3), refl)
begins Purged log at h = ((ap (λ (acts : List ExchangeAct). Interrupted ∷ TextDropped ∷ acts) h.0, h.1, h.2, h.3), refl)
begins (Scanned act) log at h = ((h.0, h.1, ap (λ (acts : List ScanAct). act ∷ acts) h.2, h.3), refl)
begins (Reported code) log at h = ((h.0, ap (λ (acts : List QueueAct). queue.Report code ∷ acts) h.1, h.2, h.3), refl)
begins EntryTaken log at h = ((h.0, ap (λ (acts : List QueueAct). queue.Take ∷ acts) h.1, h.2, h.3), refl)
begins Cleared log at h = ((h.0, ap (λ (acts : List QueueAct). queue.Clear ∷ acts) h.1, h.2, h.3), refl)
begins (StatusChanged (EnableService mask)) log at h = ((h.0, h.1, h.2, refl), refl)
begins _ log at h = (h, refl)

pub projected : OwnActs
projected [] = (refl, refl, refl, refl)
projected (act ∷ log) = (begins act log (layer_logs log) (projected log)).0

-- After the first part of an act the scanner's log is complete, and each register's log is
-- unchanged.
pub begun_scanner : (act : Act) (log : List Act) → (after_begin act (layer_logs log)).scanner ≡ scan_acts (act ∷ log)
begun_scanner act log = (begins act log (layer_logs log) (projected log)).0.2

pub begun_register : (name : RegisterName) (act : Act) (log : List Act)
    → register_acts name (after_begin act (layer_logs log)) ≡ register_acts name (layer_logs log)
begun_register name act log = ap (λ (at : RegisterName → List RegisterAct). at name) (begins act log (layer_logs log) (projected log)).1
