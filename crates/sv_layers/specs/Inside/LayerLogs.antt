-- How the instrument's acts determine the log of each layer. An act first changes its own layer.
-- Then each status register is updated: it gets its new condition, whose transitions pass the
-- filters as they were before the act; then the act itself changes the register, if it is an act on
-- this register. A nested register is updated before the register above it, whose condition
-- contains the summary of the nested register.
use Rattle.std.specs.Prelude.{◌≡◌, ℕ, Bool, true, false, not, ◌&&◌, List, [], ◌∷◌, if◌then◌else◌}
use Rattle.sv_errors.specs.Code.{standard_event_of}
use Rattle.sv_errors.specs.ErrorQueue.{is_full}
use Rattle.sv_errors.specs.declared.code.Code.{Code}
use Rattle.sv_errors.specs.declared.error_queue.QueueAct.{QueueAct}
use Rattle.sv_errors.specs.declared.error_queue.QueueAct.TheVariants as queue
use Rattle.sv_status.specs.declared.register_name.RegisterName.{RegisterName}
use Rattle.sv_status.specs.declared.register.RegisterAct.{RegisterAct}
use Rattle.sv_status.specs.declared.register.RegisterAct.TheVariants as register
use Rattle.sv_status.specs.declared.standard_event.StandardAct.{StandardAct}
use Rattle.sv_status.specs.declared.standard_event.StandardAct.TheVariants as standard
use Rattle.sv_status.specs.Register.{rise, fall}
use Rattle.sv_scan.specs.declared.acts.ScanAct.{ScanAct}
use Rattle.sv_scan.specs.declared.acts.ScanAct.TheVariants as scan
use Rattle.sv_scan.specs.Scan.{state}
use Rattle.sv_scan.specs.Counted.{effective, is_idle}
use Rattle.sv_scan.specs.Condition.{bit}
use Rattle.sv_exchange.specs.Exchange.{ExchangeAct, TextDropped, Interrupted}
use Rattle.sv_layers.specs.declared.change.StatusChange.TheVariants.{ReadStandard, EnableStandard, EnableService, Register}
use Rattle.sv_layers.specs.Act.{Act, Exchanged, Purged, Scanned, Reported, EntryTaken, Cleared, Preset, OpcAsked, StatusChanged}
use Rattle.sv_layers.specs.declared.change.RegisterChange.{RegisterChange}
use Rattle.sv_layers.specs.declared.change.RegisterChange.TheVariants.{ReadEvents, Enable, SetRise, SetFall}
use Rattle.sv_layers.specs.Filter.{is_same}
use Rattle.sv_layers.specs.Condition.{condition}

pub record LayerLogs : Type 0 where
  pub exchange : List ExchangeAct
  pub errors : List QueueAct
  pub registers : RegisterName → List RegisterAct
  pub standard : List StandardAct
  pub scanner : List ScanAct
  pub service : ℕ
  pub waits : Bool

abbrev pub resets : ScanAct → Bool
resets scan.Reset = true
resets _ = false

-- the log of the standard events after an error is reported: the event of the error's class occurs;
-- if the error queue overflows, the event of bit 3 also occurs
abbrev pub report_bits : Code → Bool → List StandardAct → List StandardAct
report_bits code overflow acts = standard.Occur (bit 3 overflow) ∷ standard.Occur (standard_event_of code) ∷ acts

-- the logs of the layers after the first part of an act, in which the act changes its own layer
abbrev pub after_begin : Act → LayerLogs → LayerLogs
after_begin (Exchanged act) at = record at { exchange = act ∷ at.exchange }
after_begin Purged at = record at { exchange = Interrupted ∷ TextDropped ∷ at.exchange; waits = false }
after_begin (Scanned act) at = record at { scanner = act ∷ at.scanner; waits = at.waits && not (resets act) }
after_begin (Reported code) at = record at {
  errors = queue.Report code ∷ at.errors;
  standard = report_bits code (is_full at.errors) at.standard;
}
after_begin EntryTaken at = record at { errors = queue.Take ∷ at.errors }
after_begin Cleared at = record at { errors = queue.Clear ∷ at.errors; waits = false }
after_begin OpcAsked at = record at { waits = true }
after_begin (StatusChanged (EnableService mask)) at = record at { service = mask }
after_begin _ at = at

-- whether no measurement is under way
abbrev pub idles : LayerLogs → Bool
idles at = is_idle (state (effective at.scanner))

-- the logs of the layers after the part of an act that checks whether an `*OPC` is pending: a
-- pending `*OPC` completes if no measurement is under way
abbrev pub after_complete : LayerLogs → LayerLogs
after_complete at = record at {
  standard = standard.Occur (bit 0 (at.waits && idles at)) ∷ at.standard;
  waits = at.waits && not (idles at);
}

-- the acts of a register, with `act` in front if `name` and `other` are the same register
abbrev pub where_same : RegisterName → RegisterName → RegisterAct → List RegisterAct → List RegisterAct
where_same name other act acts = if is_same name other then act ∷ acts else acts

-- the act of a register that changes it so, if these are its acts so far
abbrev pub register_act : RegisterChange → List RegisterAct → RegisterAct
register_act ReadEvents acts = register.ReadEvent
register_act (Enable mask) acts = register.SetEnable mask
register_act (SetRise mask) acts = register.SetFilter mask (fall acts)
register_act (SetFall mask) acts = register.SetFilter (rise acts) mask

-- the acts of a register, with one more act in front if the instrument's act changes this register
-- directly: it sets, presets, clears or reads the register. A change of the register's condition
-- isn't direct.
abbrev pub own : RegisterName → Act → List RegisterAct → List RegisterAct
own name Cleared acts = register.Clear ∷ acts
own name Preset acts = register.Preset ∷ acts
own name (StatusChanged (Register other change)) acts = where_same name other (register_act change acts) acts
own name _ acts = acts

-- the acts of the standard events, with one more act in front if the instrument's act clears or
-- reads the standard events or sets their enable
abbrev pub own_standard : Act → List StandardAct → List StandardAct
own_standard Cleared acts = standard.Clear ∷ acts
own_standard (StatusChanged ReadStandard) acts = standard.Read ∷ acts
own_standard (StatusChanged (EnableStandard mask)) acts = standard.SetEnable mask ∷ acts
own_standard _ acts = acts

-- The acts `other` and `act` of the instrument have the same direct effect on each register, and on
-- the standard events.
abbrev pub EndsAs : Act → Act → Type 0
EndsAs other act = ((name : RegisterName) (acts : List RegisterAct) → own name other acts ≡ own name act acts)
    × ((acts : List StandardAct) → own_standard other acts ≡ own_standard act acts)

-- the logs of the layers after the last part of an act: a pending `*OPC` is checked; each register
-- gets its new condition; then the act changes registers and standard events directly, if it is an
-- act on them
abbrev pub after_end : Act → List Act → LayerLogs → LayerLogs
after_end act log at = record (after_complete at) {
  registers = λ name. own name act (register.Condition (condition name (act ∷ log)) ∷ at.registers name);
  standard = own_standard act (after_complete at).standard;
}

abbrev pub register_acts : RegisterName → LayerLogs → List RegisterAct
register_acts name at = at.registers name

-- the log of each layer, as the instrument's log determines it
abbrev pub layer_logs : List Act → LayerLogs
layer_logs [] = record {
  exchange = [];
  errors = [];
  registers = λ name. [];
  standard = [];
  scanner = [];
  service = 0;
  waits = false;
}
layer_logs (act ∷ log) = after_end act log (after_begin act (layer_logs log))

-- whether an act changes neither a status register nor the standard events directly
abbrev pub is_plain : Act → Bool
is_plain Cleared = false
is_plain Preset = false
is_plain (StatusChanged ReadStandard) = false
is_plain (StatusChanged (EnableStandard mask)) = false
is_plain (StatusChanged (Register name change)) = false
is_plain _ = true
