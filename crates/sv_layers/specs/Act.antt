-- The acts of the instrument; and which of them are acts of message exchange, of the error queue,
-- or of the scanner. In lists of acts the newest act comes first.
use Rattle.std.specs.Prelude.{ℕ, List, [], ◌∷◌, Some, None}
use Rattle.std.specs.List.{filter_map}
use Rattle.sv_errors.specs.declared.code.Code.{Code}
use Rattle.sv_errors.specs.declared.error_queue.QueueAct.{QueueAct}
use Rattle.sv_errors.specs.declared.error_queue.QueueAct.TheVariants as queue
use Rattle.sv_scan.specs.declared.acts.ScanAct.{ScanAct}
use Rattle.sv_layers.specs.declared.change.Awaited.{Awaited}
use Rattle.sv_layers.specs.declared.change.StatusChange.{StatusChange}
use Rattle.sv_exchange.specs.Exchange.{ExchangeAct, TextDropped, Interrupted}

-- an act of the instrument
pub data Act : Type 0 where
  -- the acts of message exchange (program text and responses), and a device clear, which drops all
  -- text and responses
  Exchanged : (act : ExchangeAct) → Act
  Purged : Act
  -- an act of the scanner: its inputs, settings and trigger system
  Scanned : (act : ScanAct) → Act
  -- a unit began, but it can end only when no measurement is under way; `awaited` is what the unit
  -- will answer then
  Held : (awaited : Awaited) → Act
  -- the acts of the error queue: an error is added to the queue, or the queue's oldest error is
  -- removed
  Reported : (code : Code) → Act
  EntryTaken : Act
  -- the acts of the status registers and of the status byte
  Cleared : Act
  Preset : Act
  OpcAsked : Act
  StatusChanged : (change : StatusChange) → Act
  Polled : Act

-- the acts of message exchange in the instrument's log. A device clear counts as two of these acts:
-- the text is dropped, then the response is interrupted.
abbrev pub exchange_acts : List Act → List ExchangeAct
exchange_acts [] = []
exchange_acts (Exchanged act ∷ log) = act ∷ exchange_acts log
exchange_acts (Purged ∷ log) = Interrupted ∷ TextDropped ∷ exchange_acts log
exchange_acts (_ ∷ log) = exchange_acts log

-- the acts of the scanner in the instrument's log
abbrev pub scan_acts : List Act → List ScanAct
scan_acts = filter_map (elim [ Scanned act ↦ Some act | _ ↦ None ])

-- the acts of the error queue in the instrument's log
abbrev pub queue_acts : List Act → List QueueAct
queue_acts [] = []
queue_acts (Reported code ∷ log) = queue.Report code ∷ queue_acts log
queue_acts (EntryTaken ∷ log) = queue.Take ∷ queue_acts log
queue_acts (Cleared ∷ log) = queue.Clear ∷ queue_acts log
queue_acts (_ ∷ log) = queue_acts log
