-- In a state that stands for a log, each layer stands for its own acts of the log.
use Rattle.std.proofs.Common.{List, subst}
use Rattle.sv_errors.specs.declared.error_queue.QueueAct.{QueueAct}
use Rattle.sv_errors.specs.ErrorQueue.{StandsFor as Queues}
use Rattle.sv_scan.specs.declared.acts.ScanAct.{ScanAct}
use Rattle.sv_scan.specs.Stands.{StandsFor as Scans}
use Rattle.sv_exchange.specs.Exchange.{ExchangeAct}
use Rattle.sv_exchange.specs.Contents.{StandsFor as Exchanges}
use Rattle.sv_layers.specs.Act.{Act, exchange_acts, queue_acts, scan_acts}
use Rattle.sv_layers.specs.Inside.Representation.{LayerState, StandsFor}
use Rattle.sv_layers.proofs.Projected.{projected}

pub exchange_stands : (layered : LayerState) (log : List Act) → StandsFor layered log → Exchanges layered.exchange (exchange_acts log)
exchange_stands layered log s = subst (λ (acts : List ExchangeAct). Exchanges layered.exchange acts) (projected log).0 s.joined.exchange

pub errors_stand : (layered : LayerState) (log : List Act) → StandsFor layered log → Queues layered.errors (queue_acts log)
errors_stand layered log s = subst (λ (acts : List QueueAct). Queues layered.errors acts) (projected log).1 s.joined.errors

pub scanner_stands : (layered : LayerState) (log : List Act) → StandsFor layered log → Scans layered.scanner (scan_acts log)
scanner_stands layered log s = subst (λ (acts : List ScanAct). Scans layered.scanner acts) (projected log).2 s.joined.scanner
