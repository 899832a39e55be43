-- An act of message exchange begins: this layer has changed, the other layers haven't yet.
use Rattle.std.proofs.Common.{List, ◌∷◌}
use Rattle.sv_exchange.specs.Exchange.{ExchangeAct}
use Rattle.sv_exchange.specs.Contents.{Contents, StandsFor as Exchanges}
use Rattle.sv_layers.specs.Act.{Act, Exchanged}
use Rattle.sv_layers.specs.Inside.LayerLogs.{layer_logs}
use Rattle.sv_layers.specs.Inside.Representation.{LayerState, StandsFor, Begun}

pub exchange_act_begun : {log : List Act} {layered : LayerState} {new : Contents} {act : ExchangeAct} → StandsFor layered log
    → Exchanges new (act ∷ (layer_logs log).exchange) → Begun (record layered { exchange = new }) (Exchanged act) log
exchange_act_begun h stands = record {
  status_log = h.status_log;
  are = h.are;
  joined = record {
    exchange = stands;
    errors = h.joined.errors;
    registers = h.joined.registers;
    standard = h.joined.standard;
    status = h.joined.status;
    scanner = h.joined.scanner;
    service = h.joined.service;
    waits = h.joined.waits;
  };
}
