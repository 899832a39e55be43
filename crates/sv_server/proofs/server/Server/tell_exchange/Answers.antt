use Rattle.std.proofs.Common.{subst, sym}
use Rattle.sv_layers.specs.Act.{queue_acts}
use Rattle.sv_history.specs.Act.{device_acts, instrument_acts}
use Rattle.sv_explain.specs.declared.shown.ExchangeShown.{ExchangeShown}
use Rattle.sv_explain.specs.Shown.{IsExchange}
use Rattle.sv_server.proofs.server.Server.tell_exchange.Goals as goal

pub returns : goal.returns
returns g c = λ config log rep.
    let held = rw (← c.self.view_is) at rep in
    let instrument = instrument_acts (device_acts log) in
    let stands = c.instrument-instrument.ensures config (device_acts log) held.device in
    let layered = c.layers.ensures instrument stands in (
      subst (λ (shown : ExchangeShown). IsExchange shown instrument) (sym c.update.ensures.value) (record {
        message = c.message_shown.ensures instrument stands;
        errors = c.list_errors.ensures (queue_acts instrument) (c.errors.ensures instrument layered.stands);
      }),
      c.update.ensures.lines,
    )
