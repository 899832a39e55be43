use Rattle.sv_history.specs.Act.{device_acts, instrument_acts}
use Rattle.sv_server.proofs.server.Server.statuses_shown.Goals as goal

pub returns : goal.returns
returns g c = λ config log rep.
    let held = rw (← c.self.view_is) at rep in
    let instrument = instrument_acts (device_acts log) in
    let layered = c.layers-layers.ensures instrument (c.instrument.ensures config (device_acts log) held.device) in
    record {
      limit = c.register_shown.ensures instrument layered;
      questionable = c.register_shown-2.ensures instrument layered;
      operation = c.register_shown-3.ensures instrument layered;
      standard = c.status_shown.ensures instrument layered;
    }
