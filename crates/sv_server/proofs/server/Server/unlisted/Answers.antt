use Rattle.sv_layers.specs.Act.{scan_acts}
use Rattle.sv_history.specs.Act.{device_acts, instrument_acts}
use Rattle.sv_server.proofs.server.Server.unlisted.Goals as goal

pub returns : goal.returns
returns g c = λ config log rep.
    let held = rw (← c.self.view_is) at rep in
    let acts = device_acts log in
    let instrument = instrument_acts acts in
    let stands = c.instrument-instrument.ensures config acts held.device in
    let layered = c.layers.ensures instrument stands in
    let scanner = c.scanner-scanner.ensures.stands instrument layered.stands in
    record {
      lock = c.lock_holder.ensures config acts held.device;
      settings = c.settings_shown.ensures (scan_acts instrument) scanner;
      measurement = c.measurement_shown.ensures (scan_acts instrument) scanner;
      message = c.message_shown.ensures instrument stands;
      statuses = c.statuses_shown.ensures config log rep;
    }
