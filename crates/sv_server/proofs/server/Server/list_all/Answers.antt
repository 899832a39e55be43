use Rattle.sv_layers.specs.Act.{queue_acts, scan_acts}
use Rattle.sv_history.specs.Act.{device_acts, instrument_acts}
use Rattle.sv_server.proofs.server.Server.list_all.Goals as goal

pub returns : goal.returns
returns g c = λ config log rep unlisted.
    let held = rw (← c.self.view_is) at rep in
    let acts = device_acts log in
    let instrument = instrument_acts acts in
    let layered = c.layers-layers.ensures instrument (c.instrument.ensures config acts held.device) in
    let scanner = c.scanner.ensures.stands instrument layered.stands in
    let queue = c.errors.ensures instrument layered.stands in
    record {
      conns = c.list_conns.ensures config log rep;
      links = record {
        links = c.list_links.ensures config acts held.device;
        lock = unlisted.lock;
        asking = λ channel_log tells. c.list_asking_links.ensures config acts channel_log held.device tells;
      };
      scanner = record {
        settings = unlisted.settings;
        list = c.list_channels.ensures (scan_acts instrument) scanner;
        measurement = unlisted.measurement;
      };
      exchange = record {
        message = unlisted.message;
        errors = c.list_errors.ensures (queue_acts instrument) queue;
      };
      statuses = unlisted.statuses;
    }
