use Rattle.std.proofs.Common.{subst, sym}
use Rattle.sv_layers.specs.Act.{scan_acts}
use Rattle.sv_history.specs.Act.{device_acts, instrument_acts}
use Rattle.sv_explain.specs.declared.shown.ScannerShown.{ScannerShown}
use Rattle.sv_explain.specs.Shown.{IsScanner}
use Rattle.sv_server.proofs.server.Server.tell_scanner.Goals as goal

pub returns : goal.returns
returns g c = λ config log rep.
    let held = rw (← c.self.view_is) at rep in
    let instrument = instrument_acts (device_acts log) in
    let stands = c.instrument.ensures config (device_acts log) held.device in
    let scanner = c.scanner-scanner.ensures.stands instrument (c.layers.ensures instrument stands).stands in (
      subst (λ (shown : ScannerShown). IsScanner shown instrument) (sym c.update.ensures.value) (record {
        settings = c.settings_shown-settings.ensures (scan_acts instrument) scanner;
        list = c.list_channels.ensures (scan_acts instrument) scanner;
        measurement = c.measurement_shown-measurement.ensures (scan_acts instrument) scanner;
      }),
      c.update.ensures.lines,
    )
