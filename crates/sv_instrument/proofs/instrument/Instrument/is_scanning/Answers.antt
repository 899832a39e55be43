use Rattle.std.proofs.Common.{◌∙◌, ap}
use Rattle.sv_scan.specs.Counted.{is_scanning}
use Rattle.sv_layers.specs.Act.{scan_acts}
use Rattle.sv_instrument.proofs.instrument.Instrument.is_scanning.Goals as goal

pub returns : goal.returns
returns g c log h =
    let s = rw (← c.self.view_is) at h in
    c.is_scanning.ensures ∙ ap is_scanning (c.state.ensures.answer (scan_acts log) (c.scanner.ensures.stands log s.layers.stands))
