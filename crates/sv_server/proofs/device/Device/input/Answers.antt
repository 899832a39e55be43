use Rattle.std.proofs.Common.{rules, [], ◌∷◌}
use Rattle.sv_history.specs.Act.{instrument_acts}
use Rattle.sv_server.proofs.OnDevice.Raising.{device_ran}
use Rattle.sv_scan.specs.declared.acts.ScanAct.TheVariants.{Input}
use Rattle.sv_layers.specs.Act.{Scanned}
use Rattle.sv_instrument.specs.Representation.{Ran}
use Rattle.sv_server.proofs.device.Device.input.Goals as goal

pub returns-clause-stands : goal.returns-clause-stands
returns-clause-stands g c = λ config acts old.
    let is = rw (← c.self.view_is) at old in
    let log = instrument_acts acts in
    let ran : Ran c.input-raised.new.self c.input-raised.result log (Scanned (Input c.args.channel c.args.microvolts) ∷ log) =
    search (rules, c.input-raised.ensures log is.1) in
    device_ran _ c.input-raised.new.self _ config acts (Scanned (Input c.args.channel c.args.microvolts) ∷ []) c.input-raised.result is ran
    c.raise.ensures.stands
