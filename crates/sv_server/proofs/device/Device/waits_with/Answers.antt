use Rattle.std.proofs.Common.{◌∙◌}
use Rattle.sv_history.specs.Act.{wait_acts}
use Rattle.sv_server.proofs.OnDevice.Granted.{entry_names_waiting_link}
use Rattle.sv_server.proofs.device.Device.waits_with.Goals as goal

pub returns-in-Some : goal.returns-in-Some
returns-in-Some g c = λ config acts old.
    let is = rw (← c.self.view_is) at old in
    let told = c.in-Some.ensures (wait_acts acts) is.4 in
    c.is_this.ensures ∙ entry_names_waiting_link c.args.conn c.args.lid c.in-Some.entry acts told.0 told.1
