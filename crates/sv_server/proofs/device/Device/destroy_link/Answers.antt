use Rattle.std.proofs.Common.{sym}
use Rattle.sv_history.specs.Act.{link_acts}
use Rattle.sv_server.proofs.OnDevice.Parts.{device_destroyed}
use Rattle.sv_server.proofs.device.Device.destroy_link.Goals as goal

pub returns-clause-ends : goal.returns-clause-ends
returns-clause-ends g c = λ config acts old.
    let is = rw (← c.self.view_is) at old in (
      sym c.plain.ensures,
      device_destroyed _ c.destroy.new.self c.disable.new.self config acts c.args.lid is
          (c.destroy.ensures.stands (link_acts acts) is.0) c.destroy.ensures.spare c.disable.ensures.stands c.disable.ensures.ready,
    )
