use Rattle.std.proofs.Common.{[], ◌∷◌, sym}
use Rattle.sv_history.specs.Act.{instrument_acts}
use Rattle.sv_server.proofs.OnDevice.Raising.{device_ran}
use Rattle.sv_layers.specs.Act.{Purged}
use Rattle.sv_server.proofs.device.Device.device_clear.Goals as goal

pub returns-clause-ends : goal.returns-clause-ends
returns-clause-ends g c = λ config acts old.
    let is = rw (← c.self.view_is) at old in (
      sym c.plain.ensures,
      device_ran _ c.clear-raised.new.self _ config acts (Purged ∷ []) c.clear-raised.result is
          (c.clear-raised.ensures (instrument_acts acts) is.1) c.raise.ensures.stands,
    )
