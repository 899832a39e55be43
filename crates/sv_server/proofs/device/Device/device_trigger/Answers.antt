use Rattle.std.proofs.Common.{sym}
use Rattle.sv_history.specs.Act.{instrument_acts}
use Rattle.sv_server.proofs.OnDevice.Raising.{device_ran}
use Rattle.sv_instrument.specs.Stimulus.{trigger_acts}
use Rattle.sv_server.proofs.device.Device.device_trigger.Goals as goal

pub returns-clause-ends : goal.returns-clause-ends
returns-clause-ends g c = λ config acts old.
    let is = rw (← c.self.view_is) at old in (
      sym c.plain.ensures,
      device_ran _ c.trigger-raised.new.self _ config acts (trigger_acts (instrument_acts acts)) c.trigger-raised.result is
          (c.trigger-raised.ensures (instrument_acts acts) is.1) c.raise.ensures.stands,
    )
