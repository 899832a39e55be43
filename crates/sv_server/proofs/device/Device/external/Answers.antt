use Rattle.sv_history.specs.Act.{instrument_acts}
use Rattle.sv_server.proofs.OnDevice.Raising.{device_ran}
use Rattle.sv_instrument.specs.Stimulus.{external_acts}
use Rattle.sv_server.proofs.device.Device.external.Goals as goal

pub returns-clause-stands : goal.returns-clause-stands
returns-clause-stands g c = λ config acts old.
    let is = rw (← c.self.view_is) at old in
    device_ran _ c.external-raised.new.self _ config acts (external_acts (instrument_acts acts)) c.external-raised.result is
    (c.external-raised.ensures (instrument_acts acts) is.1) c.raise.ensures.stands
