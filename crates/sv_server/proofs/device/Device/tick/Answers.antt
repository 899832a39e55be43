use Rattle.std.proofs.Common.{◌+◌, ◌∷◌, ◌≡◌, arith}
use Rattle.sv_instrument.specs.Stimulus.{tick_acts}
use Rattle.sv_history.specs.Act.{Ticked, instrument_acts, ticks}
use Rattle.sv_server.specs.Device.Representation.{Device}
use Rattle.sv_server.proofs.OnDevice.Raising.{ran_raised}
use Rattle.sv_server.proofs.device.Device.tick.Goals as goal

pub returns-clause-stands : goal.returns-clause-stands
returns-clause-stands g c = λ config acts old.
    let is = rw (← c.self.view_is) at old in
    let later : Device = record {
      links = c.self.inside.links;
      waiting = c.self.inside.waiting;
      intr = c.self.inside.intr;
      instrument = c.self.inside.instrument;
      config = c.self.inside.config;
      clock = c.self.inside.clock + 1;
    } in
    let clock : later.clock ≡ config.clock + (ticks acts + 1) = let before = is.3 in omega (arith, before) in
    let ran = c.tick-raised.ensures (instrument_acts acts) is.1 in
    c.raise.ensures.stands config (Ticked ∷ acts) (tick_acts (instrument_acts acts))
    (is.0, ran.stands, is.2, clock, is.4, is.5, is.6, is.7)
    (ran_raised c.tick-raised.new.self c.tick-raised.result (instrument_acts acts) (tick_acts (instrument_acts acts)) ran)
