use Rattle.std.proofs.Common.{◌≡◌}
use Rattle.sv_instrument.specs.Representation.{instrument_measure}
use Rattle.sv_server.proofs.OnServer.Settled.{SomeStepsTaken}
use Rattle.sv_server.proofs.server.Server.settle_to_call.Given as goal

-- The steps so far lead from the initial state to the present one, and the queue of suspended calls
-- is unchanged.
abbrev pub invariant-loop : goal.invariant-loop
invariant-loop g l = SomeStepsTaken l.initial.self l.self × (l.self.device.waiting ≡ l.initial.self.device.waiting)

abbrev pub decreases-loop : goal.decreases-loop
decreases-loop g l = instrument_measure l.self.device.instrument
