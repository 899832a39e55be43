use Rattle.std.proofs.Common.{◌≡◌}
use Rattle.sv_instrument.specs.Representation.{instrument_measure}
use Rattle.sv_server.proofs.OnReplay.Telling.{SomeStepsTold}
use Rattle.sv_server.proofs.server.Server.tell_to_call.Given as goal

-- The lines of the steps so far were written, and the queue of suspended calls is unchanged.
abbrev pub invariant-loop-self : goal.invariant-loop-self
invariant-loop-self g l = SomeStepsTold l.fn.self l.self l.fn.shown l.shown (g.W.Write.contents l.fn.writer) l.fn.failed
    (g.W.Write.contents l.writer) l.failed
    × (l.self.device.waiting ≡ l.fn.self.device.waiting)

abbrev pub decreases-loop-self : goal.decreases-loop-self
decreases-loop-self g l = instrument_measure l.self.device.instrument
