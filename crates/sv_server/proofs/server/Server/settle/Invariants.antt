use Rattle.sv_links.specs.Queue.{queue_measure}
use Rattle.sv_server.proofs.OnServer.Settled.{SomeStepsTaken}
use Rattle.sv_server.proofs.server.Server.settle.Given as goal

-- The steps so far lead from the initial state to the present one, whatever the log.
abbrev pub invariant-loop : goal.invariant-loop
invariant-loop g l = SomeStepsTaken l.initial.self l.self

abbrev pub decreases-loop : goal.decreases-loop
decreases-loop g l = queue_measure l.self.device.waiting
