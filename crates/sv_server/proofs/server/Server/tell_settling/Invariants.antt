use Rattle.sv_links.specs.Queue.{queue_measure}
use Rattle.sv_server.proofs.OnReplay.Telling.{SomeStepsTold}
use Rattle.sv_server.proofs.server.Server.tell_settling.Given as goal

-- The lines of the steps so far were written, whatever the log.
abbrev pub invariant-loop : goal.invariant-loop
invariant-loop g l = SomeStepsTold l.fn.self l.self l.fn.shown l.shown (g.W.Write.contents l.fn.writer) l.fn.failed
    (g.W.Write.contents l.writer) l.failed

abbrev pub decreases-loop : goal.decreases-loop
decreases-loop g l = queue_measure l.self.device.waiting
