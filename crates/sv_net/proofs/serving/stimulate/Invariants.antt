use Rattle.sv_net.specs.Sockets.{Hears}
use Rattle.sv_net.specs.Inside.Pausing.{Hands}
use Rattle.sv_net.proofs.serving.stimulate.Given as goal

abbrev pub invariant-loop : goal.invariant-loop
invariant-loop g l =
    Hands (Hears g.S.Read.remaining g.S.Write.contents) g.J.Journal.notes g.M.Machine.answers l.fn.driver l.driver l.fn.machine l.machine
