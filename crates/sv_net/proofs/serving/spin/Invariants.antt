use Rattle.std.proofs.Common.{◌≡◌}
use Rattle.sv_net.specs.Sockets.{Hears}
use Rattle.sv_net.specs.Inside.Pausing.{is_quiet, Pauses}
use Rattle.sv_net.proofs.serving.spin.Given as goal

abbrev pub invariant-loop-looks : goal.invariant-loop-looks
invariant-loop-looks g l = record {
  pauses : Pauses (Hears g.S.Read.remaining g.S.Write.contents) g.J.Journal.notes g.M.Machine.answers l.driver is_quiet is_quiet l.fn.left
      l.fn.pace.swept l.fn.began l.now l.fn.machine l.machine;
  swept : l.pace.swept ≡ l.fn.pace.swept;
}
