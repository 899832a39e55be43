use Rattle.std.proofs.Common.{◌≡◌, ◌<◌, false}
use Rattle.sv_net.specs.Sockets.{Hears}
use Rattle.sv_net.specs.Serving.{is_fresh}
use Rattle.sv_net.specs.Inside.Pausing.{Running}
use Rattle.sv_net.proofs.serving.serve.Given as goal

abbrev pub invariant-loop-made : goal.invariant-loop-made
invariant-loop-made g l = record {
  ran : Running (Hears g.S.Read.remaining g.S.Write.contents) g.J.Journal.notes g.M.Machine.answers is_fresh l.fn.sweeps l.made
      l.pace.swept l.now l.fn.driver l.driver l.fn.machine l.machine;
  kept : 0 < l.made → g.J.Journal.lost l.driver.journal ≡ false;
}
