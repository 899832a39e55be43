use Rattle.std.proofs.Common.{ℕ, ◌≤◌, ◌<◌, List, length, slice_index_or}
use Rattle.sv_history.specs.declared.event.Config.{Config}
use Rattle.sv_history.specs.Act.{Act}
use Rattle.sv_server.specs.Server.State.{Represents}
use Rattle.sv_explain.specs.Shown.{IsConn, never_opened}
use Rattle.sv_server.proofs.OnShown.Conns.{Written}
use Rattle.sv_server.proofs.server.Server.tell_conns.Given as goal

-- The lines of the connections below the number were written.
abbrev pub invariant-loop-number : goal.invariant-loop-number
invariant-loop-number g l = record {
  bounded : length l.shown.items ≤ l.most;
  written : Written l.fn.shown.items l.shown.items l.number (g.W.Write.contents l.fn.writer) (g.W.Write.contents l.writer)
      l.fn.failed l.failed;
  are : (config : Config) (log : List Act) → Represents l.self config log → (c : ℕ) → c < l.number
      → IsConn c (slice_index_or l.shown.items c never_opened) log;
}
