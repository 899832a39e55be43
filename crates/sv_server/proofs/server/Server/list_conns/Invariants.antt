use Rattle.std.proofs.Common.{◌≡◌, ℕ, ◌<◌, List, length, slice_index_or}
use Rattle.sv_history.specs.declared.event.Config.{Config}
use Rattle.sv_history.specs.Act.{Act}
use Rattle.sv_server.specs.Server.State.{Represents}
use Rattle.sv_explain.specs.Shown.{IsConn, never_opened}
use Rattle.sv_server.proofs.server.Server.list_conns.Given as goal

-- The connections below the number are shown.
abbrev pub invariant-loop-number : goal.invariant-loop-number
invariant-loop-number g l = record {
  count : length l.found.items ≡ l.number;
  are : (config : Config) (log : List Act) → Represents l.self config log → (c : ℕ) → c < l.number
      → IsConn c (slice_index_or l.found.items c never_opened) log;
}
