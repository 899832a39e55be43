use Rattle.std.proofs.Common.{◌≡◌, ℕ, ◌+◌, ◌*◌, ◌≤◌, List, [], length}
use Rattle.std.specs.Io.KnownBytes.{Consumes, Appends}
use Rattle.sv_history.specs.declared.event.Config.{Config}
use Rattle.sv_server.specs.Server.State.{StandsFor}
use Rattle.sv_replay.specs.Stage.{IsStage}
use Rattle.sv_replay.specs.Reads.{Gave, Made}
use Rattle.sv_replay.proofs.run_state.Run.to_end.Given as goal

-- The run so far is a stage of the replay, and each step executed a line or made a read.
abbrev pub invariant-loop : goal.invariant-loop
invariant-loop g l =
    ((config : Config) → StandsFor l.fn.self.server config [] → (read text : List ℕ) × Consumes (g.R.Read.remaining l.fn.reader)
    (g.R.Read.remaining l.reader) read
    × Appends (g.W.Write.contents l.fn.writer) (g.W.Write.contents l.writer) text
    × IsStage config l.fn.self.mode l.self.server l.self.text.text l.self.lines read text)
    × (l.self.lines + l.self.text.reads ≡ l.counter) × (l.self.lines + length l.self.text.text ≤ 131072 * l.self.text.reads)
    × (l.self.text.reads ≤ 4294967294)
    × ((reads : List Gave) × Made g.R.Source.gives l.fn.reader reads l.reader × (length reads ≡ l.self.text.reads))
    × (l.self.mode ≡ l.fn.self.mode)
