use Rattle.std.proofs.Common.{ℕ, List}
use Rattle.std.specs.Io.KnownBytes.{Appends}
use Rattle.sv_history.specs.declared.event.Config.{Config}
use Rattle.sv_history.specs.Event.{PlainEvent}
use Rattle.sv_server.specs.Server.State.{StandsFor}
use Rattle.sv_replay.specs.Line.{Ticks}
use Rattle.sv_replay.specs.Script.{events_of, Prints}
use Rattle.sv_replay.proofs.perform.pass.Given as goal

-- `counter` ticks happened, and what they print was written.
abbrev pub invariant-loop : goal.invariant-loop
invariant-loop g l = (config : Config) (history : List PlainEvent) → StandsFor l.fn.server config history
    → (text : List ℕ) × (after : List PlainEvent)
    × Prints l.fn.mode config history (events_of l.fn.number (Ticks l.counter)) text after × StandsFor l.server config after
    × Appends (g.W.Write.contents l.fn.writer) (g.W.Write.contents l.writer) text
