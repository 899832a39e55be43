use Rattle.std.proofs.Common.{ℕ, List}
use Rattle.std.specs.Io.KnownBytes.{Appends}
use Rattle.sv_history.specs.declared.event.Config.{Config}
use Rattle.sv_history.specs.Event.{PlainEvent}
use Rattle.sv_links.specs.Channels.{ChannelAct}
use Rattle.sv_history.specs.Act.{Act}
use Rattle.sv_server.specs.Replay.Inside.Showing.{StandsBy}
use Rattle.sv_server.proofs.OnReplay.Ports.{SoFar}
use Rattle.sv_server.proofs.server.Server.show_all.Given as goal

-- The lines of the ports below the number were written.
abbrev pub invariant-loop-number : goal.invariant-loop-number
invariant-loop-number g l = (config : Config) (history : List PlainEvent) (channel_log : List ChannelAct) (log : List Act)
    → StandsBy l.fn.self config history channel_log log
    → (text : List ℕ) × Appends (g.W.Write.contents l.fn.writer) (g.W.Write.contents l.writer) text
    × SoFar config history channel_log log l.number l.self text
