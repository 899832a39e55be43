use Rattle.std.proofs.Common.{◌≡◌, ℕ, ◌≤◌, ◌<◌, false, List}
use Rattle.sv_history.specs.declared.event.Config.{Config}
use Rattle.sv_history.specs.Act.{Act, device_acts}
use Rattle.sv_history.specs.Interrupts.{has_channel}
use Rattle.sv_server.specs.Server.State.{Represents}
use Rattle.sv_server.proofs.server.Server.conns_to_tell.Given as goal

-- Of the connections that were never opened, those below the number have no interrupt channel.
abbrev pub invariant-loop-number : goal.invariant-loop-number
invariant-loop-number g l = (config : Config) (log : List Act) → Represents l.self config log → (c : ℕ) → l.self.connections_used ≤ c
    → c < l.number → has_channel c (device_acts log) ≡ false
