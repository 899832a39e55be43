use Rattle.std.proofs.Common.{◌≡◌, ℕ, ◌<◌, [], length, get_or}
use Rattle.sv_server.specs.Connection.Representation.{Connection, IsConnection}
use Rattle.sv_server.proofs.server.connections.Given as goal

-- The connections so far have no acts.
abbrev pub invariant-loop : goal.invariant-loop
invariant-loop g l = record {
  count : length l.connections.items ≡ l.counter;
  each : (c : ℕ) (other : Connection) → c < l.counter → IsConnection (get_or l.connections.items c other) [];
}
