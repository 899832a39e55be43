-- The next call of a connection, computed from the connection's state.
use Rattle.std.specs.Prelude.{◌||◌, ℕ, List, Option, None, slice_get, if◌then◌else◌}
use Rattle.sv_server.specs.Connection.Representation.{Connection}

-- the call that the connection takes next; `None` in three cases: the connection took a record that
-- isn't a call; the first record that it stores is a call that it has taken already; or it stores
-- no complete record
abbrev pub kept_next : Connection → Option (List ℕ)
kept_next kept = if kept.faulted || kept.busy then None else slice_get kept.input.records 0
