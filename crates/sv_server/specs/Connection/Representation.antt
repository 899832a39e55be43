-- The state of a connection, and when a state stands for a connection's acts.
use Rattle.std.specs.Prelude.{◌≡◌, ℕ, ◌≤◌, Bool, true, List, length, Option, slice_get}
use Rattle.sv_rpc.specs.RecordBuf.{Records, StandsFor}
use Rattle.sv_history.specs.declared.event.Role.{Role}
use Rattle.sv_history.specs.Act.{ConnAct}
use Rattle.sv_history.specs.Connection.{bytes_left, records_ended, bytes_taken, open_role, bytes_sent, stream, took_no_call, is_busy, pending_call}

-- the state of a connection: its role; the records that came and that the server hasn't finished
-- with; the bytes that wait to be sent; whether the connection took a record that isn't a call;
-- whether the first of these records is a call that was taken already
pub record Connection : Type 0 where
  pub role : Option Role
  pub input : Records
  pub output : List ℕ
  pub faulted : Bool
  pub busy : Bool

-- The state of the connection is the one that its acts determine.
pub record IsConnection (kept : Connection) (acts : List ConnAct) : Type 0 where
  pub role : kept.role ≡ open_role acts
  pub input : StandsFor kept.input (stream acts) (records_ended acts)
  pub output : kept.output ≡ bytes_left acts
  pub bounded : bytes_taken acts ≤ length (bytes_sent acts)
  pub faulted : kept.faulted ≡ took_no_call acts
  pub busy : kept.busy ≡ is_busy acts
  pub call : kept.busy ≡ true → slice_get kept.input.records 0 ≡ pending_call acts
