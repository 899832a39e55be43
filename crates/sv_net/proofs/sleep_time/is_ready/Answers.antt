use Rattle.std.proofs.Common.{arith, ℕ, ◌+◌, inl, inr}
use Rattle.std.specs.Prelude.{false}
use Rattle.std.proofs.lemmas.Bool.{cases_lt}
use Rattle.sv_serve.specs.Asked.{IsReady}
use Rattle.sv_serve.specs.DriverView.{driver_view}
use Rattle.sv_serve.proofs.Joined.{below_one_more}
use Rattle.sv_history.proofs.Unrecorded.{nothing_idle}
use Rattle.sv_net.proofs.sleep_time.is_ready.Goals as goal

pub loop-conn-preserved : goal.loop-conn-preserved
loop-conn-preserved g c = λ config history stands.
    let here = rw c.if-ready.false at (c.ready.ensures config history (rw c.server-server.ensures stands)) in
    below_one_more (λ (d : ℕ). IsReady d config (driver_view c.args.driver.now history) false) c.loop-conn.conn (c.loop-conn.conn + 1)
    (omega arith)
    (c.loop-conn.invariant config history stands) here

pub returns : goal.returns
returns g c = λ so config history stands d.
    let (log, is_log, connections_used) = c.connections_used-conn-end.ensures config history (rw c.server-server.ensures stands) in
    elim (cases_lt d c.connections_used-conn-end.result) [
      | inl low ↦ c.loop-conn.invariant config history stands d (omega (arith, low))
      | inr high ↦ (log, is_log, nothing_idle _ (connections_used.0 d high))
    ]
