use Rattle.std.proofs.Common.{arith, ℕ, ◌+◌}
use Rattle.sv_serve.specs.DriverView.{driver_view}
use Rattle.sv_history.specs.declared.event.Port.TheVariants.{Conn}
use Rattle.std.specs.Prelude.{true}
use Rattle.sv_serve.specs.Asked.{IsOpen}
use Rattle.sv_serve.proofs.Joined.{below_one_more}
use Rattle.sv_serve.proofs.driver.Driver.free_number.Goals as goal

pub loop-conn-preserved : goal.loop-conn-preserved
loop-conn-preserved g c = λ config history stands.
    below_one_more (λ (d : ℕ). IsOpen (Conn d) config (driver_view c.args.self.now history) true) c.loop-conn.conn (c.loop-conn.conn + 1)
    (omega arith)
    (c.loop-conn.invariant config history stands) (c.if-not-is_open.ensures config history (rw (← c.self.view_is) at stands))
