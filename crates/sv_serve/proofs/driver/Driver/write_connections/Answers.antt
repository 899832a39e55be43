use Rattle.std.proofs.Common.{refl, arith, ℕ, ◌+◌}
use Rattle.sv_serve.specs.DriverView.{driver_view}
use Rattle.sv_history.specs.declared.event.Port.TheVariants.{Conn}
use Rattle.sv_serve.specs.Steps.{WritesTo}
use Rattle.sv_serve.proofs.Joined.{steps_one_more, steps_equal}
use Rattle.sv_serve.proofs.Unused.{steps_unused_rest, writes_none}
use Rattle.sv_serve.proofs.driver.Driver.write_connections.Goals as goal

pub loop-conn-init : goal.loop-conn-init
loop-conn-init g c = λ first config history stands. (history, stands, refl)

pub loop-conn-preserved : goal.loop-conn-preserved
loop-conn-preserved g c =
    steps_one_more g.J.Journal.notes (λ (c : ℕ). WritesTo g.W.Wire.hears (Conn c)) c.loop-conn.conn
    (c.loop-conn.conn + 1) c.args.self.now c.loop-conn.self
    c.write.new.self (omega arith) c.loop-conn.invariant c.write.ensures

pub returns-then-is_unused : goal.returns-then-is_unused
returns-then-is_unused g c =
    steps_unused_rest g.J.Journal.notes (λ (c : ℕ). WritesTo g.W.Wire.hears (Conn c)) c.loop-conn.conn 16 c.args.self.now c.loop-conn.self
    (omega arith) c.loop-conn.invariant
    (λ first config history stands.
    writes_none g.W.Wire.hears c.loop-conn.conn config (driver_view c.loop-conn.self history)
    (c.is_unused.ensures c.if-is_unused.true config history stands.0))

pub returns : goal.returns
returns g c =
    steps_equal g.J.Journal.notes (λ (c : ℕ). WritesTo g.W.Wire.hears (Conn c)) c.loop-conn.conn 16 c.args.self.now c.loop-conn.self
    (omega arith) c.loop-conn.invariant
