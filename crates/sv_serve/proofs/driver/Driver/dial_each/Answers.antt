use Rattle.std.proofs.Common.{refl, arith, ◌+◌}
use Rattle.sv_serve.specs.DriverView.{driver_view}
use Rattle.sv_serve.specs.Steps.{Dials}
use Rattle.sv_serve.proofs.Joined.{steps_one_more, steps_equal}
use Rattle.sv_serve.proofs.Unused.{steps_unused_rest, dials_none}
use Rattle.sv_serve.proofs.driver.Driver.dial_each.Goals as goal

pub loop-conn-init : goal.loop-conn-init
loop-conn-init g c = λ first config history stands. (history, stands, refl)

pub loop-conn-preserved : goal.loop-conn-preserved
loop-conn-preserved g c =
    steps_one_more g.J.Journal.notes (Dials g.W.Wire.hears) c.loop-conn.conn (c.loop-conn.conn + 1) c.args.self.now c.loop-conn.self
    c.dial.new.self (omega arith) c.loop-conn.invariant c.dial.ensures

pub returns-then-is_past_dials : goal.returns-then-is_past_dials
returns-then-is_past_dials g c =
    steps_unused_rest g.J.Journal.notes (Dials g.W.Wire.hears) c.loop-conn.conn 16 c.args.self.now c.loop-conn.self
    (omega arith) c.loop-conn.invariant
    (λ first config history stands.
    let unused = c.is_past_dials.ensures c.if-is_past_dials.true config history stands.0 in
    dials_none g.W.Wire.hears c.loop-conn.conn config (driver_view c.loop-conn.self history) unused.0 unused.1)

pub returns : goal.returns
returns g c =
    steps_equal g.J.Journal.notes (Dials g.W.Wire.hears) c.loop-conn.conn 16 c.args.self.now c.loop-conn.self
    (omega arith) c.loop-conn.invariant
