use Rattle.std.proofs.Common.{refl, arith, ℕ, ◌+◌}
use Rattle.sv_history.specs.declared.event.Port.TheVariants.{Intr}
use Rattle.sv_serve.specs.Steps.{WritesTo}
use Rattle.sv_serve.proofs.Joined.{steps_one_more, steps_equal}
use Rattle.sv_serve.proofs.driver.Driver.write_channels.Goals as goal

pub loop-conn-init : goal.loop-conn-init
loop-conn-init g c = λ first config history stands. (history, stands, refl)

pub loop-conn-preserved : goal.loop-conn-preserved
loop-conn-preserved g c =
    steps_one_more g.J.Journal.notes (λ (c : ℕ). WritesTo g.W.Wire.hears (Intr c)) c.loop-conn.conn
    (c.loop-conn.conn + 1) c.args.self.now c.loop-conn.self
    c.write.new.self (omega arith) c.loop-conn.invariant c.write.ensures

pub returns : goal.returns
returns g c =
    steps_equal g.J.Journal.notes (λ (c : ℕ). WritesTo g.W.Wire.hears (Intr c)) c.loop-conn.conn 16 c.args.self.now c.loop-conn.self
    (omega arith) c.loop-conn.invariant
