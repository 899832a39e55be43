use Rattle.sv_serve.specs.DriverView.{driver_view}
use Rattle.sv_serve.proofs.Suited.{turn_may_find_no_memory}
use Rattle.sv_serve.proofs.driver.Driver.take.Goals as goal

pub returns-then-ready : goal.returns-then-ready
returns-then-ready g c = λ first config history stands.
    let (h0, s0, p0) = c.give-answer.ensures _ config history stands in
    let (h1, s1, p1) = c.end_turn.ensures _ config h0 s0 (turn_may_find_no_memory c.args.conn _ config (driver_view c.args.self.now history)
    (driver_view c.give-answer.new.self h0) p0) in
    (h1, s1, rw c.if-ready.true (c.give-answer.result, (driver_view c.give-answer.new.self h0, p0, p1)))
