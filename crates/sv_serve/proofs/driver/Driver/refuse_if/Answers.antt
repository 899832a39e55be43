use Rattle.sv_serve.specs.DriverView.{driver_view}
use Rattle.sv_serve.proofs.Suited.{refused}
use Rattle.sv_serve.proofs.driver.Driver.refuse_if.Goals as goal

pub returns-then-so : goal.returns-then-so
returns-then-so g c = λ first config history stands none.
    let (h0, s0, p0) = c.give.ensures _ config history stands in
    let (log, was, answers, is) = p0 in
    let done = refused config c.args.conn (driver_view c.args.self.now history) log c.give.result was answers (none c.if-so.true) in
    (h0, s0, rw c.if-so.true (rw done at p0))
