use Rattle.sv_serve.specs.DriverView.{driver_view}
use Rattle.sv_serve.proofs.Suited.{faulted_open}
use Rattle.sv_serve.proofs.driver.Driver.end_if.Goals as goal

pub returns-then-so : goal.returns-then-so
returns-then-so g c = λ first config history stands faulted.
    let kept = rw (← c.self.view_is) at stands.0 in
    let is_open = faulted_open c.args.conn config (driver_view c.args.self.now history) c.requires (rw c.if-so.true at faulted) in
    let (h0, s0, p0) = c.close_if.ensures _ config history stands is_open in (
      h0,
      s0,
      rw c.if-so.true (c.waiting.result.now, c.waiting.ensures.waiting config history kept, rw c.is_empty-empty.ensures at p0),
    )
