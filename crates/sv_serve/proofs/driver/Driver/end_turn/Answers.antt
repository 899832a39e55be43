use Rattle.sv_serve.specs.DriverView.{driver_view}
use Rattle.sv_serve.proofs.Suited.{finds_no_memory}
use Rattle.sv_serve.proofs.Branches.{turn_refused}
use Rattle.sv_serve.proofs.driver.Driver.end_turn.Goals as goal

pub returns-in-Err : goal.returns-in-Err
returns-in-Err g c = λ first config history stands may.
    let none = finds_no_memory c.args.conn c.args.answer c.in-Err.refused c.is_no_memory.result config (driver_view c.args.self.now history)
    c.in-Err.is c.is_no_memory.ensures may in
    let (h0, s0, p0) = c.refuse_if.ensures _ config history stands none in (
      h0,
      s0,
      turn_refused c.args.conn c.args.answer c.in-Err.refused c.is_no_memory.result config (driver_view c.args.self.now history)
          (driver_view c.refuse_if.new.self h0) c.in-Err.is c.is_no_memory.ensures p0,
    )
