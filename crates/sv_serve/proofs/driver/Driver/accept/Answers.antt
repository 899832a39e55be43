use Rattle.std.proofs.Common.{ap}
use Rattle.sv_serve.specs.DriverView.{driver_view}
use Rattle.sv_serve.proofs.Suited.{still_lowest}
use Rattle.sv_serve.proofs.driver.Driver.accept.Goals as goal

pub returns : goal.returns
returns g c = λ first config history stands.
    let low = c.free_number-conn.ensures config history stands.0 in
    let (h0, s0, p0) = c.accept_from_wire-answer.ensures _ config history stands in
    let still = still_lowest c.free_number-conn.result config (driver_view c.args.self.now history)
    (driver_view c.accept_from_wire-answer.new.self h0)
    (ap (λ m. m.history) p0.2) low in
    let (h1, s1, p1) = c.«open».ensures _ config h0 s0 still in (
      h1,
      s1,
      (
        c.free_number-conn.result,
        c.accept_from_wire-answer.result,
        low,
        (driver_view c.accept_from_wire-answer.new.self h0, p0, p1),
      ),
    )
