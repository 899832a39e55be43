use Rattle.sv_serve.specs.DriverView.{driver_view}
use Rattle.sv_serve.proofs.Suited.{open_suits}
use Rattle.sv_serve.proofs.driver.Driver.open.Goals as goal

pub returns-in-Some-Got : goal.returns-in-Some-Got
returns-in-Some-Got g c = λ first config history stands low.
    let free = open_suits _ c.args.role config (driver_view c.args.self.now history) (rw c.in-Some-Got.is-0 at low) in
    let (h0, s0, p0) = c.apply.ensures _ config history stands free in
    (h0, s0, rw (c.in-Some-Got.is-0, c.in-Some-Got.is-1) p0)
