use Rattle.sv_serve.specs.DriverView.{driver_view}
use Rattle.sv_serve.proofs.driver.Driver.dial.Goals as goal

pub returns : goal.returns
returns g c = λ first config history stands.
    let (h0, s0, p0) = c.cancel_unwanted.ensures _ config history stands in
    let (h1, s1, p1) = c.connect.ensures _ config h0 s0 in
    (h1, s1, (driver_view c.cancel_unwanted.new.self h0, p0, p1))
