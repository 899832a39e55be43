use Rattle.std.proofs.Common.{◌≡◌, Some}
use Rattle.sv_serve.specs.DriverView.{driver_view}
use Rattle.sv_serve.specs.Steps.{dialed_of}
use Rattle.sv_serve.proofs.driver.Driver.close_channel.Goals as goal

pub returns-in-Some : goal.returns-in-Some
returns-in-Some g c = λ first config history stands.
    let (h0, s0, p0) = c.close_socket.ensures _ config history stands in
    let (h1, s1, p1) = c.forget_dial.ensures _ config h0 s0 in
    let is : dialed_of c.args.conn (driver_view c.args.self.now history) ≡ Some c.in-Some.field-0 =
    rw (← c.self.view_is, ← c.from.ensures) c.in-Some.is in
    (h1, s1, rw is (driver_view c.close_socket.new.self h0, p0, p1))
