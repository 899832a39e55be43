use Rattle.std.proofs.Common.{refl, ◌≡◌, None, slice_index_or}
use Rattle.sv_serve.specs.DriverView.{driver_view}
use Rattle.sv_serve.specs.Steps.{dialed_of}
use Rattle.sv_serve.proofs.driver.Driver.connect.Goals as goal

pub returns : goal.returns
returns g c = λ first config history stands.
    let wants = c.dial-wanted.ensures config history (rw (← c.self.view_is) at stands.0) in
    let (h0, s0, p0) = c.dial_for.ensures _ config history stands wants in
    let is : dialed_of c.args.conn (driver_view c.args.self.now history) ≡ slice_index_or c.self.inside.dials c.from.result None =
    rw (← c.self.view_is, ← c.from.ensures) refl in
    (h0, s0, (c.dial-wanted.result, wants, rw is p0))
