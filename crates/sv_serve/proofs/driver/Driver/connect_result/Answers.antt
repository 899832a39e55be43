use Rattle.std.proofs.Common.{refl, ap, true, false, Some}
use Rattle.sv_serve.specs.DriverView.{driver_view}
use Rattle.sv_serve.proofs.Suited.{dialed_suits, still_wants}
use Rattle.sv_serve.proofs.driver.Driver.connect_result.Goals as goal

pub returns-in-Got : goal.returns-in-Got
returns-in-Got g c = λ first config history stands wants.
    let (h0, s0, p0) = c.record_dial.ensures _ config history stands in
    let still = still_wants c.args.conn (Some c.args.dial) (Some c.args.dial) config (driver_view c.args.self.now history)
    (driver_view c.record_dial.new.self h0)
    (ap (λ m. m.history) p0) refl wants in
    let suits = dialed_suits c.args.conn c.args.dial true config (driver_view c.record_dial.new.self h0) c.requires still in
    let (h1, s1, p1) = c.apply.ensures _ config h0 s0 suits in
    (h1, s1, rw c.in-Got.is (driver_view c.record_dial.new.self h0, p0, p1))

pub returns-in-Pending : goal.returns-in-Pending
returns-in-Pending g c = λ first config history stands wants.
    let (h0, s0, p0) = c.record_dial-in-Pending.ensures _ config history stands in
    (h0, s0, rw c.in-Pending.is p0)

pub returns-in-Failed : goal.returns-in-Failed
returns-in-Failed g c = λ first config history stands wants.
    let suits = dialed_suits c.args.conn c.args.dial false config (driver_view c.args.self.now history) c.requires wants in
    let (h0, s0, p0) = c.apply-in-Failed.ensures _ config history stands suits in
    (h0, s0, rw c.in-Failed.is p0)
