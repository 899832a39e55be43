use Rattle.std.proofs.Common.{refl, true, false, Some}
use Rattle.sv_serve.specs.DriverView.{driver_view}
use Rattle.sv_serve.proofs.Suited.{dialed_suits, closes_channel_same_history, still_wants}
use Rattle.sv_serve.proofs.driver.Driver.poll_result.Goals as goal

pub returns-in-Got : goal.returns-in-Got
returns-in-Got g c = λ first config history stands (dial, wants).
    let suits = dialed_suits c.args.conn dial true config (driver_view c.args.self.now history) c.requires wants in
    let (h0, s0, p0) = c.apply.ensures _ config history stands suits in
    (h0, s0, rw c.in-Got.is p0)

pub returns-in-Failed : goal.returns-in-Failed
returns-in-Failed g c = λ first config history stands (dial, wants).
    let (h0, s0, p0) = c.close_channel.ensures _ config history stands in
    let same = closes_channel_same_history g.W.Wire.hears c.args.conn config (driver_view c.args.self.now history)
    (driver_view c.close_channel.new.self h0) p0 in
    let still = still_wants c.args.conn (Some dial) (Some dial) config (driver_view c.args.self.now history)
    (driver_view c.close_channel.new.self h0) same refl wants in
    let suits = dialed_suits c.args.conn dial false config (driver_view c.close_channel.new.self h0) c.requires still in
    let (h1, s1, p1) = c.apply-in-Failed.ensures _ config h0 s0 suits in
    (h1, s1, rw c.in-Failed.is (driver_view c.close_channel.new.self h0, p0, p1))
