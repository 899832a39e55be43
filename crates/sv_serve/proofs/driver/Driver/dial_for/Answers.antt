use Rattle.std.proofs.Common.{ap, Some, None}
use Rattle.sv_serve.specs.DriverView.{driver_view}
use Rattle.sv_serve.proofs.Suited.{still_wants}
use Rattle.sv_serve.proofs.Branches.{dials_for_as}
use Rattle.sv_serve.proofs.driver.Driver.dial_for.Goals as goal

pub returns-in-Some-None : goal.returns-in-Some-None
returns-in-Some-None g c = λ first config history stands wants.
    let (h0, s0, p0) = c.start_connect-answer.ensures _ config history stands in
    let still = still_wants c.args.conn c.args.wanted (Some c.in-Some-None.dial) config (driver_view c.args.self.now history)
    (driver_view c.start_connect-answer.new.self h0) (ap (λ m. m.history) p0.2) c.in-Some-None.is-0 wants in
    let (h1, s1, p1) = c.connect_result.ensures _ config h0 s0 still in (
      h1,
      s1,
      dials_for_as g.W.Wire.hears c.args.conn c.args.wanted c.args.dialed (Some c.in-Some-None.dial) None config
          (driver_view c.args.self.now history) (driver_view c.connect_result.new.self h1) c.in-Some-None.is-0 c.in-Some-None.is-1
          (c.start_connect-answer.result, (driver_view c.start_connect-answer.new.self h0, p0, p1)),
    )

pub returns-in-Some-Some : goal.returns-in-Some-Some
returns-in-Some-Some g c = λ first config history stands wants.
    let (h0, s0, p0) = c.poll_connect-answer.ensures _ config history stands in
    let still = still_wants c.args.conn c.args.wanted (Some _) config (driver_view c.args.self.now history)
    (driver_view c.poll_connect-answer.new.self h0) (ap (λ m. m.history) p0.2) c.in-Some-Some.is-0 wants in
    let (h1, s1, p1) = c.poll_result.ensures _ config h0 s0 (_, still) in (
      h1,
      s1,
      dials_for_as g.W.Wire.hears c.args.conn c.args.wanted c.args.dialed _ _ config
          (driver_view c.args.self.now history) (driver_view c.poll_result.new.self h1) c.in-Some-Some.is-0 c.in-Some-Some.is-1
          (c.poll_connect-answer.result, (driver_view c.poll_connect-answer.new.self h0, p0, p1)),
    )
