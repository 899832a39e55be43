use Rattle.sv_serve.proofs.driver.Driver.cancel_if_unwanted.Goals as goal

pub returns-in-Some : goal.returns-in-Some
returns-in-Some g c = λ first config history stands.
    let kept = rw (← c.self.view_is) at stands.0 in
    let (h0, s0, p0) = c.keep_dial.ensures _ config history stands in (
      h0,
      s0,
      rw c.in-Some.is (
        c.is_open-open.result,
        c.dial-wanted.result,
        c.is_open-open.ensures config history kept,
        c.dial-wanted.ensures config history kept,
        rw c.is_wanted.ensures at p0,
      ),
    )
