use Rattle.sv_serve.proofs.driver.Driver.turn.Goals as goal

pub returns : goal.returns
returns g c = λ first config history stands.
    let (after, now, went) = c.take.ensures _ config history stands in
    (after, now, (c.ready-ready.result, c.ready-ready.ensures config history (rw (← c.self.view_is) at stands.0), went))
