use Rattle.sv_serve.proofs.driver.Driver.end.Goals as goal

pub returns : goal.returns
returns g c = λ first config history stands.
    let faulted = c.faulted-faulted.ensures config history (rw (← c.self.view_is) at stands.0) in
    let (h0, s0, p0) = c.end_if.ensures _ config history stands faulted in
    (h0, s0, (c.faulted-faulted.result, faulted, p0))
