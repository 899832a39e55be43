use Rattle.sv_serve.proofs.driver.Driver.probe.Goals as goal

pub returns : goal.returns
returns g c = λ first config history stands.
    let is_open = c.is_open-opened.ensures config history (rw (← c.self.view_is) at stands.0) in
    let (h0, s0, p0) = c.probe_if.ensures _ config history stands is_open in
    (h0, s0, (c.is_open-opened.result, is_open, p0))
