use Rattle.sv_serve.proofs.driver.Driver.keep_dial.Goals as goal

pub returns : goal.returns
returns g c = λ first config history stands.
    let (h0, s0, p0) = c.close_channel.ensures _ config history stands in
    (h0, s0, rw c.if-keeps.false (p0))
