use Rattle.sv_serve.proofs.driver.Driver.close_if.Goals as goal

pub returns-then-so : goal.returns-then-so
returns-then-so g c = λ first config history stands is_open.
    let (h0, s0, p0) = c.close.ensures _ config history stands is_open in
    (h0, s0, rw c.if-so.true p0)
