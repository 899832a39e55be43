use Rattle.sv_serve.proofs.driver.Driver.drop_gone.Goals as goal

pub returns-in-Failed : goal.returns-in-Failed
returns-in-Failed g c = λ first config history stands is_open.
    let (h0, s0, p0) = c.close.ensures _ config history stands is_open in
    (h0, s0, rw c.in-Failed.is p0)
