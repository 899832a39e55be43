use Rattle.sv_serve.proofs.driver.Driver.read.Goals as goal

pub returns : goal.returns
returns g c = λ first config history stands.
    let has = c.room-room.ensures config history (rw (← c.self.view_is) at stands.0) in
    let (after, now, went) = c.read_up_to.ensures _ config history stands has in
    (after, now, (c.room-room.result, has, went))
