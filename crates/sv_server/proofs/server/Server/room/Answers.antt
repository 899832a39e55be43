use Rattle.std.proofs.Common.{arith, refl}
use Rattle.sv_server.proofs.server.Server.room.Goals as goal

pub returns-in-Some : goal.returns-in-Some
returns-in-Some g c = λ config history s.
    let room = c.room.ensures.answer _ (c.in-Some.ensures config s.log s.represents) in
    (s.log, s.is_log, omega (arith, c.room.ensures.bounded, room))

pub returns-in-None : goal.returns-in-None
returns-in-None g c = λ config history s.
    let none = (rw c.in-None.is at c.connection.ensures) config s.log s.represents in (s.log, s.is_log, rw none refl)
