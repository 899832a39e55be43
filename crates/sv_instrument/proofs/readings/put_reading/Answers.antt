use Rattle.std.proofs.Common.{arith}
use Rattle.sv_instrument.proofs.readings.put_reading.Goals as goal

pub returns-in-Over-clause-text : goal.returns-in-Over-clause-text
returns-in-Over-clause-text g c = rw c.in-Over.is c.put_overload.ensures.text

pub returns-in-Under-clause-text : goal.returns-in-Under-clause-text
returns-in-Under-clause-text g c = rw c.in-Under.is c.put_overload-in-Under.ensures.text

pub returns-in-Over-clause-bounded : goal.returns-in-Over-clause-bounded
returns-in-Over-clause-bounded g c = omega (arith, c.put_overload.ensures.bounded)

pub returns-in-Under-clause-bounded : goal.returns-in-Under-clause-bounded
returns-in-Under-clause-bounded g c = omega (arith, c.put_overload-in-Under.ensures.bounded)
