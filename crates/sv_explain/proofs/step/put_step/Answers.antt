use Rattle.sv_print.proofs.Taking.{prints_none}
use Rattle.sv_explain.proofs.step.put_step.Goals as goal

pub returns-in-Nothing : goal.returns-in-Nothing
returns-in-Nothing g c = rw c.in-Nothing.is (prints_none _ _)

pub returns-in-TimeOut : goal.returns-in-TimeOut
returns-in-TimeOut g c = rw c.in-TimeOut.is c.put_conn-in-TimeOut.ensures
