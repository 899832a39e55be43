use Rattle.sv_laws.proofs.InTime.{in_time}
use Rattle.sv_laws.proofs.AnsweredInTime.{answered_in_time}
use Rattle.sv_laws.proofs.EachWait.{each_wait_in_time}
use Rattle.sv_laws.proofs.laws.in_time.Goals as goal

pub returns-clause-young : goal.returns-clause-young
returns-clause-young c = in_time

pub returns-clause-answered : goal.returns-clause-answered
returns-clause-answered c = answered_in_time

pub returns-clause-each : goal.returns-clause-each
returns-clause-each c = each_wait_in_time
