use Rattle.sv_status.proofs.standard_event.StandardEventLayer.act.Goals as goal

pub returns-in-Read-clause-answer : goal.returns-in-Read-clause-answer
returns-in-Read-clause-answer c log is = rw c.in-Read.is (c.read.ensures.answer log is)

pub returns-in-SetEnable-clause-stands : goal.returns-in-SetEnable-clause-stands
returns-in-SetEnable-clause-stands c log is = rw c.in-SetEnable.is (c.set_enable.ensures log is)
