use Rattle.sv_status.proofs.status_byte.StatusByteLayer.act.Goals as goal

pub returns-in-Poll-clause-answer : goal.returns-in-Poll-clause-answer
returns-in-Poll-clause-answer c log is = rw c.in-Poll.is (c.poll.ensures.answer log is)

pub returns-in-Update-clause-answer : goal.returns-in-Update-clause-answer
returns-in-Update-clause-answer c log is = rw c.in-Update.is (c.update.ensures.answer log is)

pub returns-in-Update-clause-stands : goal.returns-in-Update-clause-stands
returns-in-Update-clause-stands c log is = rw c.in-Update.is (c.update.ensures.stands log is)
