use Rattle.std.proofs.Common.{rules}
use Rattle.sv_status.proofs.Registers.{stands_for_read}
use Rattle.sv_status.proofs.register.Register.read_event.Goals as goal

pub returns-clause-answer : goal.returns-clause-answer
returns-clause-answer c = search rules

pub returns-clause-stands : goal.returns-clause-stands
returns-clause-stands c start acts is = rw c.replace.ensures.after (stands_for_read start _ acts (rw (← c.self.view_is) at is))
