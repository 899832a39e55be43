use Rattle.sv_status.proofs.Registers.{stands_for_condition}
use Rattle.sv_status.proofs.register.Register.condition.Goals as goal

pub returns : goal.returns
returns c start acts is = stands_for_condition start _ acts c.args.word (rw (← c.self.view_is) at is)
