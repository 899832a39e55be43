use Rattle.sv_status.proofs.Registers.{stands_for_filter}
use Rattle.sv_status.proofs.register.Register.set_filter.Goals as goal

pub returns : goal.returns
returns c start acts is = stands_for_filter start _ acts c.args.rise c.args.fall (rw (← c.self.view_is) at is)
