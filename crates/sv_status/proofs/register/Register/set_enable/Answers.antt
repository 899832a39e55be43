use Rattle.sv_status.proofs.Registers.{stands_for_enable}
use Rattle.sv_status.proofs.register.Register.set_enable.Goals as goal

pub returns : goal.returns
returns c start acts is = stands_for_enable start _ acts c.args.enable (rw (← c.self.view_is) at is)
