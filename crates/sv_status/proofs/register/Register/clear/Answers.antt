use Rattle.sv_status.proofs.Registers.{stands_for_cleared}
use Rattle.sv_status.proofs.register.Register.clear.Goals as goal

pub returns : goal.returns
returns c start acts is = stands_for_cleared start _ acts (rw (← c.self.view_is) at is)
