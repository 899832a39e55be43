use Rattle.sv_status.proofs.Registers.{stands_for_preset}
use Rattle.sv_status.proofs.register.Register.preset.Goals as goal

pub returns : goal.returns
returns c start acts is = stands_for_preset start _ acts (rw (← c.self.view_is) at is)
