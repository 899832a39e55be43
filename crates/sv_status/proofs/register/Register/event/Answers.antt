use Rattle.sv_status.proofs.register.Register.event.Goals as goal

pub returns : goal.returns
returns c start acts is = (rw (← c.self.view_is) at is).event
