use Rattle.sv_layers.proofs.ending.change_register.Goals as goal

pub returns-in-ClearStatus : goal.returns-in-ClearStatus
returns-in-ClearStatus c = λ start acts h. rw c.in-ClearStatus.is (c.clear.ensures start acts h)
