use Rattle.sv_layers.proofs.Followed.{same_condition_is_kept}
use Rattle.sv_layers.proofs.ending.compare.Goals as goal

pub returns-else-touched : goal.returns-else-touched
returns-else-touched c = λ start acts is same. same_condition_is_kept start _ acts c.args.word (same c.if-touched.false) is
