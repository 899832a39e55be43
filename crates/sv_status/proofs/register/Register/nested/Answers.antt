use Rattle.std.proofs.Common.{rules}
use Rattle.sv_status.proofs.register.Register.nested.Goals as goal

pub returns : goal.returns
returns c = search rules
