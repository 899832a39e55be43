use Rattle.sv_value.proofs.Spelled.{spelled}
use Rattle.sv_value.proofs.laws.read_as_spelled.Goals as goal

pub returns : goal.returns
returns c = spelled
