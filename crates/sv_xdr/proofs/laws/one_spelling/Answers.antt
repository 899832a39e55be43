use Rattle.sv_xdr.proofs.Spelled.{one_spelling}
use Rattle.sv_xdr.proofs.laws.one_spelling.Goals as goal

pub returns : goal.returns
returns c = one_spelling
