use Rattle.sv_xdr.proofs.PrefixFree.{prefix_free}
use Rattle.sv_xdr.proofs.laws.prefix_free.Goals as goal

pub returns : goal.returns
returns c = prefix_free
