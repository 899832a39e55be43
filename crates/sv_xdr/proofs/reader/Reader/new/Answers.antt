use Rattle.std.proofs.Common.{refl}
use Rattle.sv_xdr.proofs.reader.Reader.new.Goals as goal

pub returns : goal.returns
returns c = refl
