use Rattle.std.proofs.Common.{rules}
use Rattle.sv_xdr.proofs.writer.Writer.text.Goals as goal

pub returns : goal.returns
returns c = search rules
