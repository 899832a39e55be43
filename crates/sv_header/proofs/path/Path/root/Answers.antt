use Rattle.std.proofs.Common.{rules}
use Rattle.sv_header.proofs.path.Path.root.Goals as goal

pub returns : goal.returns
returns c = search rules
