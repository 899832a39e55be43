use Rattle.std.proofs.Common.{rules}
use Rattle.sv_text.proofs.white.trim.Goals as goal

pub returns : goal.returns
returns c = search rules
