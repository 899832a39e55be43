use Rattle.std.proofs.Common.{rules}
use Rattle.sv_vxi.proofs.flags.Flags.has_term_char.Goals as goal

pub returns : goal.returns
returns c = search rules
