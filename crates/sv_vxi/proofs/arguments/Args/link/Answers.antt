use Rattle.std.proofs.Common.{rules}
use Rattle.sv_vxi.proofs.arguments.Args.link.Goals as goal

pub returns-in-OnLink : goal.returns-in-OnLink
returns-in-OnLink c = search rules
