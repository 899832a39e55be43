use Rattle.std.proofs.Common.{rules}
use Rattle.sv_links.proofs.waiting.Waiting.waits.Goals as goal

pub returns : goal.returns
returns g c = search rules
