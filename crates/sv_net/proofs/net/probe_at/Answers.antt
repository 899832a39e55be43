use Rattle.std.proofs.Common.{rules}
use Rattle.sv_net.proofs.net.probe_at.Goals as goal

pub returns-in-Some : goal.returns-in-Some
returns-in-Some g c = search rules
