use Rattle.std.proofs.Common.{rules}
use Rattle.sv_net.proofs.net.NetWire.accept.Goals as goal

pub returns-in-Ok : goal.returns-in-Ok
returns-in-Ok g c = search rules
