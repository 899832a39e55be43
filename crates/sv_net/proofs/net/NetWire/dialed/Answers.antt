use Rattle.std.proofs.Common.{rules}
use Rattle.sv_net.proofs.net.NetWire.dialed.Goals as goal

pub returns-in-Some : goal.returns-in-Some
returns-in-Some g c = search rules

pub returns-in-None : goal.returns-in-None
returns-in-None g c = search rules
