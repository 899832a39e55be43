use Rattle.std.proofs.Common.{rules}
use Rattle.sv_net.proofs.net.NetWire.dial.Goals as goal

pub returns-in-Ok-keep : goal.returns-in-Ok-keep
returns-in-Ok-keep g c = search rules
