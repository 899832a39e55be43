use Rattle.std.proofs.Common.{rules}
use Rattle.sv_net.proofs.socket.Socket.write.Goals as goal

pub returns-clause-takes : goal.returns-clause-takes
returns-clause-takes g c = search rules

pub returns-clause-within : goal.returns-clause-within
returns-clause-within g c = search rules
