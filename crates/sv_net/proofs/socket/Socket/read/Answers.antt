use Rattle.std.proofs.Common.{rules}
use Rattle.sv_net.proofs.socket.Socket.read.Goals as goal

pub returns-clause-gives : goal.returns-clause-gives
returns-clause-gives g c = search rules

pub returns-clause-within : goal.returns-clause-within
returns-clause-within g c = search rules
