use Rattle.std.proofs.Common.{rules}
use Rattle.sv_rpc.proofs.reply.write_call.Goals as goal

pub returns-clause-writes : goal.returns-clause-writes
returns-clause-writes c = search rules
