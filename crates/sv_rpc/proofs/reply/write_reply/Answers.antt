use Rattle.std.proofs.Common.{rules}
use Rattle.sv_rpc.proofs.reply.write_reply.Goals as goal

pub returns-in-Success-clause-writes : goal.returns-in-Success-clause-writes
returns-in-Success-clause-writes c = search rules
