use Rattle.std.proofs.Common.{rules}
use Rattle.sv_rpc.proofs.sending.put_record.Goals as goal

pub returns-clause-capacity : goal.returns-clause-capacity
returns-clause-capacity g c = search rules
