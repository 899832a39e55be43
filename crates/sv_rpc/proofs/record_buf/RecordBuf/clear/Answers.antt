use Rattle.std.proofs.Common.{rules}
use Rattle.sv_rpc.proofs.record_buf.RecordBuf.clear.Goals as goal

pub returns-clause-value : goal.returns-clause-value
returns-clause-value g c = search rules

pub returns-clause-stands : goal.returns-clause-stands
returns-clause-stands g c = search rules
