use Rattle.std.proofs.Common.{rules}
use Rattle.sv_rpc.proofs.record_buf.RecordBuf.new.Goals as goal

pub returns : goal.returns
returns g c = search rules
