use Rattle.std.proofs.Common.{rules}
use Rattle.sv_status.proofs.status_byte.StatusByte.rqs.Goals as goal

pub returns : goal.returns
returns c = search rules
