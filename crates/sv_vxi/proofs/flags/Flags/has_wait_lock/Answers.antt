use Rattle.std.proofs.Common.{rules}
use Rattle.sv_vxi.proofs.flags.Flags.has_wait_lock.Goals as goal

pub returns : goal.returns
returns c = search rules
