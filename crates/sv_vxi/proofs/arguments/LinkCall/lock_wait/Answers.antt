use Rattle.std.proofs.Common.{rules}
use Rattle.sv_vxi.proofs.arguments.LinkCall.lock_wait.Goals as goal

pub returns-in-DeviceWrite : goal.returns-in-DeviceWrite
returns-in-DeviceWrite c = search rules
