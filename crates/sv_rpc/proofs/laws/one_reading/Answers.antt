use Rattle.sv_rpc.proofs.OneReading.{one_reading}
use Rattle.sv_rpc.proofs.laws.one_reading.Goals as goal

pub returns : goal.returns
returns c = one_reading
