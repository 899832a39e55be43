use Rattle.sv_instrument.proofs.OneReading.{one_reading}
use Rattle.sv_instrument.proofs.laws.one_reading.Goals as goal

pub returns : goal.returns
returns c = one_reading
