use Rattle.std.proofs.Common.{rules}
use Rattle.sv_instrument.proofs.instrument.Instrument.held.Goals as goal

pub returns : goal.returns
returns g c = search rules
