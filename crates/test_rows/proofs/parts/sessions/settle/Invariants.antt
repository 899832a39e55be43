use Rattle.sv_instrument.specs.Representation.{instrument_measure}
use Rattle.test_rows.proofs.parts.sessions.settle.Given as goal

abbrev pub decreases-loop-raised : goal.decreases-loop-raised
decreases-loop-raised l = instrument_measure l.instrument
