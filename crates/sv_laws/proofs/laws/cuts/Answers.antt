use Rattle.sv_laws.proofs.Cuts.RecordsCut.{records_cut}
use Rattle.sv_laws.proofs.Cuts.WritesCut.{writes_cut}
use Rattle.sv_laws.proofs.laws.cuts.Goals as goal

pub returns-clause-pieces : goal.returns-clause-pieces
returns-clause-pieces c = records_cut

pub returns-clause-writes : goal.returns-clause-writes
returns-clause-writes c = writes_cut
