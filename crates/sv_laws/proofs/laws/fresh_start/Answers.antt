use Rattle.sv_laws.proofs.Conformance.{clear_rests}
use Rattle.sv_laws.proofs.FreshStart.{fresh_start}
use Rattle.sv_laws.proofs.laws.fresh_start.Goals as goal

pub returns-clause-rest : goal.returns-clause-rest
returns-clause-rest c = clear_rests

pub returns-clause-fresh : goal.returns-clause-fresh
returns-clause-fresh c = fresh_start
