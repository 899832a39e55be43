use Rattle.sv_laws.proofs.Gone.{closed_holds_nothing, close_shuts}
use Rattle.sv_laws.proofs.laws.gone.Goals as goal

pub returns-clause-gone : goal.returns-clause-gone
returns-clause-gone c = closed_holds_nothing

pub returns-clause-shut : goal.returns-clause-shut
returns-clause-shut c = close_shuts
