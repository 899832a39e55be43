use Rattle.sv_laws.proofs.Holding.{holder_keeps}
use Rattle.sv_laws.proofs.Locking.{lock_is_taken, lock_is_freed}
use Rattle.sv_laws.proofs.laws.holder_keeps.Goals as goal

pub returns-clause-keeps : goal.returns-clause-keeps
returns-clause-keeps c = holder_keeps

pub returns-clause-locks : goal.returns-clause-locks
returns-clause-locks c = lock_is_taken

pub returns-clause-unlocks : goal.returns-clause-unlocks
returns-clause-unlocks c = lock_is_freed
