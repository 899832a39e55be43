use Rattle.sv_laws.proofs.Alone.Asked.{query_alone}
use Rattle.sv_laws.proofs.Alone.Locked.{query_locked, held_locked, rounds_locked}
use Rattle.sv_laws.proofs.Alone.Rounds.{no_query_error}
use Rattle.sv_laws.proofs.Alone.Held.{held_alone}
use Rattle.sv_laws.proofs.laws.query_alone.Goals as goal

pub returns-clause-asked : goal.returns-clause-asked
returns-clause-asked c = query_alone

pub returns-clause-locked : goal.returns-clause-locked
returns-clause-locked c = query_locked

pub returns-clause-rounds : goal.returns-clause-rounds
returns-clause-rounds c = no_query_error

pub returns-clause-held : goal.returns-clause-held
returns-clause-held c = held_alone

pub returns-clause-held_locked : goal.returns-clause-held_locked
returns-clause-held_locked c = held_locked

pub returns-clause-rounds_locked : goal.returns-clause-rounds_locked
returns-clause-rounds_locked c = rounds_locked
