use Rattle.sv_laws.proofs.Conformance.{poll_ends_request, status_byte_leaves, clear_clears, reset_leaves, standard_read_once}
use Rattle.sv_laws.proofs.laws.conformance.Goals as goal

pub returns-clause-poll : goal.returns-clause-poll
returns-clause-poll c = poll_ends_request

pub returns-clause-status_byte : goal.returns-clause-status_byte
returns-clause-status_byte c = status_byte_leaves

pub returns-clause-clear : goal.returns-clause-clear
returns-clause-clear c = clear_clears

pub returns-clause-reset : goal.returns-clause-reset
returns-clause-reset c = reset_leaves

pub returns-clause-standard : goal.returns-clause-standard
returns-clause-standard c = standard_read_once
