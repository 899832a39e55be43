use Rattle.sv_laws.proofs.Conformance.{preset_leaves, errors_in_order}
use Rattle.sv_laws.proofs.laws.scpi_conformance.Goals as goal

pub returns-clause-preset : goal.returns-clause-preset
returns-clause-preset c = preset_leaves

pub returns-clause-errors : goal.returns-clause-errors
returns-clause-errors c = errors_in_order
