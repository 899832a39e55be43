use Rattle.sv_vxi.proofs.PrefixFree.{arguments_prefix_free, results_prefix_free}
use Rattle.sv_vxi.proofs.laws.prefix_free.Goals as goal

pub returns-clause-arguments : goal.returns-clause-arguments
returns-clause-arguments c = arguments_prefix_free

pub returns-clause-results : goal.returns-clause-results
returns-clause-results c = results_prefix_free
