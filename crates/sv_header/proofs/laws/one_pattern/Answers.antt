use Rattle.sv_header.proofs.Clash.{one_command, one_pattern}
use Rattle.sv_header.proofs.laws.one_pattern.Goals as goal

pub returns-clause-command : goal.returns-clause-command
returns-clause-command c = one_command

pub returns-clause-pattern : goal.returns-clause-pattern
returns-clause-pattern c = one_pattern
