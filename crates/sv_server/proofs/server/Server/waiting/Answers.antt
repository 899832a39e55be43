use Rattle.std.proofs.Common.{rules}
use Rattle.sv_server.proofs.server.Server.waiting.Goals as goal

pub returns-clause-waiting : goal.returns-clause-waiting
returns-clause-waiting g c = search rules

pub returns-clause-bounded : goal.returns-clause-bounded
returns-clause-bounded g c = search rules
