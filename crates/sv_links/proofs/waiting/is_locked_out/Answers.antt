use Rattle.std.proofs.Common.{rules}
use Rattle.sv_links.proofs.waiting.is_locked_out.Goals as goal

pub returns-in-Some-named : goal.returns-in-Some-named
returns-in-Some-named c = search rules
