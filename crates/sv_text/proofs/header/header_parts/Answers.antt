use Rattle.std.proofs.Common.{rules}
use Rattle.sv_text.proofs.header.header_parts.Goals as goal

pub returns-clause-query : goal.returns-clause-query
returns-clause-query c = search rules
