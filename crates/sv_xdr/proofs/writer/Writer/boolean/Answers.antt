use Rattle.std.proofs.Common.{rules}
use Rattle.sv_xdr.proofs.writer.Writer.boolean.Goals as goal

pub returns-clause-same_buffer : goal.returns-clause-same_buffer
returns-clause-same_buffer c = search rules

pub returns-clause-spelled : goal.returns-clause-spelled
returns-clause-spelled c = search rules

pub returns-clause-exact : goal.returns-clause-exact
returns-clause-exact c = search rules
