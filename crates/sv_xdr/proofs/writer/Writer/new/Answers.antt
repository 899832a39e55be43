use Rattle.std.proofs.Common.{refl}
use Rattle.sv_xdr.proofs.writer.Writer.new.Goals as goal

pub returns-clause-same_buffer : goal.returns-clause-same_buffer
returns-clause-same_buffer c = refl

pub returns-clause-text : goal.returns-clause-text
returns-clause-text c = refl

pub returns-clause-rest : goal.returns-clause-rest
returns-clause-rest c = refl
