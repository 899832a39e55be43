use Rattle.std.proofs.Common.{refl}
use Rattle.sv_lexer.proofs.Finished.{nothing_was_read}
use Rattle.sv_lexer.proofs.partial.Partial.new.Goals as goal

pub returns : goal.returns
returns c = nothing_was_read _ refl refl refl refl refl
