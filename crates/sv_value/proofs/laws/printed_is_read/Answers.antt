use Rattle.sv_value.proofs.ReadAgain.{read_again}
use Rattle.sv_value.proofs.laws.printed_is_read.Goals as goal

pub returns : goal.returns
returns c = read_again
