use Rattle.sv_layers.proofs.AlwaysTold.{one_account}
use Rattle.sv_layers.proofs.laws.one_account.Goals as goal

pub returns : goal.returns
returns c = one_account
