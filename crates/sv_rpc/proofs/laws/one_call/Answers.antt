use Rattle.sv_rpc.proofs.Calls.{one_call}
use Rattle.sv_rpc.proofs.laws.one_call.Goals as goal

pub returns : goal.returns
returns c = one_call
