use Rattle.sv_rpc.proofs.PrefixFree.{calls_prefix_free, replies_prefix_free}
use Rattle.sv_rpc.proofs.laws.prefix_free.Goals as goal

pub returns-clause-calls : goal.returns-clause-calls
returns-clause-calls c = calls_prefix_free

pub returns-clause-replies : goal.returns-clause-replies
returns-clause-replies c = replies_prefix_free
