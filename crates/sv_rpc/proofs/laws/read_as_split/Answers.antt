use Rattle.sv_rpc.proofs.EveryStream.{read_as_split}
use Rattle.sv_rpc.proofs.OneReading.{read_alone}
use Rattle.sv_rpc.proofs.laws.read_as_split.Goals as goal

pub returns-clause-every : goal.returns-clause-every
returns-clause-every c = read_as_split

pub returns-clause-alone : goal.returns-clause-alone
returns-clause-alone c = read_alone
