use Rattle.sv_xdr.proofs.Fields.{bytes_are}
use Rattle.sv_rpc.proofs.Calls.{call_is}
use Rattle.sv_rpc.proofs.Mappings.{port_is}
use Rattle.sv_rpc.proofs.laws.read_as_spelled.Goals as goal

pub returns-clause-call : goal.returns-clause-call
returns-clause-call c bytes all = call_is bytes (bytes_are bytes all)

pub returns-clause-port : goal.returns-clause-port
returns-clause-port c ports args all = port_is ports args (bytes_are args all)
