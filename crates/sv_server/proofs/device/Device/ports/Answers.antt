use Rattle.std.proofs.Common.{ap}
use Rattle.sv_rpc.specs.declared.ports.Ports.{Ports}
use Rattle.sv_history.specs.declared.event.Config.{Config}
use Rattle.sv_server.proofs.device.Device.ports.Goals as goal

abbrev ports_of : Config → Ports
ports_of config = record { core = config.core; abort = config.abort }

pub returns : goal.returns
returns g c = λ config acts old. let is = rw (← c.self.view_is) at old in ap ports_of is.2
