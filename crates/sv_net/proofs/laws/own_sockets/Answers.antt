use Rattle.std.proofs.Common.{◌≡◌, ◌<◌, ap, arith}
use Rattle.sv_history.specs.declared.event.Port.{Port}
use Rattle.sv_history.specs.declared.event.Port.TheVariants.{Conn, Intr}
use Rattle.sv_history.specs.Event.{port_number}
use Rattle.sv_net.specs.Sockets.{socket_number}
use Rattle.sv_net.proofs.laws.own_sockets.Goals as goal

own : (port other : Port) → port_number port < 16 → port_number other < 16 → socket_number port ≡ socket_number other → port ≡ other
own (Conn c) (Conn d) low lower same = ap Conn same
own (Conn c) (Intr d) low lower same = absurd (omega (arith, low, same))
own (Intr c) (Conn d) low lower same = absurd (omega (arith, lower, same))
own (Intr c) (Intr d) low lower same = ap Intr (omega (arith, same))

pub returns : goal.returns
returns c = own
