use Rattle.std.proofs.Common.{arith, None, refl}
use Rattle.sv_net.specs.Sockets.{socket_number}
use Rattle.sv_net.proofs.Placed.{at_index, at_no_index}
use Rattle.sv_net.proofs.net.NetWire.write.Goals as goal
use Rattle.sv_net.proofs.net.NetWire.write.Goals.{in-Some, in-None}

pub returns-clause-heard : goal.returns-clause-heard
returns-clause-heard g c = elim c.match-get_mut.branch [
  | in-Some w ↦ (
      let found = (rw w.in-Some.is at c.get_mut.ensures.item).4 (omega arith) None in
      rw (← c.self.view_is, w.result-is, w.self-inside-is)
      (at_index c.self.inside.sockets.items (socket_number c.args.port) _ _ _ _ _ c.socket_number.ensures found w.write_at.ensures.takes)
      )
  | in-None w ↦ (
      let past = (rw (w.in-None.is, c.socket_number.ensures) at c.get_mut.ensures.item).3 in
      rw (← c.self.view_is, w.result-is, w.self-inside-is)
      (at_no_index c.self.inside.sockets.items (socket_number c.args.port) _ _ past refl)
      )
]
