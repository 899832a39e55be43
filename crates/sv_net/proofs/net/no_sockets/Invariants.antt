use Rattle.std.proofs.Common.{◌≡◌, replicate, None}
use Rattle.sv_net.proofs.net.no_sockets.Given as goal

abbrev pub invariant-loop : goal.invariant-loop
invariant-loop g l = l.sockets.items ≡ replicate l.counter None
