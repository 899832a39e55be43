use Rattle.std.proofs.Common.{◌≡◌, length}
use Rattle.sv_links.specs.ChannelRepresentation.{left_in}
use Rattle.sv_links.proofs.channel.let_go.Given as goal

abbrev pub invariant-loop-size : goal.invariant-loop-size
invariant-loop-size l = left_in l.left l.sizes.items ≡ left_in l.fn.count l.fn.sizes.items

abbrev pub decreases-loop-size : goal.decreases-loop-size
decreases-loop-size l = length l.sizes.items
