use Rattle.std.proofs.Common.{◌+◌, ◌*◌, length}
use Rattle.sv_header.proofs.walk.+walk.Given as goal

abbrev pub decreases-walk : goal.decreases-walk
decreases-walk l = 2 * length l.branches.now

-- There are fewer nodes below a node than with it.
abbrev pub decreases-below : goal.decreases-below
decreases-below l = 2 * length l.children.now + 1
