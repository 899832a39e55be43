use Rattle.std.proofs.Common.{◌≡◌, length}
use Rattle.sv_text.specs.White.{trim_start}
use Rattle.sv_text.proofs.white.without_start.Given as goal

abbrev pub invariant-loop-rest : goal.invariant-loop-rest
invariant-loop-rest l = trim_start l.bytes ≡ trim_start l.rest

abbrev pub decreases-loop-rest : goal.decreases-loop-rest
decreases-loop-rest l = length l.rest
