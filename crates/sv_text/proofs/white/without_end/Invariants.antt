use Rattle.std.proofs.Common.{◌≡◌, length}
use Rattle.sv_text.specs.White.{trim_end}
use Rattle.sv_text.proofs.white.without_end.Given as goal

abbrev pub invariant-loop-rest : goal.invariant-loop-rest
invariant-loop-rest l = trim_end l.bytes ≡ trim_end l.rest

abbrev pub decreases-loop-rest : goal.decreases-loop-rest
decreases-loop-rest l = length l.rest
