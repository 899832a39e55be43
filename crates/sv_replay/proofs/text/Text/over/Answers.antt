use Rattle.std.proofs.Common.{arith, refl}
use Rattle.sv_replay.proofs.text.Text.over.Goals as goal

pub invariant_of-result : goal.invariant_of-result
invariant_of-result g c = record {
  order = (omega arith, omega arith, omega arith);
  size = c.requires;
  unbroken = omega arith;
  few = omega arith;
}

pub returns : goal.returns
returns g c = refl
