use Rattle.std.proofs.Common.{length, ap, arith}
use Rattle.sv_links.proofs.Left.{sum_bounded}
use Rattle.sv_links.proofs.channel.Channel.waiting.Goals as goal

pub returns-clause-bounded : goal.returns-clause-bounded
returns-clause-bounded g c =
    omega (
      arith,
      ap length c.as_slice.ensures.value,
      c.self.invariant.0,
      sum_bounded c.self.inside.sizes.items c.self.invariant.1,
      c.self.invariant.2,
    )
