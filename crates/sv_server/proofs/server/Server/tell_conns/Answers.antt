use Rattle.std.proofs.Common.{ℕ, ◌≡◌, ◌≤◌, max, arith}
use Rattle.sv_print.proofs.Taking.{prints_none}
use Rattle.sv_server.proofs.OnShown.Conns.{one_more_is_shown, all_are_shown, written_none, written_more, written_all, put_bounded}
use Rattle.sv_server.proofs.server.Server.tell_conns.Goals as goal

left_below : (m a b n : ℕ) → m ≡ max a b → b ≡ n → n ≤ m
left_below m a b n e f = grind arith

right_below : (m a b : ℕ) → m ≡ max a b → a ≤ m
right_below m a b e = grind arith

most_below : (m a b : ℕ) → m ≡ max a b → a ≤ 16 → b ≤ 16 → m ≤ 16
most_below m a b e f g = grind arith

pub loop-number-init : goal.loop-number-init
loop-number-init g c = record {
  bounded = left_below _ _ _ _ c.max-most.ensures c.len.ensures.value;
  written = written_none _ _ _ (prints_none _ _);
  are = λ config log rep k lt. absurd (omega (arith, lt));
}

pub loop-number-preserved : goal.loop-number-preserved
loop-number-preserved g c =
    let (one, put, line, is) = c.tell_conn.ensures in
    record {
      bounded = put_bounded c.max-most.result c.loop-number.number one _ _ put c.loop-number.invariant.bounded c.loop-number-test.true;
      written = written_more _ _ _ _ one _ _ _ _ _ _ c.loop-number.invariant.written put line;
      are = λ config log rep. one_more_is_shown _ _ _ one log put (c.loop-number.invariant.are config log rep) (is config log rep);
    }

pub returns : goal.returns
returns g c = λ config log rep.
    let over = c.loop-number-test.false in
    let within : c.loop-number.number ≤ 16 = omega (
      arith,
      c.loop-number.auto.number-end,
      most_below _ _ _ c.max-most.ensures c.conns_to_tell.ensures.bounded c.len.ensures.fits,
    ) in
    let looked = right_below _ _ _ c.max-most.ensures in
    let never = c.conns_to_tell.ensures.never config log rep in (
      all_are_shown _ c.loop-number.number log (omega (arith, c.loop-number.invariant.bounded, over))
          (c.loop-number.invariant.are config log rep) (λ k le. never k (omega (arith, le, over, looked))),
      written_all _ _ c.loop-number.number _ _ _ _ c.loop-number.invariant.written
          (omega (arith, over, left_below _ _ _ _ c.max-most.ensures c.len.ensures.value))
          (omega (arith, c.loop-number.invariant.bounded, over)) within,
    )
