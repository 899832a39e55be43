use Rattle.std.proofs.Common.{◌≡◌, ℕ, ◌+◌, max, arith}
use Rattle.sv_server.specs.Explain.Inside.Conns.{IsPut}
use Rattle.sv_server.proofs.OnShown.Conns.{one_more_is_shown, all_are_shown}
use Rattle.sv_server.proofs.server.Server.list_conns.Goals as goal
use Rattle.sv_server.proofs.server.Server.list_conns.Goals.{in-Some, in_default}

one_longer : (a b n : ℕ) → b ≡ max a (n + 1) → a ≡ n → b ≡ n + 1
one_longer a b n e f = grind arith

pub loop-number-preserved : goal.loop-number-preserved
loop-number-preserved g c = elim c.match-new.branch [
  | in-Some w ↦
      let put : IsPut c.loop-number.number w.conn_shown.result c.loop-number.found.items c.match-new.found.items =
      rw (← w.in-Some.ensures, w.found-is) w.put_in.ensures.put in
      record {
        count = one_longer _ _ _ put.2 c.loop-number.invariant.count;
        are = λ config log rep. one_more_is_shown _ _ _ w.conn_shown.result log put (c.loop-number.invariant.are config log rep)
            (rw (← w.in-Some.ensures) (w.conn_shown.ensures config log rep));
      }
  | in_default w ↦ absurd (omega (arith, w.in_default.ensures, c.loop-number-test.true, c.conns_to_tell-number-end.ensures.bounded))
]

pub returns : goal.returns
returns g c = λ config log rep.
    all_are_shown _ c.loop-number.number log (omega (arith, c.loop-number.invariant.count)) (c.loop-number.invariant.are config log rep)
    (λ k le. c.conns_to_tell-number-end.ensures.never config log rep k (omega (arith, le, c.loop-number-test.false)))
