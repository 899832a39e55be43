use Rattle.std.proofs.Common.{refl, arith, ℕ, ◌+◌}
use Rattle.sv_serve.specs.DriverView.{driver_view}
use Rattle.sv_serve.specs.Sweep.{PlaysOne}
use Rattle.sv_serve.proofs.Joined.{for_each_one_more}
use Rattle.sv_serve.proofs.driver.Driver.play.Goals as goal

pub loop-init : goal.loop-init
loop-init g c = λ first config history stands. (history, stands, (0, refl))

pub loop-preserved : goal.loop-preserved
loop-preserved g c = λ first config history stands.
    let (h0, s0, (n, p0)) = c.loop.invariant _ config history stands in
    let (h1, s1, p1) = c.loop-test.ensures.goes _ config h0 s0 in
    (h1, s1, (n + 1, for_each_one_more (λ (i : ℕ). PlaysOne) config n (n + 1) _ (driver_view c.loop.self h0) _ (omega arith) p0 p1))

pub returns : goal.returns
returns g c = λ first config history stands.
    let (h0, s0, (n, p0)) = c.loop.invariant _ config history stands in
    let (h1, s1, (same, none)) = c.loop-test.ensures.goes _ config h0 s0 in
    (h1, s1, (n, rw same p0, none))
