use Rattle.std.proofs.Common.{refl, arith, ℕ, ◌+◌}
use Rattle.sv_serve.specs.DriverView.{driver_view, ◌then◌}
use Rattle.sv_serve.specs.Sweep.{Plays, TicksOnce}
use Rattle.sv_serve.proofs.Joined.{for_each_one_more, for_each_equal}
use Rattle.sv_serve.proofs.driver.Driver.pass.Goals as goal

pub loop-init : goal.loop-init
loop-init g c = λ first config history stands. (history, stands, refl)

pub loop-preserved : goal.loop-preserved
loop-preserved g c = λ first config history stands.
    let (h0, s0, p0) = c.loop.invariant _ config history stands in
    let (h1, s1, p1) = c.play.ensures _ config h0 s0 in
    let (h2, s2, p2) = c.tick.ensures _ config h1 s1 in (
      h2,
      s2,
      for_each_one_more (λ (i : ℕ). Plays then TicksOnce) config c.loop.counter (c.loop.counter + 1) _ (driver_view c.loop.self h0) _
          (omega arith)
          p0 (driver_view c.play.new.self h1, p1, p2),
    )

pub returns : goal.returns
returns g c = λ first config history stands.
    let (h0, s0, p0) = c.loop.invariant _ config history stands in
    let (h1, s1, p1) = c.play-2.ensures _ config h0 s0 in (
      h1,
      s1,
      (
        driver_view c.loop.self h0,
        for_each_equal (λ (i : ℕ). Plays then TicksOnce) config c.loop.counter c.args.ticks _ (driver_view c.loop.self h0) (omega arith) p0,
        p1,
      ),
    )
