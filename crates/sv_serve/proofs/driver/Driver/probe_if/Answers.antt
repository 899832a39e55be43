use Rattle.std.proofs.Common.{ap, true}
use Rattle.sv_history.specs.declared.event.Port.TheVariants.{Conn}
use Rattle.sv_serve.specs.DriverView.{driver_view}
use Rattle.sv_serve.proofs.Suited.{still_open}
use Rattle.sv_serve.proofs.Branches.{probes_if_true}
use Rattle.sv_serve.proofs.driver.Driver.probe_if.Goals as goal

pub returns-then-opened : goal.returns-then-opened
returns-then-opened g c = λ first config history stands is_open.
    let drops = c.overlong-drops.ensures config history (rw (← c.self.view_is) at stands.0) in
    let (h0, s0, p0) = c.ask-answer.ensures _ config history stands in
    let still = still_open (Conn c.args.conn) c.args.opened true config (driver_view c.args.self.now history)
    (driver_view c.ask-answer.new.self h0)
    (ap (λ m. m.history) p0.2) c.if-opened.true is_open in
    let (h1, s1, p1) = c.drop_gone.ensures _ config h0 s0 still in (
      h1,
      s1,
      probes_if_true g.W.Wire.hears c.args.conn c.args.opened config (driver_view c.args.self.now history)
          (driver_view c.drop_gone.new.self h1)
          c.if-opened.true (c.overlong-drops.result, c.ask-answer.result, drops, (driver_view c.ask-answer.new.self h0, p0, p1)),
    )
