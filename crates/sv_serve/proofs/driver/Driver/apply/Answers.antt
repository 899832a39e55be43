use Rattle.std.proofs.Common.{refl}
use Rattle.sv_history.specs.Event.{plain}
use Rattle.sv_serve.specs.DriverView.{driver_view}
use Rattle.sv_serve.proofs.Suited.{suited_is_applied}
use Rattle.sv_serve.proofs.driver.Driver.apply.Goals as goal

pub returns : goal.returns
returns g c = rw (← c.self.view_is) (λ first config history stands suits.
    let (log, is_log, answers) = c.apply-answer.ensures.answers config history stands.0 in
    let done = suited_is_applied config (plain c.args.event) (driver_view c.args.self.now history) log c.apply-answer.result is_log answers
    suits in (
      _,
      (rw done at (c.apply-answer.ensures.stands config history stands.0), rw done at (c.note.ensures _ history stands.1)),
      (log, is_log, rw done at answers, refl),
    ))
