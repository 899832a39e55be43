use Rattle.std.proofs.Common.{refl}
use Rattle.sv_serve.proofs.driver.Driver.give.Goals as goal

pub returns : goal.returns
returns g c = rw (← c.self.view_is) (λ first config history stands.
    let (log, is_log, answers) = c.apply-answer.ensures.answers config history stands.0 in
    (_, (c.apply-answer.ensures.stands config history stands.0, c.note.ensures _ history stands.1), (log, is_log, answers, refl)))
