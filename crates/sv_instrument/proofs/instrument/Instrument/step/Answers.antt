use Rattle.sv_instrument.proofs.FewActs.{step_countable}
use Rattle.sv_instrument.proofs.instrument.Instrument.step.Goals as goal

pub returns-then-take_step-clause-steps : goal.returns-then-take_step-clause-steps
returns-then-take_step-clause-steps g c = λ log h.
    let step = (rw c.if-take_step.true at c.take_step.ensures).0 log h in
    (step.0, step.1, c.take_requests.ensures.ran log step.0 step.2 (step_countable log step.0 step.1))

pub returns-then-take_step-clause-idle : goal.returns-then-take_step-clause-idle
returns-then-take_step-clause-idle g c = tt

pub returns-else-take_step-clause-steps : goal.returns-else-take_step-clause-steps
returns-else-take_step-clause-steps g c = c.if-take_step.ensures.0

pub returns-else-take_step-clause-measure : goal.returns-else-take_step-clause-measure
returns-else-take_step-clause-measure g c = tt

pub returns-then-take_step-clause-due : goal.returns-then-take_step-clause-due
returns-then-take_step-clause-due g c = λ log h. tt

pub returns-else-take_step-clause-due : goal.returns-else-take_step-clause-due
returns-else-take_step-clause-due g c = c.if-take_step.ensures.1

pub returns-else-take_step-clause-idle : goal.returns-else-take_step-clause-idle
returns-else-take_step-clause-idle g c = c.if-take_step.ensures.2
