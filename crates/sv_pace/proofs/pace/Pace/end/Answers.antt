use Rattle.std.proofs.Common.{true, false}
use Rattle.sv_pace.proofs.Counted.{some_look}
use Rattle.sv_pace.proofs.pace.Pace.end.Goals as goal

pub returns-in-0-true-clause-stands : goal.returns-in-0-true-clause-stands
returns-in-0-true-clause-stands c = λ waits stands. rw (c.in-0-true.is-0, c.in-0-true.is-1) stands

pub returns-in-0-false-clause-stands : goal.returns-in-0-false-clause-stands
returns-in-0-false-clause-stands c = λ waits stands. rw (c.in-0-false.is-0, c.in-0-false.is-1) (c.sleep.ensures.stands waits stands)

pub returns-in_default-true-clause-stands : goal.returns-in_default-true-clause-stands
returns-in_default-true-clause-stands c = λ waits stands.
    rw c.in_default-true.is-1 (some_look c.args.looks true waits _ c.in_default-true.is-0.1 (c.spin_hit.ensures.stands waits))

pub returns-in_default-false-clause-stands : goal.returns-in_default-false-clause-stands
returns-in_default-false-clause-stands c = λ waits stands.
    rw c.in_default-false.is-1 (some_look c.args.looks false waits _ c.in_default-false.is-0.1 (c.spin_miss.ensures.stands waits stands))
