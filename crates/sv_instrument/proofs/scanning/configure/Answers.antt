use Rattle.sv_instrument.proofs.Counting.{counts}
use Rattle.sv_instrument.proofs.scanning.configure.Goals as goal

pub returns-in-Some-clause-counts : goal.returns-in-Some-clause-counts
returns-in-Some-clause-counts g c = λ start log h. rw c.in-Some.is (counts c.apply-in-Some.ensures.applied
    (counts c.apply-4.ensures.applied (counts c.apply-3.ensures.applied (counts c.apply-2.ensures.applied
    (counts c.apply.ensures.applied h)))))

pub returns-in_default-clause-counts : goal.returns-in_default-clause-counts
returns-in_default-clause-counts g c = λ start log h. rw c.in_default.is (counts c.apply-4.ensures.applied
    (counts c.apply-3.ensures.applied (counts c.apply-2.ensures.applied (counts c.apply.ensures.applied h))))
