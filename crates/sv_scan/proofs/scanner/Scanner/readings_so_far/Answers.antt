use Rattle.std.proofs.Common.{◌∙◌}
use Rattle.sv_scan.proofs.Runs.{readings_are_few}
use Rattle.sv_scan.proofs.scanner.Scanner.readings_so_far.Goals as goal

pub returns-clause-answer : goal.returns-clause-answer
returns-clause-answer g c acts is =
    let h = rw (← c.self.view_is) at is in
    c.as_slice.ensures.value ∙ h.readings

pub returns-clause-few : goal.returns-clause-few
returns-clause-few g c = rw (c.as_slice.ensures.value) (readings_are_few _ _ c.self.invariant.run)

pub returns-clause-bounded : goal.returns-clause-bounded
returns-clause-bounded g c = rw (c.as_slice.ensures.value) c.self.invariant.readings
