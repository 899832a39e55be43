use Rattle.std.proofs.Common.{◌≡◌, ap, w64, to_z, of_z, rules}
use Rattle.sv_scan.specs.declared.acts.ScanAnswer.TheVariants.{Sampled}
use Rattle.sv_scan.proofs.scanner.ScannerLayer.act.Goals as goal

pub returns-in-Input-clause-stands : goal.returns-in-Input-clause-stands
returns-in-Input-clause-stands g c acts is =
    let same : to_z w64 (of_z w64 c.in-Input.microvolts) ≡ c.in-Input.microvolts = search rules in
    rw c.in-Input.is (rw same at (c.input.ensures.stands acts is))

pub returns-in-Sample-clause-answer : goal.returns-in-Sample-clause-answer
returns-in-Sample-clause-answer g c acts is = rw c.in-Sample.is (ap Sampled (c.sample.ensures.answer acts is))
