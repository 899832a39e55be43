use Rattle.std.proofs.Common.{arith}
use Rattle.std.proofs.lemmas.Grind.{common_steps}
use Rattle.sv_scan.proofs.Padding.{is_padded}
use Rattle.sv_scan.proofs.scan_list.ScanList.new.Goals as goal

pub invariant_of-result : goal.invariant_of-result
invariant_of-result c =
    is_padded c.as_slice-given.result.now c.copy_from_slice.new.self c.copy_from_slice.ensures.after c.as_slice-given.ensures.fits

pub returns : goal.returns
returns c = grind (arith, common_steps)
