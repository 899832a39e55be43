use Rattle.std.proofs.Common.{rules}
use Rattle.std.proofs.lemmas.Result.{err_from_is_err_and}
use Rattle.sv_scan.specs.declared.acts.ScanAct.TheVariants.{Configure}
use Rattle.sv_scan.specs.Counted.{effective, setting_fault}
use Rattle.sv_scan.proofs.Stands.{stands_for_counted, stands_for_dropped, is_accepted, is_refused}
use Rattle.sv_scan.proofs.EachSet.{each_set}
use Rattle.sv_scan.proofs.scanner.Scanner.configure.Goals as goal

pub invariant_of-self : goal.invariant_of-self
invariant_of-self g c = let set = each_set c.args.setting _ _ c.set.ensures in search (rules, set)

pub returns-clause-stands : goal.returns-clause-stands
returns-clause-stands g c acts is =
    stands_for_counted _ (Configure c.args.setting) acts
    (is_accepted (setting_fault (effective acts) c.args.setting) (c.in_ok-may_set.ensures.answer acts is))
    (let set = each_set c.args.setting _ _ c.set.ensures in search (rules, set))

pub returns-in_err-may_set-clause-stands : goal.returns-in_err-may_set-clause-stands
returns-in_err-may_set-clause-stands g c acts is =
    stands_for_dropped _ (Configure c.args.setting) acts
    (is_refused (setting_fault (effective acts) c.args.setting) _ (c.in_err-may_set.ensures.answer acts is)) is

pub returns-in_err-may_set-clause-answer : goal.returns-in_err-may_set-clause-answer
returns-in_err-may_set-clause-answer g c =
    let told = err_from_is_err_and c.from_residual.result c.from_residual.ensures.1 in
    rw (told.1, told.2) c.in_err-may_set.ensures.answer
