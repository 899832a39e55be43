use Rattle.std.proofs.Common.{refl, rules}
use Rattle.std.proofs.lemmas.Result.{err_from_is_err_and}
use Rattle.sv_scan.specs.declared.acts.ScanAct.TheVariants.{Trigger}
use Rattle.sv_scan.specs.Counted.{effective, trigger_fault}
use Rattle.sv_scan.proofs.Stands.{stands_for_counted, stands_for_dropped, holds_run, is_accepted, is_refused}
use Rattle.sv_scan.proofs.scanner.Scanner.trigger.Goals as goal

pub returns-clause-stands : goal.returns-clause-stands
returns-clause-stands g c acts is =
    stands_for_counted _ (Trigger c.args.source) acts
    (is_accepted (trigger_fault (effective acts) c.args.source) (c.in_ok-may_trigger.ensures.answer acts is))
    (let held = rw (← c.self.view_is) at is in
    holds_run _ (effective acts) (Trigger c.args.source) _ _ _ refl held (search rules) held.readings
    ((λ e. absurd cc), (λ e. refl), (λ e. refl)))

pub returns-in_err-may_trigger-clause-stands : goal.returns-in_err-may_trigger-clause-stands
returns-in_err-may_trigger-clause-stands g c acts is =
    stands_for_dropped _ (Trigger c.args.source) acts
    (is_refused (trigger_fault (effective acts) c.args.source) _ (c.in_err-may_trigger.ensures.answer acts is)) is

pub returns-in_err-may_trigger-clause-answer : goal.returns-in_err-may_trigger-clause-answer
returns-in_err-may_trigger-clause-answer g c =
    let told = err_from_is_err_and c.from_residual.result c.from_residual.ensures.1 in
    rw (told.1, told.2) c.in_err-may_trigger.ensures.answer

pub returns-clause-scanning : goal.returns-clause-scanning
returns-clause-scanning g c = (c.in_ok-may_trigger.ensures.waiting, search rules)
