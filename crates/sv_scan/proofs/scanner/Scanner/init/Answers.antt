use Rattle.std.proofs.Common.{refl}
use Rattle.std.proofs.lemmas.Result.{err_from_is_err_and}
use Rattle.sv_scan.specs.declared.acts.ScanAct.TheVariants.{Init}
use Rattle.sv_scan.specs.Counted.{effective, init_fault}
use Rattle.sv_scan.proofs.Stands.{stands_for_counted, stands_for_dropped, holds_run, is_accepted, is_refused}
use Rattle.sv_scan.proofs.Untouched.{is_touched_all}
use Rattle.sv_scan.proofs.scanner.Scanner.init.Goals as goal

pub returns-clause-stands : goal.returns-clause-stands
returns-clause-stands g c acts is =
    stands_for_counted _ Init acts
    (is_accepted (init_fault (effective acts)) (c.in_ok-may_init.ensures acts is))
    (let held = rw (← c.self.view_is) at is in
    holds_run _ (effective acts) Init _ _ _ refl held (rw (held.list, held.count) refl) c.clear.ensures.items
    (is_touched_all Init (effective acts)))

pub returns-in_err-may_init-clause-stands : goal.returns-in_err-may_init-clause-stands
returns-in_err-may_init-clause-stands g c acts is =
    stands_for_dropped _ Init acts
    (is_refused (init_fault (effective acts)) _ (c.in_err-may_init.ensures acts is)) is

pub returns-in_err-may_init-clause-answer : goal.returns-in_err-may_init-clause-answer
returns-in_err-may_init-clause-answer g c =
    let told = err_from_is_err_and c.from_residual.result c.from_residual.ensures.1 in
    rw (told.1, told.2) c.in_err-may_init.ensures
