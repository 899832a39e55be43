use Rattle.std.proofs.Common.{refl}
use Rattle.sv_scan.specs.declared.acts.ScanAct.TheVariants.{Abort}
use Rattle.sv_scan.specs.Counted.{effective}
use Rattle.sv_scan.proofs.Stands.{holds_run}
use Rattle.sv_scan.proofs.Untouched.{is_touched_all}
use Rattle.sv_scan.proofs.scanner.Scanner.abort.Goals as goal

pub returns : goal.returns
returns g c acts is =
    let held = rw (← c.self.view_is) at is in
    holds_run _ (effective acts) Abort _ _ _ refl held refl c.clear.ensures.items (is_touched_all Abort (effective acts))
