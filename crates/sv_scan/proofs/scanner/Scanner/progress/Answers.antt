use Rattle.std.proofs.Common.{◌≡◌, ◌∙◌, ℕ, List, ap, sym, subst, refl, length, Some, None}
use Rattle.std.specs.Prelude.{Option, false, ◌*◌, ◌%◌, ◌==◌}
use Rattle.sv_scan.specs.declared.acts.ScanAct.{ScanAct}
use Rattle.sv_scan.specs.declared.progress.Progress.{Progress}
use Rattle.sv_scan.specs.Counted.{effective}
use Rattle.sv_scan.specs.Progress.{progress}
use Rattle.sv_scan.specs.Stands.{Run, Contents, Holds, progress_by}
use Rattle.sv_scan.proofs.Searches.{run_progress, progress_is}
use Rattle.sv_scan.proofs.scanner.Scanner.progress.Goals as goal

-- The progress found from the measurement and the number of readings.
found : (contents : Contents) (log : List ScanAct) (run : Run) (count : ℕ) (told : Option Progress) → Holds contents log
    → contents.run ≡ Some run → count ≡ length contents.readings → told ≡ progress_by run count → told ≡ progress log
found contents log run count told is run_is many told_is =
    told_is ∙ ap (progress_by run) many ∙ sym (ap (λ (r : Option Run). run_progress r (length contents.readings)) run_is)
    ∙ progress_is contents log is

-- The progress of a measurement that isn't complete, from the fields of the code's measurement.
under_way : (run : Run) (count triggers scans : ℕ) (list channels : List ℕ)
    → (let r : Run = record { channels = list; scans = scans; triggers = triggers } in r) ≡ run → channels ≡ list
    → (count == run.scans * length run.channels) ≡ false
    → (let p : Progress = record { scan = triggers; scans = scans; place = count % length channels; places = length channels } in Some p)
    ≡ progress_by run count
under_way run count triggers scans list channels is same =
    subst (λ (r : Run). (count == r.scans * length r.channels) ≡ false
    → (let p : Progress = record { scan = triggers; scans = scans; place = count % length channels; places = length channels } in Some p)
    ≡ progress_by r count) is (λ short. rw (short, same) refl)

pub returns-then-is_complete : goal.returns-then-is_complete
returns-then-is_complete g c acts is =
    found _ (effective acts) c.in-Some.run' _ None (rw (← c.self.view_is) at is) c.in-Some.is
    (c.len-samples.ensures ∙ c.self.inside.readings.ok.0) (rw (sym c.is_complete.ensures ∙ c.if-is_complete.true) refl)

pub returns : goal.returns
returns g c acts is =
    found _ (effective acts) c.in-Some.run' _ _ (rw (← c.self.view_is) at is) c.in-Some.is
    (c.len-samples.ensures ∙ c.self.inside.readings.ok.0)
    (under_way c.in-Some.run' _ _ _ _ _ c.run.view_is c.channels-places.ensures.same
    (sym c.is_complete.ensures ∙ c.if-is_complete.false))
