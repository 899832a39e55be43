use Rattle.std.proofs.Common.{◌≡◌, ◌∙◌, ℕ, List, ap, sym, refl, length, Some}
use Rattle.std.specs.Prelude.{Option, Bool}
use Rattle.sv_scan.specs.declared.acts.ScanAct.{ScanAct}
use Rattle.sv_scan.specs.Scan.{is_complete}
use Rattle.sv_scan.specs.Counted.{effective}
use Rattle.sv_scan.specs.Stands.{Run, Contents, Holds}
use Rattle.sv_scan.specs.Representation.{run_complete}
use Rattle.sv_scan.proofs.Searches.{complete_is}
use Rattle.sv_scan.proofs.scanner.Scanner.readings.Goals as goal

-- Whether the readings are complete, as the code finds it out from the measurement and the number of readings.
found_complete : (contents : Contents) (log : List ScanAct) (run : Run) (count : ℕ) (all : Bool) → Holds contents log
    → contents.run ≡ Some run → count ≡ length contents.readings → all ≡ run_complete (Some run) count → is_complete log ≡ all
found_complete contents log run count all is run_is many told =
    sym (told ∙ ap (λ (n : ℕ). run_complete (Some run) n) many
    ∙ sym (ap (λ (r : Option Run). run_complete r (length contents.readings)) run_is) ∙ complete_is contents log is)

pub returns-then-is_complete : goal.returns-then-is_complete
returns-then-is_complete g c acts is = (
  found_complete _ (effective acts) _ _ _ (rw (← c.self.view_is) at is) c.in-Some.is (c.len.ensures ∙ c.self.inside.readings.ok.0)
      c.is_complete.ensures ∙ c.if-is_complete.true,
  c.readings_so_far.ensures.answer acts is,
)

pub returns-else-is_complete : goal.returns-else-is_complete
returns-else-is_complete g c acts is = (
  found_complete _ (effective acts) _ _ _ (rw (← c.self.view_is) at is) c.in-Some.is (c.len.ensures ∙ c.self.inside.readings.ok.0)
      c.is_complete.ensures ∙ c.if-is_complete.false,
  refl,
)
