use Rattle.std.proofs.Common.{◌≡◌, ◌∙◌, ℕ, List, ap, sym, subst, refl, length, Some}
use Rattle.std.proofs.lemmas.Bool.{eq-eqb, ne_eqb}
use Rattle.std.specs.Prelude.{Option, ◌*◌, ◌==◌, if◌then◌else◌}
use Rattle.sv_scan.specs.declared.acts.ScanAct.{ScanAct}
use Rattle.sv_scan.specs.declared.setting.State.{State}
use Rattle.sv_scan.specs.declared.setting.State.TheVariants.{Idle, Waiting, Scanning}
use Rattle.sv_scan.specs.Scan.{state}
use Rattle.sv_scan.specs.Counted.{effective}
use Rattle.sv_scan.specs.Stands.{Run, Contents, Holds}
use Rattle.sv_scan.specs.Representation.{run_state}
use Rattle.sv_scan.proofs.Searches.{state_is}
use Rattle.sv_scan.proofs.scanner.Scanner.state.Goals as goal

-- The state found from the fields of the code's measurement and the number of readings.
found : (contents : Contents) (log : List ScanAct) (run : Run) (count triggers scans full begun : ℕ) (list channels : List ℕ) (told : State)
    → Holds contents log → contents.run ≡ Some run → count ≡ length contents.readings
    → (let r : Run = record { channels = list; scans = scans; triggers = triggers } in r) ≡ run → channels ≡ list
    → full ≡ scans * length channels → begun ≡ triggers * length channels
    → told ≡ (if count == full then Idle else if count == begun then Waiting else Scanning) → told ≡ state log
found contents log run count triggers scans full begun list channels told is run_is many view same full_is begun_is told_is =
    told_is ∙ subst (λ (r : Run). (if count == full then Idle else if count == begun then Waiting else Scanning)
    ≡ run_state (Some r) count) view (rw (full_is, begun_is, same) refl)
    ∙ ap (λ (n : ℕ). run_state (Some run) n) many ∙ sym (ap (λ (r : Option Run). run_state r (length contents.readings)) run_is)
    ∙ state_is contents log is

pub returns-then-samples-from-clause-answer : goal.returns-then-samples-from-clause-answer
returns-then-samples-from-clause-answer g c acts is =
    let size = length c.channels-channels.result.now in
    found _ (effective acts) _ c.len-samples.result _ _ (c.from.result * size) (c.run.inside.triggers * size) _ _ _
    (rw (← c.self.view_is) at is) c.in-Some.is (c.len-samples.ensures ∙ c.self.inside.readings.ok.0)
    c.run.view_is c.channels-channels.ensures.same (ap (λ (n : ℕ). n * size) c.from.ensures) refl
    (rw (eq-eqb c.len-samples.result (c.from.result * size) c.if-samples-from.true) refl)

pub returns-then-samples-from-2-clause-answer : goal.returns-then-samples-from-2-clause-answer
returns-then-samples-from-2-clause-answer g c acts is =
    let size = length c.channels-channels.result.now in
    found _ (effective acts) _ c.len-samples.result _ _ (c.from.result * size) (c.from-else-samples-from.result * size) _ _ _
    (rw (← c.self.view_is) at is) c.in-Some.is (c.len-samples.ensures ∙ c.self.inside.readings.ok.0)
    c.run.view_is c.channels-channels.ensures.same (ap (λ (n : ℕ). n * size) c.from.ensures)
    (ap (λ (n : ℕ). n * size) c.from-else-samples-from.ensures)
    (rw (
      ne_eqb c.len-samples.result (c.from.result * size) c.if-samples-from.false,
      eq-eqb c.len-samples.result (c.from-else-samples-from.result * size) c.if-samples-from-2.true,
    ) refl)

pub returns-else-samples-from-2-clause-answer : goal.returns-else-samples-from-2-clause-answer
returns-else-samples-from-2-clause-answer g c acts is =
    let size = length c.channels-channels.result.now in
    found _ (effective acts) _ c.len-samples.result _ _ (c.from.result * size) (c.from-else-samples-from.result * size) _ _ _
    (rw (← c.self.view_is) at is) c.in-Some.is (c.len-samples.ensures ∙ c.self.inside.readings.ok.0)
    c.run.view_is c.channels-channels.ensures.same (ap (λ (n : ℕ). n * size) c.from.ensures)
    (ap (λ (n : ℕ). n * size) c.from-else-samples-from.ensures)
    (rw (
      ne_eqb c.len-samples.result (c.from.result * size) c.if-samples-from.false,
      ne_eqb c.len-samples.result (c.from-else-samples-from.result * size) c.if-samples-from-2.false,
    ) refl)
