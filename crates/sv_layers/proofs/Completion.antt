-- The layers' logs and the instrument's log agree on whether an `*OPC` is pending or completes.
use Rattle.std.proofs.Common.{◌≡◌, Bool, true, false, List, ◌∷◌, refl, ap, ◌∙◌, sym, ◌⊎◌, inl, inr}
use Rattle.std.specs.Prelude.{◌↔◌, not, ◌&&◌}
use Rattle.sv_logs.proofs.Since.{since_unique, step_kept, step_same, step_ended, iff_transitive}
use Rattle.sv_scan.specs.declared.acts.ScanAct.{ScanAct}
use Rattle.sv_scan.specs.declared.acts.ScanAct.TheVariants.{Reset}
use Rattle.sv_scan.specs.Scan.{state}
use Rattle.sv_scan.specs.Counted.{effective, is_idle as idle_state}
use Rattle.sv_layers.specs.declared.change.StatusChange.TheVariants.{EnableService}
use Rattle.sv_layers.specs.Act.{Act, Purged, Scanned, Cleared, OpcAsked, StatusChanged}
use Rattle.sv_layers.specs.Condition.{is_idle}
use Rattle.sv_layers.specs.Standard.{IsAsked, IsPending, Completes, cancels}
use Rattle.sv_layers.specs.Inside.LayerLogs.{LayerLogs, after_begin, resets, idles, layer_logs}
use Rattle.sv_layers.specs.Laws.{SameWaiting, SameCompletion}
use Rattle.sv_layers.proofs.Either.{iff_refl}
use Rattle.sv_layers.proofs.Booleans.{and_both, and_not}
use Rattle.sv_layers.proofs.Projected.{begun_scanner}

-- `*RST` cancels a pending `*OPC`; no other act of the scanner does.
scanned_waits : (act : ScanAct) (log : List Act) (b : Bool)
    → ((b && not (resets act)) ≡ true) ↔ ((cancels (Scanned act) ≡ false) × (IsAsked (Scanned act ∷ log) ⊎ (b ≡ true)))
scanned_waits Reset log b = step_ended (λ e. absurd cc) (λ e. absurd (let h = (and_not b true).0 e in cc))
scanned_waits _ log b = step_same refl (λ none. none) (iff_transitive (and_not b false) ((λ h. h.1), (λ e. (refl, e))))

-- Whether an `*OPC` is pending after the first part of an act. An `*OPC` itself cancels none.
begun_waits : (act : Act) (log : List Act) (at : LayerLogs)
    → (((after_begin act at).waits ≡ true) ↔ ((cancels act ≡ false) × (IsAsked (act ∷ log) ⊎ (at.waits ≡ true))))
    × (IsAsked (act ∷ log) → cancels act ≡ false)
begun_waits Purged log at = (step_ended (λ e. absurd cc) (λ e. absurd cc), λ asked. absurd asked)
begun_waits (Scanned act) log at = (scanned_waits act log at.waits, λ asked. absurd asked)
begun_waits Cleared log at = (step_ended (λ e. absurd cc) (λ e. absurd cc), λ asked. absurd asked)
begun_waits OpcAsked log at = (step_kept refl ((λ e. inl tt), (λ h. refl)), λ asked. refl)
begun_waits (StatusChanged (EnableService mask)) log at = (step_same refl (λ none. none) iff_refl, λ asked. refl)
begun_waits _ log at = (step_same refl (λ none. none) iff_refl, λ asked. refl)

-- The first part of an act decides whether a measurement is under way after the act.
begun_idle : (act : Act) (log : List Act) → idles (after_begin act (layer_logs log)) ≡ is_idle (act ∷ log)
begun_idle act log = ap (λ (acts : List ScanAct). idle_state (state (effective acts))) (begun_scanner act log)

seen_waits : (act : Act) (log : List Act)
    → (layer_logs (act ∷ log)).waits ≡ ((after_begin act (layer_logs log)).waits && not (is_idle (act ∷ log)))
seen_waits act log = ap (λ (b : Bool). (after_begin act (layer_logs log)).waits && not b) (begun_idle act log)

waits_step : (act : Act) (log : List Act)
    → ((layer_logs (act ∷ log)).waits ≡ true) ↔ (IsPending (act ∷ log) × (IsAsked (act ∷ log) ⊎ ((layer_logs log).waits ≡ true)))
waits_step act log =
    let both = and_not (after_begin act (layer_logs log)).waits (is_idle (act ∷ log)) in
    let began = (begun_waits act log (layer_logs log)).0 in (
      (λ e. let h = both.0 (sym (seen_waits act log) ∙ e) in let w = began.0 h.1 in ((h.0, w.0), w.1)),
      (λ h. seen_waits act log ∙ both.1 (h.0.0, began.1 (h.0.1, h.1))),
    )

pub same_waiting : SameWaiting
same_waiting = since_unique IsAsked IsPending (λ log. (layer_logs log).waits ≡ true) ((λ e. absurd cc), (λ h. absurd h.0)) waits_step

-- Whether an `*OPC` completes at an act, by the logs of the layers.
abbrev pub completes : Act → List Act → Bool
completes act before = (after_begin act (layer_logs before)).waits && idles (after_begin act (layer_logs before))

pub completes_is : (act : Act) (before : List Act) → (completes act before ≡ true) ↔ Completes (act ∷ before)
completes_is act before =
    let both = and_both (after_begin act (layer_logs before)).waits (idles (after_begin act (layer_logs before))) in
    let began = (begun_waits act before (layer_logs before)).0 in
    let idle = begun_idle act before in
    let waits = same_waiting before in (
      (λ e.
          let h = both.0 e in
          let w = began.0 h.1 in
          (sym idle ∙ h.0, elim w.1 [ inl asked ↦ inl asked | inr waited ↦ inr (waits.0 waited, w.0) ])),
      (λ h. both.1 (
        idle ∙ h.0,
        elim h.1 [
          | inl asked ↦ began.1 ((begun_waits act before (layer_logs before)).1 asked, inl asked)
          | inr waited ↦ began.1 (waited.1, inr (waits.1 waited.0))
        ],
      )),
    )

pub same_completion : SameCompletion
same_completion act before = (completes act before, refl, completes_is act before)
