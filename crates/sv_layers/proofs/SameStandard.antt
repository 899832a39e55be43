-- The log of the standard events and the instrument's log agree on the event bits and the enable.
use Rattle.std.proofs.Common.{◌≡◌, ℕ, List, [], ◌∷◌, refl, ap, ◌⊎◌}
use Rattle.std.specs.Prelude.{◌↔◌}
use Rattle.sv_errors.specs.declared.code.Code.{Code}
use Rattle.sv_errors.specs.declared.error_queue.QueueAct.{QueueAct}
use Rattle.sv_errors.specs.Code.{standard_event_of}
use Rattle.sv_errors.specs.ErrorQueue.{is_full}
use Rattle.sv_logs.proofs.Since.{since_unique, step_kept, step_ended, iff_transitive}
use Rattle.sv_status.specs.declared.standard_event.StandardAct.{StandardAct}
use Rattle.sv_status.specs.declared.standard_event.StandardAct.TheVariants as standard
use Rattle.sv_status.specs.StandardEvent as stands
use Rattle.sv_status.proofs.StandardEvents.{stands_none, stands_occurred, stands_enable, stands_read, stands_cleared}
use Rattle.sv_scan.specs.Condition.{bit}
use Rattle.sv_layers.specs.declared.change.StatusChange.TheVariants.{ReadStandard, EnableStandard}
use Rattle.sv_layers.specs.Act.{Act, Reported, Cleared, StatusChanged}
use Rattle.sv_layers.specs.Standard.{Completes, Occurs, NotCleared, enable}
use Rattle.sv_layers.specs.Inside.LayerLogs.{report_bits, layer_logs}
use Rattle.sv_layers.specs.Laws.{SameEnable, SameStandardEvents}
use Rattle.sv_layers.proofs.Bits.{bit_of}
use Rattle.sv_layers.proofs.Either.{iff_refl, either_congruent, both_congruent, iff_from_equal, four_reordered}
use Rattle.sv_layers.proofs.Projected.{projected}
use Rattle.sv_layers.proofs.Completion.{completes, completes_is}

-- An act that completes an `*OPC` sets bit 0.
completed : (k : ℕ) (act : Act) (log : List Act) (acts : List StandardAct)
    → stands.Stands k (standard.Occur (bit 0 (completes act log)) ∷ acts) ↔ (((k ≡ 0) × Completes (act ∷ log)) ⊎ stands.Stands k acts)
completed k act log acts = either_congruent (stands_occurred k (bit 0 (completes act log)) acts)
    (iff_transitive (bit_of 0 (completes act log) k) (both_congruent (completes_is act log))) iff_refl

-- A reported error sets the bit of its class, bit 3 if the queue overflows, and bit 0 if an `*OPC`
-- completes.
reported : (k : ℕ) (code : Code) (log : List Act) → stands.Stands k (standard.Occur (bit 0 (completes (Reported code) log))
    ∷ report_bits code (is_full (layer_logs log).errors) (layer_logs log).standard)
    ↔ (Occurs k (Reported code ∷ log) ⊎ stands.Stands k (layer_logs log).standard)
reported k code log =
    let full = is_full (layer_logs log).errors in
    let event = standard_event_of code in
    let queue = ap (λ (acts : List QueueAct). is_full acts) (projected log).1 in
    let overflow = iff_transitive (bit_of 3 full k) (both_congruent (iff_from_equal full _ queue)) in
    four_reordered (completed k (Reported code) log (report_bits code full (layer_logs log).standard))
    (either_congruent (stands_occurred k (bit 3 full) (standard.Occur event ∷ (layer_logs log).standard)) overflow iff_refl)
    (stands_occurred k event (layer_logs log).standard)

-- After an act, a bit is set if the act doesn't clear it, and it occurs at the act or was set
-- before. If the enables agreed before the act, they agree after it.
abbrev StandardStep : ℕ → Act → List Act → Type 0
StandardStep k act log = (stands.Stands k (layer_logs (act ∷ log)).standard
    ↔ (NotCleared (act ∷ log) × (Occurs k (act ∷ log) ⊎ stands.Stands k (layer_logs log).standard)))
    × (stands.enable (layer_logs log).standard ≡ enable log → stands.enable (layer_logs (act ∷ log)).standard ≡ enable (act ∷ log))

standard_step : (k : ℕ) (act : Act) (log : List Act) → StandardStep k act log
standard_step k (Reported code) log = (step_kept tt (reported k code log), λ same. same)
standard_step k Cleared log = (step_ended (λ kept. kept) (stands_cleared k _), λ same. same)
standard_step k (StatusChanged ReadStandard) log = (step_ended (λ kept. kept) (stands_read k _), λ same. same)
standard_step k (StatusChanged (EnableStandard mask)) log =
    (step_kept tt (iff_transitive (stands_enable k mask _) (completed k (StatusChanged (EnableStandard mask)) log _)), λ same. refl)
standard_step k act log = (step_kept tt (completed k act log _), λ same. same)

pub same_standard_events : SameStandardEvents
same_standard_events k = since_unique (Occurs k) NotCleared (λ log. stands.Stands k (layer_logs log).standard)
    ((λ s. ((stands_none k).0 s, tt)), (λ h. (stands_none k).1 h.0)) (λ act log. (standard_step k act log).0)

pub same_enable : SameEnable
same_enable [] = refl
same_enable (act ∷ log) = (standard_step 0 act log).1 (same_enable log)
