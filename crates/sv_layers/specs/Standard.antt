-- Standard events (IEEE 488.2, 11.5.1) and operation complete (12.5.2), by searches of the log.
use Rattle.std.specs.Prelude.{◌≡◌, ◌⊎◌, ℕ, Bool, true, false, ⊤, List, [], ◌∷◌, Some, None}
use Rattle.std.specs.Int.{bit_at}
use Rattle.sv_logs.specs.Since.{Since, last_given}
use Rattle.sv_errors.specs.Code.{standard_event_of}
use Rattle.sv_errors.specs.ErrorQueue.{is_full}
use Rattle.sv_scan.specs.declared.acts.ScanAct.TheVariants.{Reset}
use Rattle.sv_layers.specs.declared.change.StatusChange.TheVariants.{ReadStandard, EnableStandard}
use Rattle.sv_layers.specs.Act.{Act, Scanned, Purged, Cleared, OpcAsked, Reported, queue_acts, StatusChanged}
use Rattle.sv_layers.specs.Condition.{is_idle}

-- The newest act is an `*OPC`.
abbrev pub IsAsked : List Act → Type 0
IsAsked = elim [ OpcAsked ∷ log ↦ ⊤ | _ ↦ ⊥ ]

-- whether an act cancels a pending `*OPC`: `*CLS`, `*RST` and device clear do
abbrev pub cancels : Act → Bool
cancels = elim [ Cleared ↦ true | Scanned Reset ↦ true | Purged ↦ true | _ ↦ false ]

-- After the newest act a measurement is under way, and the act doesn't cancel a pending `*OPC`.
abbrev pub IsPending : List Act → Type 0
IsPending [] = ⊤
IsPending (act ∷ log) = (is_idle (act ∷ log) ≡ false) × (cancels act ≡ false)

-- An `*OPC` is pending: there was one, and at each moment since then a measurement was under way
-- and nothing cancelled the `*OPC`.
abbrev pub Waits : List Act → Type 0
Waits log = Since IsAsked IsPending log

-- At the newest act an `*OPC` completes: no measurement is under way. Either the newest act is the
-- `*OPC`; or an `*OPC` was pending before, and the newest act doesn't cancel it.
abbrev pub Completes : List Act → Type 0
Completes [] = ⊥
Completes (act ∷ before) = (is_idle (act ∷ before) ≡ true) × (IsAsked (act ∷ before) ⊎ (Waits before × (cancels act ≡ false)))

-- The standard event of bit k occurs at the newest act. Bit 7: power on, which occurs before all
-- acts. Bit 0: an `*OPC` completes. Bits 5 to 2: an error of the bit's class is reported. Bit 3
-- also occurs if the error queue overflows.
abbrev pub Occurs : ℕ → List Act → Type 0
Occurs k [] = k ≡ 7
Occurs k (Reported code ∷ log) = (bit_at (standard_event_of code) k ≡ 1) ⊎ ((k ≡ 3) × (is_full (queue_acts log) ≡ true))
    ⊎ ((k ≡ 0) × Completes (Reported code ∷ log))
Occurs k log = (k ≡ 0) × Completes log

-- The newest act doesn't clear the standard event status register: the act is neither `*CLS` nor
-- `*ESR?`.
abbrev pub NotCleared : List Act → Type 0
NotCleared = elim [ StatusChanged ReadStandard ∷ log ↦ ⊥ | Cleared ∷ log ↦ ⊥ | _ ↦ ⊤ ]

-- A bit of the standard event status register is set: its event occurred after the last clearing.
abbrev pub Stands : ℕ → List Act → Type 0
Stands k log = Since (Occurs k) NotCleared log

-- the enable mask of the standard events: the one that was set last; 0 at first
abbrev pub enable : List Act → ℕ
enable = last_given (elim [ StatusChanged (EnableStandard mask) ↦ Some mask | _ ↦ None ]) 0

-- The summary of the standard events is set: some event is set and enabled.
abbrev pub Summary : List Act → Type 0
Summary log = (k : ℕ) × Stands k log × (bit_at (enable log) k ≡ 1)
