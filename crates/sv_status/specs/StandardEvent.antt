-- The standard event status register (IEEE 488.2, 11.5.1). It is defined by a search of the acts,
-- the newest first.
use Rattle.std.specs.Prelude.{◌≡◌, ◌↔◌, ℕ, ⊤, List, [], ◌∷◌, Some, None}
use Rattle.std.specs.Int.{bit_at}
use Rattle.sv_logs.specs.Since.{Since, last_given}
use Rattle.sv_status.specs.declared.standard_event.StandardAct.{StandardAct}
use Rattle.sv_status.specs.declared.standard_event.StandardAct.TheVariants.{Occur, Read, SetEnable, Clear}

-- Event k occurs at the newest act. Power on (bit 7) occurs before all acts.
abbrev pub Occurs : ℕ → List StandardAct → Type 0
Occurs k [] = k ≡ 7
Occurs k (Occur bits ∷ acts) = bit_at bits k ≡ 1
Occurs k (_ ∷ acts) = ⊥

-- The newest act doesn't clear the register.
abbrev pub NotCleared : List StandardAct → Type 0
NotCleared = elim [ Read ∷ acts ↦ ⊥ | Clear ∷ acts ↦ ⊥ | _ ↦ ⊤ ]

-- Bit k of the standard event status register is set: event k occurred after the last clearing.
abbrev pub Stands : ℕ → List StandardAct → Type 0
Stands k acts = Since (Occurs k) NotCleared acts

-- the enable that was set last; 0 at first
abbrev pub enable : List StandardAct → ℕ
enable = last_given (elim [ SetEnable word ↦ Some word | _ ↦ None ]) 0

-- Some bit is set both in the standard event status register and in its enable.
abbrev pub Summary : List StandardAct → Type 0
Summary acts = (k : ℕ) × Stands k acts × (bit_at (enable acts) k ≡ 1)

-- the state of the register
pub record Latches : Type 0 where
  pub event : ℕ
  pub enable : ℕ

-- The state of the standard event status register stands for the acts.
pub record StandsFor (latches : Latches) (acts : List StandardAct) : Type 0 where
  pub enable : latches.enable ≡ enable acts
  pub event : (k : ℕ) → (bit_at latches.event k ≡ 1) ↔ Stands k acts
