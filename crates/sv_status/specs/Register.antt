-- A status register (SCPI-1999, chapter 20, STATus): its condition, filters, event bits and enable.
-- Each is defined by a search of the acts, the newest first.
use Rattle.std.specs.Prelude.{◌≡◌, ◌↔◌, ◌⊎◌, ℕ, ◌%◌, ◌^◌, ⊤, List, [], ◌∷◌, Some, None}
use Rattle.std.specs.Int.{bit_at}
use Rattle.sv_logs.specs.Since.{Since, last_given}
use Rattle.sv_status.specs.declared.register.RegisterAct.{RegisterAct}
use Rattle.sv_status.specs.declared.register.RegisterAct.TheVariants.{Condition, SetFilter, SetEnable, ReadEvent, Preset, Clear}

-- the condition: the word that was set last; 0 at first
abbrev pub condition : List RegisterAct → ℕ
condition = last_given (elim [ Condition word ↦ Some word | _ ↦ None ]) 0

-- a word with bit 15 cleared
abbrev pub without_top_bit : ℕ → ℕ
without_top_bit word = word % 2 ^ 15

-- the positive transition filter: the word that was set last, without bit 15; 32767 at first and
-- after a preset
abbrev pub rise : List RegisterAct → ℕ
rise = last_given (elim [ SetFilter up down ↦ Some (without_top_bit up) | Preset ↦ Some 32767 | _ ↦ None ]) 32767

-- the negative transition filter: the word that was set last, without bit 15; 0 at first and after
-- a preset
abbrev pub fall : List RegisterAct → ℕ
fall = last_given (elim [ SetFilter up down ↦ Some (without_top_bit down) | Preset ↦ Some 0 | _ ↦ None ]) 0

-- the enable of the register: the word that was set last, without bit 15; `start` at first and
-- after a preset
abbrev pub enable : ℕ → List RegisterAct → ℕ
enable start = last_given (elim [ SetEnable word ↦ Some (without_top_bit word) | Preset ↦ Some start | _ ↦ None ]) start

-- At the newest act, bit k of the condition rises while bit k of the positive filter is set, or
-- falls while bit k of the negative filter is set. The filters are those before this act.
abbrev pub Passes : ℕ → List RegisterAct → Type 0
Passes k [] = ⊥
Passes k (act ∷ before) =
    ((bit_at (condition before) k ≡ 0) × (bit_at (condition (act ∷ before)) k ≡ 1) × (bit_at (rise before) k ≡ 1))
    ⊎ ((bit_at (condition before) k ≡ 1) × (bit_at (condition (act ∷ before)) k ≡ 0) × (bit_at (fall before) k ≡ 1))

-- The newest act doesn't clear the event register.
abbrev pub NotCleared : List RegisterAct → Type 0
NotCleared = elim [ ReadEvent ∷ acts ↦ ⊥ | Clear ∷ acts ↦ ⊥ | _ ↦ ⊤ ]

-- Bit k of the event register is set: after the last clearing, a change of the condition's bit k
-- passed its filter.
abbrev pub EventStands : ℕ → List RegisterAct → Type 0
EventStands k acts = Since (Passes k) NotCleared acts

-- Some bit is set both in the event register and in the enable.
abbrev pub Summary : ℕ → List RegisterAct → Type 0
Summary start acts = (k : ℕ) × EventStands k acts × (bit_at (enable start acts) k ≡ 1)

-- the state of a register
pub record Latches : Type 0 where
  pub condition : ℕ
  pub rise : ℕ
  pub fall : ℕ
  pub event : ℕ
  pub enable : ℕ
  pub start : ℕ

-- The state of a register stands for the acts. The enable of this register is `start` at first and
-- after a preset.
pub record StandsFor (start : ℕ) (latches : Latches) (acts : List RegisterAct) : Type 0 where
  pub begins : latches.start ≡ start
  pub condition : latches.condition ≡ condition acts
  pub rise : latches.rise ≡ rise acts
  pub fall : latches.fall ≡ fall acts
  pub enable : latches.enable ≡ enable start acts
  pub event : (k : ℕ) → (bit_at latches.event k ≡ 1) ↔ EventStands k acts

-- The state of the register stands for the acts. The enable at first and after a preset is the
-- `start` that the state stores.
abbrev pub Stands : Latches → List RegisterAct → Type 0
Stands latches acts = StandsFor latches.start latches acts
