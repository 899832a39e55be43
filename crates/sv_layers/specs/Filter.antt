-- Filters, enables and clearing of the event registers (SCPI-1999, chapter 20, STATus), by searches
-- of the log.
use Rattle.std.specs.Prelude.{ℕ, ◌==◌, Bool, true, false, not, ◌&&◌, ◌||◌, List, [], ◌∷◌, Option, Some, None, if◌then◌else◌}
use Rattle.std.specs.Int.{bit_at}
use Rattle.sv_logs.specs.Since.{last_given}
use Rattle.sv_status.specs.declared.register_name.RegisterName.{RegisterName}
use Rattle.sv_status.specs.declared.register_name.RegisterName.TheVariants.{Operation, Questionable, Limit}
use Rattle.sv_status.specs.Register.{without_top_bit}
use Rattle.sv_layers.specs.declared.change.RegisterChange.TheVariants.{ReadEvents, Enable, SetRise, SetFall}
use Rattle.sv_layers.specs.declared.change.StatusChange.TheVariants.{Register}
use Rattle.sv_layers.specs.Act.{Act, Preset, Cleared, StatusChanged}

-- whether two registers are the same
abbrev pub is_same : RegisterName → RegisterName → Bool
is_same Operation Operation = true
is_same Questionable Questionable = true
is_same Limit Limit = true
is_same _ _ = false

-- the enable mask of a register at power on and after a preset: 32767 for the limit register, 0 for
-- every other register
abbrev pub start : RegisterName → ℕ
start = elim [ Limit ↦ 32767 | _ ↦ 0 ]

-- the new mask of register `name` after an act that sets this mask for register `other`: this mask
-- without bit 15, if both are the same register; else `None`
abbrev pub mask_for : RegisterName → RegisterName → ℕ → Option ℕ
mask_for name other mask = if is_same name other then Some (without_top_bit mask) else None

-- the positive transition filter of a register: the mask that was set last, without bit 15; 32767
-- at power on and after a preset
abbrev pub rise : RegisterName → List Act → ℕ
rise name = last_given (elim [ StatusChanged (Register other (SetRise mask)) ↦ mask_for name other mask | Preset ↦ Some 32767 | _ ↦ None ])
    32767

-- the negative transition filter of a register: the mask that was set last, without bit 15; 0 at
-- power on and after a preset
abbrev pub fall : RegisterName → List Act → ℕ
fall name = last_given (elim [ StatusChanged (Register other (SetFall mask)) ↦ mask_for name other mask | Preset ↦ Some 0 | _ ↦ None ]) 0

-- the enable mask of a register: the mask that was set last, without bit 15; `start` at power on
-- and after a preset
abbrev pub enable : RegisterName → List Act → ℕ
enable name = last_given
    (elim [ StatusChanged (Register other (Enable mask)) ↦ mask_for name other mask | Preset ↦ Some (start name) | _ ↦ None ]) (start name)

-- whether bit k of this number is set
abbrev pub has_bit : ℕ → ℕ → Bool
has_bit word k = bit_at word k == 1

-- whether the newest act changes bit k of the condition, and the change passes its filter. A change
-- to 1 passes if bit k of the positive filter was set before the act; a change to 0 passes if bit k
-- of the negative filter was set.
abbrev pub passes : (List Act → ℕ) → RegisterName → ℕ → List Act → Bool
passes condition name k [] = false
passes condition name k (act ∷ before) =
    (not (has_bit (condition before) k) && (has_bit (condition (act ∷ before)) k && has_bit (rise name before) k))
    || (has_bit (condition before) k && (not (has_bit (condition (act ∷ before)) k) && has_bit (fall name before) k))

-- whether the newest act doesn't clear the event register: it is neither `*CLS` nor a read of this
-- event register
abbrev pub leaves : RegisterName → List Act → Bool
leaves name = elim [ StatusChanged (Register other ReadEvents) ∷ log ↦ not (is_same name other) | Cleared ∷ log ↦ false | _ ↦ true ]
