-- Event bits and summaries of the status registers (SCPI-1999, chapter 20, STATus), by searches of
-- the log.
use Rattle.std.specs.Prelude.{◌≡◌, ℕ, true, List}
use Rattle.std.specs.Int.{bit_at}
use Rattle.sv_logs.specs.Since.{Since}
use Rattle.sv_status.specs.declared.register_name.RegisterName.{RegisterName}
use Rattle.sv_layers.specs.Act.{Act}
use Rattle.sv_layers.specs.Condition.{condition}
use Rattle.sv_layers.specs.Filter.{enable, passes, leaves}

-- Bit k of an event register is set: since the register was last cleared, a transition of condition
-- bit k passed the transition filter.
abbrev pub EventStands : RegisterName → ℕ → List Act → Type 0
EventStands name k log = Since (λ place. passes (condition name) name k place ≡ true) (λ place. leaves name place ≡ true) log

-- The summary of a register is set: some bit of its event register is set and enabled.
abbrev pub Summary : RegisterName → List Act → Type 0
Summary name log = (k : ℕ) × EventStands name k log × (bit_at (enable name log) k ≡ 1)
