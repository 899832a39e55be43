-- When nothing becomes due while only time passes.
use Rattle.std.specs.Prelude.{◌≡◌, ℕ, ◌+◌, false, List}
use Rattle.sv_links.specs.Waiting.{IsExpired}
use Rattle.sv_scan.specs.Counted.{is_scanning}
use Rattle.sv_scan.specs.Scan.{state}
use Rattle.sv_layers.specs.Condition.{effective_acts}
use Rattle.sv_history.specs.declared.event.Config.{Config}
use Rattle.sv_history.specs.Act.{DeviceAct, wait_acts, instrument_acts, ticks}

-- No suspended call has a deadline within `most` milliseconds (VXI-11 revision 1.0, section B.4.4).
abbrev pub IsUnhurried : ℕ → Config → List DeviceAct → Type 0
IsUnhurried most config acts = (c : ℕ) → IsExpired (config.clock + ticks acts + most) (wait_acts acts) c → ⊥

-- No suspended call has a deadline within `most` milliseconds, and no scan is under way. (During a
-- scan the instrument reads a channel each millisecond.)
abbrev pub IsStill : ℕ → Config → List DeviceAct → Type 0
IsStill most config acts = (is_scanning (state (effective_acts (instrument_acts acts))) ≡ false) × IsUnhurried most config acts
