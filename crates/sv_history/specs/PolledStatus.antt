-- The status byte, as a poll would return it (IEEE 488.2, 11.2.2.1).
use Rattle.std.specs.Prelude.{◌≡◌, ◌↔◌, ℕ, List}
use Rattle.std.specs.Int.{bit_at}
use Rattle.sv_layers.specs.StatusByte.{PolledBit}
use Rattle.sv_history.specs.Act.{DeviceAct, instrument_acts}

-- A poll of the status byte after these acts would return the byte `polled`.
abbrev pub IsPolled : ℕ → List DeviceAct → Type 0
IsPolled polled acts = (k : ℕ) → (bit_at polled k ≡ 1) ↔ PolledBit k (instrument_acts acts)
