-- The condition registers (SCPI-1999, chapter 20) and the state of the trigger system, by searches
-- of the log.
use Rattle.std.specs.Prelude.{ℕ, ◌+◌, Bool, ◌&&◌, List}
use Rattle.std.specs.List.{list_any, range_with_len}
use Rattle.sv_logs.specs.Since.{is_since}
use Rattle.sv_status.specs.declared.register_name.RegisterName.{RegisterName}
use Rattle.sv_status.specs.declared.register_name.RegisterName.TheVariants.{Operation, Questionable, Limit}
use Rattle.sv_scan.specs.declared.acts.ScanAct.{ScanAct}
use Rattle.sv_scan.specs.Scan.{state}
use Rattle.sv_scan.specs.Counted.{effective, is_idle as idles}
use Rattle.sv_scan.specs.Condition as scan
use Rattle.sv_layers.specs.Act.{Act, scan_acts}
use Rattle.sv_layers.specs.Filter.{enable, has_bit, passes, leaves}

-- the acts of the scanner that have an effect. An act that the scanner refused is in the log, but
-- has no effect.
abbrev pub effective_acts : List Act → List ScanAct
effective_acts log = effective (scan_acts log)

-- whether no measurement is under way
abbrev pub is_idle : List Act → Bool
is_idle log = idles (state (effective_acts log))

-- the condition bits that the scanner determines in a register, given the scanner's acts that have
-- an effect
abbrev pub scan_word : RegisterName → List ScanAct → ℕ
scan_word Operation acts = scan.operation acts
scan_word Questionable acts = scan.questionable acts
scan_word Limit acts = scan.limit acts

-- the condition bits that the scanner determines in a register, given the log
abbrev pub word : RegisterName → List Act → ℕ
word name log = scan_word name (effective_acts log)

-- whether the summary of a register without nested registers is set: since the event register was
-- last cleared, a transition of some condition bit passed its filter, and this bit is enabled
abbrev pub summary : RegisterName → List Act → Bool
summary name log =
    list_any (λ k. is_since (passes (word name) name k) (leaves name) log && has_bit (enable name log) k) (range_with_len 0 16)

-- The condition of a register. Bit 9 of the questionable condition is the summary of the limit
-- register, which is nested in the questionable register.
abbrev pub condition : RegisterName → List Act → ℕ
condition Questionable log = word Questionable log + scan.bit 9 (summary Limit log)
condition name log = word name log
