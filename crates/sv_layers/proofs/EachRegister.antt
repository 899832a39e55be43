-- At power on, each status register's condition is 0 and its enable mask fits in 16 bits; the
-- condition depends only on the scanner's acts and the summary bits.
use Rattle.std.proofs.Common.{◌≡◌, ◌+◌, ◌<◌, ◌^◌, Bool, List, [], refl, ap, ◌∙◌, arith}
use Rattle.sv_status.specs.declared.register_name.RegisterName.{RegisterName}
use Rattle.sv_status.specs.declared.register_name.RegisterName.TheVariants.{Operation, Questionable, Limit}
use Rattle.sv_scan.specs.declared.acts.ScanAct.{ScanAct}
use Rattle.sv_scan.specs.Condition as scan
use Rattle.sv_layers.specs.Act.{Act}
use Rattle.sv_layers.specs.Filter.{start}
use Rattle.sv_layers.specs.Condition.{effective_acts, scan_word, word, summary, condition}

pub first_condition : (name : RegisterName) → condition name [] ≡ 0
first_condition Operation = refl
first_condition Questionable = refl
first_condition Limit = refl

pub start_small : (name : RegisterName) → start name < 2 ^ 16
start_small Operation = omega arith
start_small Questionable = omega arith
start_small Limit = omega arith

-- Equal acts of the scanner and equal summaries give equal conditions.
pub condition_same : (name : RegisterName) (log other : List Act) → effective_acts log ≡ effective_acts other
    → ((below : RegisterName) → summary below log ≡ summary below other) → condition name log ≡ condition name other
condition_same Questionable log other same summaries =
    ap (λ (acts : List ScanAct). scan_word Questionable acts + scan.bit 9 (summary Limit log)) same
    ∙ ap (λ (b : Bool). word Questionable other + scan.bit 9 b) (summaries Limit)
condition_same name log other same summaries = ap (λ (acts : List ScanAct). scan_word name acts) same
