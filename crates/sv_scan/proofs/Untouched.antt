-- Which condition words an act may change.
use Rattle.std.proofs.Common.{ℕ, ◌+◌, ◌==◌, ℤ, Bool, true, false, List, ◌∷◌, refl, ap, if◌then◌else◌}
use Rattle.std.specs.Prelude.{Some, None, unwrap_or, int_lt, ◌&&◌, ◌||◌}
use Rattle.sv_scan.specs.declared.acts.ScanAct.{ScanAct}
use Rattle.sv_scan.specs.declared.acts.ScanAct.TheVariants.{Input}
use Rattle.sv_scan.specs.Setting.{monitor, input, limits, lower, upper}
use Rattle.sv_scan.specs.Scan.{last_reading}
use Rattle.sv_scan.specs.Condition.{bit, is_below, is_above}
use Rattle.sv_scan.specs.Touched.{IsTouched}

-- If every word may have changed, nothing is claimed.
pub is_touched_all : (act : ScanAct) (log : List ScanAct)
    → IsTouched (record { operation = true; questionable = true; limit = true }) (act ∷ log)
is_touched_all act log = ((λ e. absurd cc), (λ e. absurd cc), (λ e. absurd cc))

-- The limit condition, from the monitored channel's present input.
abbrev live_word : ℤ → List ScanAct → ℕ
live_word live log = bit 0 (limits log && is_below (last_reading log) (lower log))
    + bit 1 (limits log && is_above (last_reading log) (upper log))
    + bit 2 (limits log && (int_lt live (lower log) || int_lt (upper log) live))

-- Setting an input changes a condition word only if its channel is monitored.
pub is_touched_input : (channel : ℕ) (microvolts : ℤ) (log : List ScanAct)
    → IsTouched (record { operation = false; questionable = false; limit = channel == monitor log }) (Input channel microvolts ∷ log)
is_touched_input channel microvolts log = (
  (λ e. refl),
  (λ e. refl),
  (λ e. ap (λ (b : Bool). live_word (unwrap_or (if b then Some microvolts else None) (input (monitor log) log)) log) e),
)
