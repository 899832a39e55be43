-- If no immediate trigger can be taken, none is due. If no step is due, the line of the step is
-- empty.
use Rattle.std.proofs.Common.{◌≡◌, true, false, List, [], ◌∷◌, ◌++◌, Some, None, refl, sym, ◌∙◌}
use Rattle.std.specs.Prelude.{Option, map}
use Rattle.sv_errors.specs.declared.code.Code.{Code}
use Rattle.sv_errors.specs.declared.source.Source.TheVariants.{Immediate}
use Rattle.sv_scan.specs.declared.acts.ScanAct.TheVariants.{Trigger}
use Rattle.sv_scan.specs.Counted.{trigger_fault}
use Rattle.sv_layers.specs.Act.{Scanned}
use Rattle.sv_layers.specs.Condition.{effective_acts}
use Rattle.sv_instrument.specs.Stimulus.{IsFired}
use Rattle.sv_instrument.specs.Looking.{is_fire_due}
use Rattle.sv_history.specs.declared.event.Config.{Config}
use Rattle.sv_history.specs.Act.{Act, Applied, OnDevice, device_acts, instrument_acts}
use Rattle.sv_history.specs.Settling.{InstrumentDoes}
use Rattle.sv_explain.specs.declared.step.Due.{Due}
use Rattle.sv_explain.specs.declared.step.Due.TheVariants.{Nothing, Fire, Resume, Exchange, TimeOut}
use Rattle.sv_explain.specs.Steps.{step_line}
use Rattle.sv_server.specs.Explain.Telling.{Names}

pub no_trigger_due : (log : List Act) → ((next : List Act) → InstrumentDoes IsFired log next → ⊥)
    → is_fire_due (instrument_acts (device_acts log)) ≡ false
no_trigger_due log none = by (trigger_fault (effective_acts (instrument_acts (device_acts log))) Immediate) refl
  where
    by : (fault : Option Code) → trigger_fault (effective_acts (instrument_acts (device_acts log))) Immediate ≡ fault
        → is_fire_due (instrument_acts (device_acts log)) ≡ false
    by (Some code) e = rw e refl
    by None e = elim (none (map OnDevice (map Applied (Scanned (Trigger Immediate) ∷ [])) ++ log)
        (Scanned (Trigger Immediate) ∷ [], (e, refl), refl)) [ ]

pub nothing_line : (config : Config) (log : List Act) (name : Due) → Names name config log → Names Nothing config log → step_line name ≡ []
nothing_line config log Nothing named none = refl
nothing_line config log Fire named none = absurd (let z : true ≡ false = sym named ∙ none.0 in cc)
nothing_line config log (Resume c) named none = elim (none.1 c named.1.0) [ ]
nothing_line config log (Exchange due) named none = elim (none.2 due named.2) [ ]
nothing_line config log (TimeOut c) named none = elim (none.3 c named.3.0) [ ]
