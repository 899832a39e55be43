-- What each act of the scanner returns.
use Rattle.std.specs.Prelude.{◌≡◌, List, Option, Some, None, Result, Ok, Err, ⊤}
use Rattle.sv_errors.specs.declared.code.Code.{Code}
use Rattle.sv_scan.specs.declared.acts.ScanAct.{ScanAct}
use Rattle.sv_scan.specs.declared.acts.ScanAct.TheVariants.{Input, Configure, Init, Abort, Reset, Trigger, Sample}
use Rattle.sv_scan.specs.declared.acts.ScanAnswer.{ScanAnswer}
use Rattle.sv_scan.specs.declared.acts.ScanAnswer.TheVariants.{Done, Answered, Sampled}
use Rattle.sv_scan.specs.Scan.{state}
use Rattle.sv_scan.specs.Counted.{effective, is_scanning, setting_fault, init_fault, trigger_fault}

-- the result of an act: the error with which the act is refused, if an error is given; otherwise
-- `Ok`
abbrev pub refused_by : Option Code → Result ⊤ Code
refused_by None = Ok tt
refused_by (Some code) = Err code

-- the answer to `act` after the acts of `log`, all of which took effect
abbrev pub answer_to : List ScanAct → ScanAct → ScanAnswer
answer_to log (Input channel microvolts) = Done
answer_to log (Configure setting) = Answered (refused_by (setting_fault log setting))
answer_to log Init = Answered (refused_by (init_fault log))
answer_to log Abort = Done
answer_to log Reset = Done
answer_to log (Trigger source) = Answered (refused_by (trigger_fault log source))
answer_to log Sample = Sampled (is_scanning (state log))

-- After these acts, the scanner gives this answer to `act`.
abbrev pub Gives : List ScanAct → ScanAct → ScanAnswer → Type 0
Gives acts act answer = answer ≡ answer_to (effective acts) act
