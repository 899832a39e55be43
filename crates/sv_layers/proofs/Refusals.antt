-- If a layer refuses what is asked, it returns the error that the definition names; if it does what
-- is asked, the definition names none.
use Rattle.std.proofs.Common.{◌≡◌, refl}
use Rattle.std.specs.Prelude.{Option, Some, None, Ok, Err}
use Rattle.sv_errors.specs.declared.code.Code.{Code}
use Rattle.sv_scan.specs.Answered.{refused_by}

pub no_fault_if_done : (fault : Option Code) → Ok tt ≡ refused_by fault → fault ≡ None
no_fault_if_done None same = refl
no_fault_if_done (Some code) same = absurd cc

pub fault_of_refusal : (fault : Option Code) (code : Code) → Err code ≡ refused_by fault → fault ≡ Some code
fault_of_refusal None code same = absurd cc
fault_of_refusal (Some other) code same = cc
