use Rattle.std.proofs.Common.{◌≡◌, false, Some, None, refl, rules}
use Rattle.std.specs.Prelude.{Option, Err, is_none}
use Rattle.sv_errors.specs.declared.code.Code.{Code}
use Rattle.sv_scan.specs.Answered.{refused_by}
use Rattle.sv_layers.specs.Act.{scan_acts}
use Rattle.sv_instrument.proofs.instrument.Instrument.is_fire_due.Goals as goal

has_fault : (fault : Option Code) (code : Code) → Err code ≡ refused_by fault → false ≡ is_none fault
has_fault None code e = absurd cc
has_fault (Some other) code e = refl

pub returns-in-Err : goal.returns-in-Err
returns-in-Err g c = λ log s.
    let held = rw (← c.self.view_is) at s in
    has_fault _ c.in-Err._ignored (c.in-Err.ensures.answer (scan_acts log) (c.scanner.ensures.stands log held.layers.stands))

pub returns-in-Ok : goal.returns-in-Ok
returns-in-Ok g c = search rules
