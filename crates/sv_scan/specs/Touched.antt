-- Which condition words of the status registers (SCPI-1999, chapter 20) stayed unchanged at the
-- newest act of the scanner that took effect.
use Rattle.std.specs.Prelude.{◌≡◌, false, ⊤, List, [], ◌∷◌}
use Rattle.sv_scan.specs.declared.touched.Touched.{Touched}
use Rattle.sv_scan.specs.declared.acts.ScanAct.{ScanAct}
use Rattle.sv_scan.specs.Condition.{operation, questionable, limit}

-- If a field of `touched` is false, the newest act didn't change the condition word that has the
-- name of this field. If there are no acts, nothing is stated.
abbrev pub IsTouched : Touched → List ScanAct → Type 0
IsTouched touched [] = ⊤
IsTouched touched (act ∷ log) = (touched.operation ≡ false → operation (act ∷ log) ≡ operation log)
    × (touched.questionable ≡ false → questionable (act ∷ log) ≡ questionable log)
    × (touched.limit ≡ false → limit (act ∷ log) ≡ limit log)

-- the value that says that no condition word changed
abbrev pub nothing : Touched
nothing = record { operation = false; questionable = false; limit = false }
