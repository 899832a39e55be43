use Rattle.std.specs.Prelude.{codes}
use Rattle.sv_explain.specs.Lines.{numbers_line}
use Rattle.sv_print.proofs.Taking.{prints_then}
use Rattle.sv_explain.proofs.Printing.{prints_of_equals}
use Rattle.sv_explain.proofs.shown.ScannerShown.update.Goals as goal

pub returns-clause-lines : goal.returns-clause-lines
returns-clause-lines g c =
    prints_then _ _ _ _ _ _ _ _ c.put_settings.ensures
    (prints_then _ _ _ _ _ _ _ _
    (prints_of_equals (numbers_line (codes "list")) _ _ _ _ _ _ _ _
    c.as_slice-old.ensures.value c.as_slice-new.ensures.value c.put_numbers.ensures)
    c.put_measurement.ensures)
