use Rattle.sv_scan.specs.Counted.{effective}
use Rattle.sv_scan.proofs.Searches.{last_reading_is_found}
use Rattle.sv_scan.proofs.scanner.Scanner.last_reading.Goals as goal

pub returns : goal.returns
returns g c acts is =
    let h = rw (← c.self.view_is) at is in
    rw (c.copied.ensures, c.last.ensures.value) (last_reading_is_found c.deref.result.now c.self.inside.readings.items
    (effective acts) c.deref.ensures.value h.readings)
