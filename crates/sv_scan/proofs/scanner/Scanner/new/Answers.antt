use Rattle.sv_scan.proofs.Stands.{stands_for_new}
use Rattle.sv_errors.specs.Limits.{channel_count}
use Rattle.sv_scan.proofs.scanner.Scanner.new.Goals as goal

pub returns : goal.returns
returns g c =
    rw (c.in_ok-with_capacity.ensures.items) (stands_for_new channel_count c.new.result c.new.ensures)
