use Rattle.std.proofs.Common.{◌∙◌, ◌-◌, ℕ, ap}
use Rattle.sv_scan.specs.Counted.{effective}
use Rattle.sv_scan.specs.Scan.{channel_at}
use Rattle.sv_scan.proofs.Searches.{newest_is}
use Rattle.sv_scan.proofs.scanner.Scanner.newest_reading.Goals as goal

pub returns : goal.returns
returns g c acts is =
    let h = rw (← c.self.view_is) at is in
    let place = c.saturating_sub.ensures ∙ ap (λ (n : ℕ). n - 1) (c.len.ensures ∙ c.self.inside.readings.ok.0) in
    newest_is _ (effective acts) c.in-Some.run' c.in_ok-reading.reading c.channel.result h c.in-Some.is (c.in_ok-reading.ensures acts is)
    (c.channel.ensures ∙ ap (channel_at c.in-Some.run'.channels) place)
