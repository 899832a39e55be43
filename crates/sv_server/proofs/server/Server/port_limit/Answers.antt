use Rattle.std.proofs.Common.{◌≡◌, ◌∙◌, false, sym, arith}
use Rattle.sv_links.specs.Channels.{was_opened}
use Rattle.sv_history.specs.Act.{device_acts}
use Rattle.sv_server.proofs.OnReplay.Ports.{none_wait_on_unopened}
use Rattle.sv_server.proofs.server.Server.port_limit.Goals as goal

pub returns-then-was_channel_opened-clause-none : goal.returns-then-was_channel_opened-clause-none
returns-then-was_channel_opened-clause-none g c = λ config history channel_log log number s above below.
    absurd (omega (arith, above, below))

pub returns-else-was_channel_opened-clause-none : goal.returns-else-was_channel_opened-clause-none
returns-else-was_channel_opened-clause-none g c = λ config history channel_log log number s above below.
    let stands = rw (← c.self.view_is) at s in
    let never : was_opened channel_log ≡ false =
    sym (c.was_channel_opened.ensures config (device_acts log) channel_log stands.1.device stands.3) ∙ c.if-was_channel_opened.false in
    none_wait_on_unopened config history channel_log log number _ (omega (arith, above, c.min.ensures)) stands never
