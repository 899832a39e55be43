use Rattle.std.proofs.Common.{sym, ◌∙◌}
use Rattle.sv_server.proofs.device.Device.destroy_channel.Goals as goal

pub returns-then-has_channel-clause-ends : goal.returns-then-has_channel-clause-ends
returns-then-has_channel-clause-ends g c = λ config acts old.
    rw (sym (c.has_channel.ensures config acts old) ∙ c.if-has_channel.true)
    (sym c.plain.ensures, c.close_channel.ensures.stands config acts old)

pub returns-else-has_channel-clause-ends : goal.returns-else-has_channel-clause-ends
returns-else-has_channel-clause-ends g c = λ config acts old.
    rw (sym (c.has_channel.ensures config acts old) ∙ c.if-has_channel.false) (sym c.plain-else-has_channel.ensures, old)
