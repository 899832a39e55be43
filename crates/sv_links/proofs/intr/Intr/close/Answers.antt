use Rattle.std.proofs.Common.{arith, rules}
use Rattle.sv_links.specs.ChannelRepresentation.{Channels}
use Rattle.sv_links.proofs.Acts.{are_channels_closed}
use Rattle.sv_links.proofs.intr.Intr.close.Goals as goal

pub returns-clause-answer : goal.returns-clause-answer
returns-clause-answer g c = search rules

pub returns-clause-others : goal.returns-clause-others
returns-clause-others g c = search rules

pub returns-clause-stands : goal.returns-clause-stands
returns-clause-stands g c acts is =
    let kept : Channels =
    record { enabled = c.self.inside.enabled.items; channels = c.self.inside.channels.items; opened = c.self.inside.opened } in
    rw (← c.from.ensures) (are_channels_closed kept c.from.result c.close.new.self acts
    (omega (arith, c.requires, c.from.ensures, c.self.invariant.0)) c.close.ensures.closed (rw (← c.self.view_is) at is))

pub returns-clause-enabled : goal.returns-clause-enabled
returns-clause-enabled g c = search rules
