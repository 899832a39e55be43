use Rattle.std.proofs.Common.{◌≡◌, ◌<◌, true, length, sym, ap, subst, ◌∙◌, arith, rules}
use Rattle.std.specs.Prelude.{slice_index_or, slice_set}
use Rattle.std.proofs.lemmas.Bool.{false≢true}
use Rattle.std.proofs.lemmas.List.{get_or-set_same}
use Rattle.sv_links.specs.ChannelRepresentation.{Channel, Channels, is_prepared}
use Rattle.sv_links.proofs.Acts.{are_channels_kept}
use Rattle.sv_links.proofs.intr.Intr.cancel.Goals as goal

pub returns-clause-unready : goal.returns-clause-unready
returns-clause-unready g c ready =
    let items = c.self.inside.channels.items in
    let new = c.cancel.new.self in
    let i = c.from.result in
    let within : i < length items = omega (arith, c.requires, c.from.ensures, c.self.invariant.0) in
    let place = ap (λ (kept : Channel). is_prepared kept.stage) (get_or-set_same items i new new within) in
    let there = subst (λ k. is_prepared (slice_index_or (slice_set items i new) k new).stage ≡ true) (sym c.from.ensures) (ready new) in
    false≢true (sym c.cancel.ensures.unready ∙ sym place ∙ there)

pub returns-clause-others : goal.returns-clause-others
returns-clause-others g c = search rules

pub returns-clause-stands : goal.returns-clause-stands
returns-clause-stands g c acts is =
    let kept : Channels =
    record { enabled = c.self.inside.enabled.items; channels = c.self.inside.channels.items; opened = c.self.inside.opened } in
    are_channels_kept kept c.from.result c.index_mut.result.now c.cancel.new.self acts (omega (arith, c.requires, c.from.ensures))
    (omega (arith, c.requires, c.from.ensures, c.self.invariant.0)) c.index_mut.ensures.value c.cancel.ensures.open
    c.cancel.ensures.queued (rw (← c.self.view_is) at is)

pub returns-clause-enabled : goal.returns-clause-enabled
returns-clause-enabled g c = search rules
