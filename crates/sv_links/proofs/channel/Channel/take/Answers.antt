use Rattle.std.proofs.Common.{length, refl, ap, arith}
use Rattle.std.proofs.lemmas.List.{length-drop}
use Rattle.sv_links.specs.Limits.{longest_call}
use Rattle.sv_links.specs.ChannelRepresentation.{Channel}
use Rattle.sv_links.proofs.Left.{taken_and_left_are_all, left_sizes_bounded, length_left}
use Rattle.sv_links.proofs.Sent.{is_queued_taken}
use Rattle.sv_links.proofs.channel.Channel.take.Goals as goal

pub invariant_of-self : goal.invariant_of-self
invariant_of-self g c =
    let sizes = c.self.inside.sizes.items in
    let bytes = c.self.inside.bytes.items in
    let items = c.drop_front.ensures.items in
    let within = rw (← c.self.view_is) at c.requires in
    let rest = taken_and_left_are_all c.args.count sizes (omega (arith, within, c.self.invariant.0)) in (
      rw c.let_go.ensures (omega (arith, ap length items, length-drop c.args.count bytes, within, rest, c.self.invariant.0)),
      rw c.let_go.ensures (left_sizes_bounded longest_call c.args.count sizes c.self.invariant.1),
      rw c.let_go.ensures (omega (arith, length_left c.args.count sizes, c.self.invariant.2)),
      λ there. rw (c.drop_front.ensures.capacity) (c.self.invariant.3 there),
    )

pub returns-clause-queued : goal.returns-clause-queued
returns-clause-queued g c before calls is =
    let inside = c.self.inside in
    let old : Channel = record { stage = inside.stage; made = inside.made; sizes = inside.sizes.items; bytes = inside.bytes.items } in
    let new : Channel = record {
      stage = inside.stage;
      made = inside.made;
      sizes = c.let_go.new.sizes.items;
      bytes = c.drop_front.new.bytes.items;
    } in
    is_queued_taken old new before c.args.count calls refl c.let_go.ensures (c.drop_front.ensures.items)
    (rw (← c.self.view_is) at c.requires) (rw (← c.self.view_is) at is)
