use Rattle.std.proofs.Common.{◌≡◌, ◌<◌, Vec, ◌∷◌, length, true, arith, sym, ap, subst, ◌∙◌}
use Rattle.std.specs.Prelude.{slice_index_or}
use Rattle.std.proofs.lemmas.List.{length-set}
use Rattle.sv_links.specs.declared.enabled.Enabled.{Enabled}
use Rattle.sv_links.specs.Channels.{Requested}
use Rattle.sv_links.specs.ChannelRepresentation.{Channel, Channels, IsChannel, IsReady, is_prepared}
use Rattle.sv_links.proofs.Acts.{is_channel_requested, after_slice_set}
use Rattle.sv_links.proofs.intr.Intr.raise.Goals as goal

pub loop-conn-preserved : goal.loop-conn-preserved
loop-conn-preserved g c =
    let i = c.loop-conn.conn in
    let items = c.loop-conn.self-inside.channels.items in
    let old = c.index_mut.result.now in
    let new = c.request_each.new.self in
    let within : i < length items = omega (arith, c.loop-conn-test.true, c.loop-conn.invariant.long) in
    let links = c.as_slice.ensures.value ∙ ap (λ (v : Vec Enabled g.row.A.Denot). v.items) c.loop-conn.invariant.enabled
    ∙ ap (λ (kept : Channels). kept.enabled) c.self.view_is in
    record {
      enabled = c.loop-conn.invariant.enabled;
      opened = c.loop-conn.invariant.opened;
      long = length-set items i new ∙ c.loop-conn.invariant.long;
      sent = λ k other acts lt is.
          after_slice_set (λ kept. IsChannel kept k (Requested ∷ acts)) items i k new other within
          (λ same. subst (λ k. IsChannel new k (Requested ∷ acts)) (sym same)
          (is_channel_requested i old new c.as_slice.result.now acts (links ∙ is.enabled) c.request_each.ensures.stage
          c.request_each.ensures.queued
          (subst (λ kept. IsChannel kept i acts) (sym (c.index_mut.ensures.value ∙ c.loop-conn.invariant.rest i old (omega arith)))
          (is.each i old c.loop-conn-test.true))))
          (λ apart. c.loop-conn.invariant.sent k other acts (omega (arith, lt, apart)) is);
      rest = λ k other le.
          after_slice_set (λ kept. kept ≡ slice_index_or c.args.self.now.channels k other) items i k new other within
          (λ same. absurd (omega (arith, same, le))) (λ apart. c.loop-conn.invariant.rest k other (omega (arith, le)));
      ready = λ k other is.
          after_slice_set (λ kept. is_prepared kept.stage ≡ true) items i k new other within
          (λ same. ap is_prepared c.request_each.ensures.stage ∙ ap (λ (kept : Channel). is_prepared kept.stage) c.index_mut.ensures.value
          ∙ c.loop-conn.invariant.ready i old (subst (IsReady c.args.self.now) same is))
          (λ apart. c.loop-conn.invariant.ready k other is);
    }

pub returns-clause-stands : goal.returns-clause-stands
returns-clause-stands g c acts is =
    let links = ap (λ (v : Vec Enabled g.row.A.Denot). v.items) c.loop-conn.invariant.enabled in
    record {
      enabled = links ∙ ap (λ (kept : Channels). kept.enabled) c.self.view_is ∙ is.enabled;
      each = λ k other lt. c.loop-conn.invariant.sent k other acts (omega (arith, lt, c.loop-conn-test.false)) is;
      beyond = is.beyond;
      opened = c.loop-conn.invariant.opened ∙ ap (λ (kept : Channels). kept.opened) c.self.view_is ∙ is.opened;
    }
