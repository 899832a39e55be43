use Rattle.std.proofs.Common.{◌≡◌, ◌++◌, ◌∷◌, [], length, refl, arith, ap}
use Rattle.std.proofs.lemmas.List.{length-append}
use Rattle.sv_links.specs.declared.channel.Stage.TheVariants.{Closed}
use Rattle.sv_links.specs.ChannelRepresentation.{Channel, opened_for}
use Rattle.sv_links.proofs.Acts.{after_append}
use Rattle.sv_links.proofs.intr.Intr.new.Goals as goal

pub loop-preserved : goal.loop-preserved
loop-preserved g c =
    let items = c.loop.channels.items in
    let one : Channel = c.new.result in
    let grown : c.push.new.self.items ≡ items ++ one ∷ [] = c.in_ok-push.ensures.items in
    record {
      long = omega (arith, ap length grown, length-append items (one ∷ []), c.loop.invariant.long);
      closed = λ k other lt.
          rw grown (after_append (λ kept. kept.stage ≡ Closed) items c.loop.counter k one other c.loop.invariant.long lt c.new.ensures
          (c.loop.invariant.closed k other));
    }

pub returns : goal.returns
returns g c = record {
  enabled = c.in_ok-enabled.ensures.items;
  each = λ conn other lt. (ap opened_for (c.loop.invariant.closed conn other (omega (arith, lt, c.loop-test.false))), tt);
  beyond = λ conn past. refl;
  opened = refl;
}
