use Rattle.std.proofs.Common.{◌≡◌, ◌<◌, ◌≤◌, ℕ, arith}
use Rattle.sv_value.proofs.Spans.{push_up, push_down}
use Rattle.sv_value.proofs.channels.push_run.Goals as goal

pub loop-channel-preserved-then-channel-last : goal.loop-channel-preserved-then-channel-last
loop-channel-preserved-then-channel-last c = record {
  same = push_up c.args.list.now.items c.loop-channel.list.items c.push.new.self.items c.args.first c.args.last c.loop-channel.channel
      c.if-channel-last.true c.push.ensures.items c.loop-channel.invariant.same;
  fits = omega (arith, c.push.ensures.len, c.loop-channel.invariant.fits, c.if-channel-last.true);
}

above : (channel last : ℕ) → (channel ≡ last → ⊥) → last ≤ channel → last < channel
above channel last other le = omega (arith, other, le)

pub loop-channel-preserved : goal.loop-channel-preserved
loop-channel-preserved c =
    let down = above c.loop-channel.channel c.args.last c.loop-channel-test.true c.if-channel-last.false in
    record {
      same = push_down c.args.list.now.items c.loop-channel.list.items c.push.new.self.items c.args.first c.args.last c.loop-channel.channel
          down c.push.ensures.items c.loop-channel.invariant.same;
      fits = omega (arith, c.push.ensures.len, c.loop-channel.invariant.fits, down);
    }
