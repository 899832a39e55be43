use Rattle.std.proofs.Common.{[], ◌+◌, ◌-◌, ℕ, List, subst, arith}
use Rattle.std.specs.Prelude.{Ok}
use Rattle.std.specs.Io.KnownBytes.{Appends}
use Rattle.sv_history.specs.declared.event.Port.{Port}
use Rattle.sv_history.specs.Event.{PlainEvent}
use Rattle.sv_history.specs.Act.{Act}
use Rattle.sv_links.specs.Channels.{ChannelAct}
use Rattle.sv_server.specs.Server.State.{State}
use Rattle.sv_server.specs.Replay.Inside.Showing.{StandsBy, ShowsPort}
use Rattle.sv_print.proofs.Taking.{appends_none}
use Rattle.sv_server.proofs.OnReplay.Ports.{so_far_none, so_far_more, so_far_rest, so_far_stop}
use Rattle.sv_server.proofs.server.Server.show_all.Goals as goal

pub loop-number-init : goal.loop-number-init
loop-number-init g c = λ config history channel_log log s.
    ([], appends_none _, so_far_none config history channel_log log c.args.self.now s)

pub returns-in_err-show : goal.returns-in_err-show
returns-in_err-show g c = λ config history channel_log log s.
    let (text, put, so) = c.loop-number.invariant config history channel_log log s in
    so_far_stop config history channel_log log c.loop-number.number c.loop-number.self c.show.new.self text _ _ _ c.in_err-show.field-0.0
    c.from_residual.result (omega (arith, c.loop-number-test.true, c.port_limit-number-end.ensures.bounded)) so put
    c.from_residual.ensures.0 ((rw c.port_of.ensures at c.in_err-show.ensures) config)

pub loop-number-preserved : goal.loop-number-preserved
loop-number-preserved g c = λ config history channel_log log s.
    let (text, put, so) = c.loop-number.invariant config history channel_log log s in
    let n : ℕ = c.loop-number.number in
    let old : State = c.loop-number.self in
    so_far_more config history channel_log log n (n + 1) old c.show.new.self text _ _ _ (omega arith) so put
    (subst (λ (port : Port). (h : List PlainEvent) (after : List ChannelAct) (now : List Act)
    → StandsBy old config h after now
    → (line : List ℕ) × Appends (g.W.Write.contents c.loop-number.writer) (g.W.Write.contents c.show.new.writer) line
    × ShowsPort port config h after now (Ok tt) c.show.new.self line) c.port_of.ensures (c.in_ok-show.ensures config))

pub returns : goal.returns
returns g c = λ config history channel_log log s.
    let (text, put, so) = c.loop-number.invariant config history channel_log log s in
    let n : ℕ = c.loop-number.number in (
      text,
      put,
      so_far_rest config history channel_log log (32 - n) n c.loop-number.self text
          (omega (arith, c.loop-number-test.false, c.port_limit-number-end.ensures.bounded))
          (λ m above below. c.port_limit-number-end.ensures.none config history channel_log log m s (omega (arith, above)) below) so,
    )
