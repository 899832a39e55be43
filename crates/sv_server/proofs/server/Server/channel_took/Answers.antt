use Rattle.std.proofs.Common.{refl, ◌∷◌, []}
use Rattle.sv_links.specs.Channels.{ChannelTaken, waiting as channel_bytes}
use Rattle.sv_history.specs.Act.{Channel, device_acts}
use Rattle.sv_history.specs.declared.event.Port.TheVariants.{Intr}
use Rattle.sv_history.specs.Event.{Took}
use Rattle.sv_server.proofs.OnServer.Logs.{stands_after_device_acts}
use Rattle.sv_server.proofs.OnServer.Standing.{no_connection}
use Rattle.sv_server.proofs.OnDevice.Channels.{has_channel_if_open, took_refused, took_allowed}
use Rattle.sv_server.proofs.server.Server.channel_took.Goals as goal

pub returns-in_err-conn-clause-acts : goal.returns-in_err-conn-clause-acts
returns-in_err-conn-clause-acts g c = λ config log rep.
    no_connection config (Took (Intr c.args.conn) c.args.count) log c.from_residual.result _ _ c.from_residual.ensures
    (c.in_err-conn.ensures.answer config log rep) (λ shut channel_log tells. rw shut refl)

pub returns-then-channel_waiting-count-clause-acts : goal.returns-then-channel_waiting-count-clause-acts
returns-then-channel_waiting-count-clause-acts g c = λ config log rep.
    let conn = c.in_ok-conn.conn in
    let state = rw (← c.self.view_is) at rep in
    let unshut = rw (← c.in_ok-conn.ensures.same) at (c.in_ok-conn.ensures.answer config log rep) in
    rw (← c.in_ok-conn.ensures.same)
    (λ channel_log tells. rw unshut (took_refused c.args.count (channel_bytes conn.number channel_log) _
    (c.channel_waiting.ensures.answer config (device_acts log) channel_log state.device tells) c.if-channel_waiting-count.true))

pub returns-clause-acts : goal.returns-clause-acts
returns-clause-acts g c = λ config log rep.
    let conn = c.in_ok-conn.conn in
    let state = rw (← c.self.view_is) at rep in
    let unshut = rw (← c.in_ok-conn.ensures.same) at (c.in_ok-conn.ensures.answer config log rep) in
    rw (← c.in_ok-conn.ensures.same) (
      λ channel_log tells. rw unshut (took_allowed c.args.count (channel_bytes conn.number channel_log) _
          (c.channel_waiting.ensures.answer config (device_acts log) channel_log state.device tells) c.if-channel_waiting-count.false),
      refl,
      λ polled said. stands_after_device_acts _ config log c.channel_took.new.self (Channel (ChannelTaken conn.number c.args.count) ∷ [])
          state
          (c.channel_took.ensures.stands config (device_acts log) state.device (has_channel_if_open conn.number log unshut))
          c.channel_took.ensures.waiting,
    )
