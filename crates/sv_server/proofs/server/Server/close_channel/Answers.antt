use Rattle.std.proofs.Common.{refl, ◌∷◌, []}
use Rattle.sv_links.specs.Channels.{ChannelClosed}
use Rattle.sv_history.specs.Act.{Channel, device_acts}
use Rattle.sv_history.specs.declared.event.Port.TheVariants.{Intr}
use Rattle.sv_history.specs.Event.{Close}
use Rattle.sv_server.proofs.OnServer.Logs.{stands_after_device_acts}
use Rattle.sv_server.proofs.OnServer.Standing.{no_connection}
use Rattle.sv_server.proofs.server.Server.close_channel.Goals as goal

pub returns-in_err-conn-clause-acts : goal.returns-in_err-conn-clause-acts
returns-in_err-conn-clause-acts g c = λ config log rep.
    no_connection config (Close (Intr c.args.conn)) log c.from_residual.result _ _ c.from_residual.ensures
    (c.in_err-conn.ensures.answer config log rep) (λ shut channel_log tells. rw shut refl)

pub returns-clause-acts : goal.returns-clause-acts
returns-clause-acts g c = λ config log rep.
    let conn = c.in_ok-conn.conn in
    let state = rw (← c.self.view_is) at rep in
    let unshut = rw (← c.in_ok-conn.ensures.same) at (c.in_ok-conn.ensures.answer config log rep) in
    rw (← c.in_ok-conn.ensures.same) (
      λ channel_log tells. rw unshut refl,
      refl,
      λ polled said. stands_after_device_acts _ config log c.close_channel.new.self (Channel (ChannelClosed conn.number) ∷ []) state
          (c.close_channel.ensures.stands config (device_acts log) state.device) c.close_channel.ensures.waiting,
    )
