use Rattle.std.proofs.Common.{refl, sym}
use Rattle.sv_history.specs.Act.{device_acts}
use Rattle.sv_server.proofs.OnDevice.Channels.{channel_shut_is}
use Rattle.sv_server.proofs.server.Server.with_channel.Goals as goal

pub returns-then-not-has_channel-clause-answer : goal.returns-then-not-has_channel-clause-answer
returns-then-not-has_channel-clause-answer g c = λ config log rep.
    let state = rw (← c.self.view_is) at rep in
    let number = c.in-Some.number in
    rw (← c.in-Some.ensures) (
      refl,
      channel_shut_is number.number log _ number.within
          (sym (c.if-not-has_channel.ensures config (device_acts log) state.device)),
    )

pub returns-clause-answer : goal.returns-clause-answer
returns-clause-answer g c = λ config log rep.
    let state = rw (← c.self.view_is) at rep in
    let number = c.in-Some.number in
    rw (← c.in-Some.ensures) (channel_shut_is number.number log _ number.within
    (sym (c.if-not-has_channel.ensures config (device_acts log) state.device)))
