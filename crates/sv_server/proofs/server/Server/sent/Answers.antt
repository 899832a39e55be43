use Rattle.std.proofs.Common.{sym}
use Rattle.sv_history.specs.Act.{device_acts}
use Rattle.sv_server.proofs.OnDevice.Channels.{none_wait_beyond}
use Rattle.sv_server.proofs.server.Server.sent.Goals as goal

pub returns-in-Some-clause-exact : goal.returns-in-Some-clause-exact
returns-in-Some-clause-exact g c = λ config log channel_log rep tells.
    let state = rw (← c.self.view_is) at rep in
    rw (← c.in-Some.ensures) (c.channel_waiting.ensures.answer config (device_acts log) channel_log state.device tells)

pub returns-in-None-clause-exact : goal.returns-in-None-clause-exact
returns-in-None-clause-exact g c = λ config log channel_log rep tells.
    sym (none_wait_beyond _ config (device_acts log) channel_log c.args.conn rep.device tells c.in-None.ensures)
