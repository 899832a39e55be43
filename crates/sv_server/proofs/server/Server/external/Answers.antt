use Rattle.std.proofs.Common.{refl}
use Rattle.sv_history.specs.Act.{device_acts}
use Rattle.sv_server.proofs.OnServer.Logs.{stands_after_device_acts}
use Rattle.sv_server.proofs.server.Server.external.Goals as goal

pub returns-clause-acts : goal.returns-clause-acts
returns-clause-acts g c = λ config log rep.
    let state = rw (← c.self.view_is) at rep in (
      λ channel_log tells. refl,
      refl,
      λ polled said. stands_after_device_acts _ config log c.external.new.self _ state
          (c.external.ensures.stands config (device_acts log) state.device) c.external.ensures.waiting,
    )
