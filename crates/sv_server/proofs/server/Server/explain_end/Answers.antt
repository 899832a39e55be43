use Rattle.std.proofs.Common.{ap, ◌∙◌, List}
use Rattle.sv_history.specs.Act.{Act, device_acts}
use Rattle.sv_laws.proofs.OneLog.{one_log}
use Rattle.sv_server.specs.Explain.Telling.{clock_at}
use Rattle.sv_server.proofs.server.Server.explain_end.Goals as goal

pub returns : goal.returns
returns g c = λ config history log s is_log.
    let held = rw (← c.self.view_is) at s.represents in
    let same = c.time.ensures.answer config (device_acts s.log) held.device
    ∙ ap (λ (l : List Act). clock_at config l) (one_log config history s.log log s.is_log is_log) in
    rw (← same) c.put_end.ensures
