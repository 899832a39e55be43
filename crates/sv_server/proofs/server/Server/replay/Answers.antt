use Rattle.sv_history.specs.Event.{plain}
use Rattle.sv_server.proofs.server.Server.replay.Goals as goal

pub returns : goal.returns
returns g c = λ config history s.
    let (log, is_log, answers) = c.apply-did.ensures.answers config history s in
    let (text, after, replays, same, also, stands, put) = c.print.ensures config history (plain c.args.event) log is_log answers
    (c.apply-did.ensures.stands config history s) in
    (text, after, replays, stands, put)
