use Rattle.std.proofs.Common.{ap}
use Rattle.sv_history.specs.Event.{plain}
use Rattle.sv_server.proofs.OnReplay.Explained.{told_of_tells, bytes_tell_of_equal}
use Rattle.sv_server.proofs.server.Server.tell_event.Goals as goal

pub returns-in-Some-clause-told : goal.returns-in-Some-clause-told
returns-in-Some-clause-told g c = λ config log rep.
    bytes_tell_of_equal c.args.line config (plain c.args.event) log c.bytes_aloud.result c.args.self.now c.bytes_aloud.new.self _ _ _ _ _ _
    _
    (ap plain c.in-Bytes.is) c.in-Some.ensures (c.bytes_aloud.ensures.told config log rep)

pub returns-in-None-clause-told : goal.returns-in-None-clause-told
returns-in-None-clause-told g c = λ config log rep. told_of_tells _ _ _ _ _ _ _ _ _ _ _ (c.act_aloud.ensures.told config log rep)

pub returns-in_default : goal.returns-in_default
returns-in_default g c = record {
  within = c.act_aloud-in_default.ensures.within;
  told = λ config log rep. told_of_tells _ _ _ _ _ _ _ _ _ _ _ (c.act_aloud-in_default.ensures.told config log rep);
}
