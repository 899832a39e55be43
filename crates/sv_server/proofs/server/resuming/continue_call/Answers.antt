use Rattle.std.proofs.Common.{sym}
use Rattle.sv_server.specs.Connection.Inside.Requests.{plain_core_call}
use Rattle.sv_server.proofs.OnServer.Calls.{may_resume, continued_concludes, continued_leaves_or_waits, no_call_leaves_queue, no_call_lowers_measure}
use Rattle.sv_server.proofs.server.resuming.continue_call.Goals as goal

pub returns-in_default-clause-concludes : goal.returns-in_default-clause-concludes
returns-in_default-clause-concludes g c = λ config polled acts before is busy at may.
    rw (sym (c.in_default.ensures acts is)) (no_call_leaves_queue c.args.reason config polled c.args.conn.number acts before _ _ _ is
    (c.end_wait.ensures.stands config before at.0) c.end_wait.ensures.waiting)

pub returns-in_default-clause-measure : goal.returns-in_default-clause-measure
returns-in_default-clause-measure g c = no_call_lowers_measure c.args.reason c.args.conn.number _ _ c.requires c.end_wait.ensures.waiting

pub returns-clause-concludes : goal.returns-clause-concludes
returns-clause-concludes g c = λ config polled acts before is busy at may.
    let call = plain_core_call c.in-Some.call in
    let known = sym (c.in-Some.ensures acts is) in
    let so = c.continue_call-outcome.ensures.ends config polled before at
    (may_resume c.args.reason c.args.conn.number call _ before (rw known at may)) in
    rw known (
      continued_concludes c.args.reason _ _ config polled c.args.conn.number call acts before _ _ so
          (λ log effect ends. c.conclude.ensures.ends config acts log effect is busy ends),
      rw c.conclude.ensures.waiting
          (continued_leaves_or_waits c.args.reason _ _ config polled c.args.conn.number call before _ _ so
          c.continue_call-outcome.ensures.waiting),
    )
