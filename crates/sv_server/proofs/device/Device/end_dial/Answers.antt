use Rattle.std.proofs.Common.{rules, ◌≡◌, None, sym}
use Rattle.sv_vxi.specs.Reading.{plain_arguments}
use Rattle.sv_history.proofs.Dialing.{peer_named_by, connect_outcome_by_peer}
use Rattle.sv_server.proofs.device.Device.end_dial.Goals as goal

pub returns-in-CreateIntrChan-clause-ends : goal.returns-in-CreateIntrChan-clause-ends
returns-in-CreateIntrChan-clause-ends g c = λ config acts old dials.
    rw c.in-CreateIntrChan.is (c.end_channel.ensures.ends config acts old dials _ _ _)

pub returns-in-CreateLink-clause-ends : goal.returns-in-CreateLink-clause-ends
returns-in-CreateLink-clause-ends g c = λ config acts old dials.
    let none : peer_named_by (plain_arguments c.args.args.now) ≡ None = search (rules, c.in-CreateLink.is) in
    rw (connect_outcome_by_peer c.args.conn.number c.args.ok (plain_arguments c.args.args.now), none)
    (sym c.failure.ensures.result_is, c.give_up_channel.ensures.stands config acts old)
