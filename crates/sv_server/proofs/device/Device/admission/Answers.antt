use Rattle.std.proofs.Common.{rules, Some}
use Rattle.sv_vxi.specs.Arguments.{OnLink}
use Rattle.sv_vxi.specs.Reading.{plain_call}
use Rattle.sv_history.specs.CoreCall.{lid_of}
use Rattle.sv_history.specs.Admission.{call_stop}
use Rattle.sv_server.specs.Device.Inside.Outcome.{StopsAs}
use Rattle.sv_server.proofs.device.Device.admission.Goals as goal

pub returns-in-CreateLink-clause-stops : goal.returns-in-CreateLink-clause-stops
returns-in-CreateLink-clause-stops g c = λ config acts is. rw c.in-CreateLink.is (c.link_admission.ensures.stops config acts is _)

pub returns-in-OnLink-clause-stops : goal.returns-in-OnLink-clause-stops
returns-in-OnLink-clause-stops g c = λ config acts is.
    let same : StopsAs c.call_admission.result (OnLink c.in-OnLink.lid (plain_call c.in-OnLink.call))
    (call_stop c.args.conn.number (lid_of (Some c.in-OnLink.lid)) (plain_call c.in-OnLink.call) acts) =
    search (rules, c.in-OnLink.is, c.call_admission.ensures.stops config acts is) in
    rw c.in-OnLink.is same

pub returns-in-CreateIntrChan-clause-stops : goal.returns-in-CreateIntrChan-clause-stops
returns-in-CreateIntrChan-clause-stops g c = λ config acts is.
    rw (c.in-CreateIntrChan.is, ← (c.has_channel.ensures config acts is)) (c.channel_admission.ensures.stops _ _)
