use Rattle.std.proofs.Common.{rules, ◌≡◌, refl, sym}
use Rattle.std.specs.Prelude.{Some}
use Rattle.sv_vxi.specs.Reading.{plain_call}
use Rattle.sv_history.specs.CoreCall.{lid_of}
use Rattle.sv_server.proofs.OnDevice.Granted.{link_numbered, own_times_out, none_of_not_some}
use Rattle.sv_server.proofs.device.Device.ready_link_call.Goals as goal

pub returns-then-is_some-clause-answer : goal.returns-then-is_some-clause-answer
returns-then-is_some-clause-answer g c = λ config acts is kept polled conn.
    let named : Some c.in-Some.lid ≡ lid_of (Some c.args.lid) = search (rules, c.in-Some.ensures) in
    rw (link_numbered c.in-Some.lid c.args.lid named) (own_times_out kept polled conn c.in-Some.lid _ acts (sym c.if-is_too_long.ensures)
    (rw (c.device_wait.ensures.answer config acts is) at (sym c.if-is_some.ensures)))

pub returns-clause-answer : goal.returns-clause-answer
returns-clause-answer g c = λ config acts is.
    let named : Some c.in-Some.lid ≡ lid_of (Some c.args.lid) = search (rules, c.in-Some.ensures) in (
      rw (link_numbered c.in-Some.lid c.args.lid named) refl,
      rw (c.device_wait.ensures.answer config acts is) at (none_of_not_some c.device_wait.result c.if-is_some.ensures),
    )
