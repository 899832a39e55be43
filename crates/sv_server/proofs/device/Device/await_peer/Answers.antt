use Rattle.std.proofs.Common.{rules, ◌≡◌, false, true, arith, sym, refl, ◌∙◌, inr}
use Rattle.sv_vxi.specs.Arguments.{link}
use Rattle.sv_vxi.specs.Reading.{plain_arguments}
use Rattle.sv_links.specs.declared.waiting.Wait.TheVariants.{Dial}
use Rattle.sv_history.specs.Act.{wait_acts}
use Rattle.sv_history.specs.CoreCall.{lid_of}
use Rattle.sv_history.proofs.Telling.{channel_open_by_channel_log}
use Rattle.sv_server.proofs.OnDevice.Channeled.{device_same, device_dialing}
use Rattle.sv_server.proofs.OnDevice.Parts.{entered_other}
use Rattle.sv_server.proofs.OnDevice.Granted.{dialing_has_no_channel, dial_needs_memory, on_err}
use Rattle.sv_server.proofs.device.Device.await_peer.Goals as goal

pub returns-in_err-prepare : goal.returns-in_err-prepare
returns-in_err-prepare g c = record {
  does = λ config polled acts known. search (rules, c.from_residual.ensures);
  lacks = λ config polled acts known. on_err c.from_residual.result _
      (λ at. rw at (dial_needs_memory c.args.conn.number (lid_of (link (plain_arguments c.args.args.now))) _ c.args.conn.within));
  brief = search (rules, c.from_residual.ensures);
  err = search rules;
}

pub returns : goal.returns
returns g c = record {
  does = λ config polled acts known at.
      let is = rw (← c.self.view_is) at known.0 in
      let lid : c.lid_of.result ≡ lid_of (link (plain_arguments c.args.args.now)) = rw c.link.ensures at c.lid_of.ensures in
      let (none, other) = dialing_has_no_channel c.args.conn.number (plain_arguments c.args.args.now) acts c.args.timeout at in
      let prepared = device_same _ c.prepare.new.self config acts is c.prepare.ensures.stands c.prepare.ensures.enabled
      (λ d dialing_has_no_channel. c.in_ok-prepare.ensures.others d (is.7 d dialing_has_no_channel)) in
      let ready = c.in_ok-prepare.ensures.ready is.6.0 is.6.2 (channel_open_by_channel_log c.args.conn.number acts is.6.0 is.6.1 ∙ none) in
      let less = entered_other
      (record { conn = c.args.conn.number; lid = c.lid_of.result; wait = Dial; deadline = c.deadline-deadline.result }) _
      c.enter.new.self c.enter.ensures.value refl in
      rw (at, ← lid, ← (c.deadline-deadline.ensures config acts (prepared))) (
        (
          refl,
          device_dialing _ c.enter.new.self config acts c.args.conn.number c.lid_of.result c.deadline-deadline.result prepared
              (c.enter.ensures.stands (wait_acts acts) is.4) (omega (arith, is.5.0, less), omega (arith, is.5.1, less)) ready,
        ),
        inr (
          refl,
          (
            record { conn = c.args.conn.number; lid = c.lid_of.result; wait = Dial; deadline = c.deadline-deadline.result },
            refl,
            rw (← c.self.view_is) c.enter.ensures.value,
            λ e. absurd {0} (let z : false ≡ true = sym other ∙ e in cc),
          ),
        ),
      );
  lacks = λ config polled acts known. tt;
  brief = tt;
  err = tt;
}
