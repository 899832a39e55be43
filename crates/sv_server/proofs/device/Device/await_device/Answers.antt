use Rattle.std.proofs.Common.{rules, ◌≡◌, refl, sym, ◌∙◌, inr}
use Rattle.sv_vxi.specs.Arguments.{link}
use Rattle.sv_vxi.specs.Reading.{plain_arguments}
use Rattle.sv_history.specs.CoreCall.{lid_of}
use Rattle.sv_server.proofs.OnDevice.Granted.{lock_wait_is_create_link, create_link_waits_for_lock, lock_wait_needs_memory, on_err}
use Rattle.sv_server.proofs.device.Device.await_device.Goals as goal

pub returns-in_err-reserve : goal.returns-in_err-reserve
returns-in_err-reserve g c = record {
  does = λ config polled acts known. search (rules, c.from_residual.ensures);
  lacks = λ config polled acts known. on_err c.from_residual.result _ (λ at. rw at (lock_wait_needs_memory c.args.conn.number
      (plain_arguments c.args.args.now) acts c.args.wait c.args.timeout _ c.args.conn.within at
      (sym c.is_create_link.ensures ∙ c.in_err-reserve.ensures.err.1)));
  brief = search (rules, c.from_residual.ensures);
  err = search rules;
}

pub returns : goal.returns
returns g c = record {
  does = λ config polled acts known at.
      let arguments = plain_arguments c.args.args.now in
      let lid : c.lid_of.result ≡ lid_of (link arguments) = rw c.link.ensures at c.lid_of.ensures in
      let (is, place) = c.in_ok-reserve.ensures.ok config acts known.0 in
      rw (at, ← lid) (
        (
          refl,
          c.enter.ensures.stands config acts is (λ both.
              let known = lock_wait_is_create_link c.args.conn.number arguments acts c.args.wait c.args.timeout at (rw lid at both) in
              place (c.is_create_link.ensures ∙ known.0) known.1),
        ),
        inr (
          refl,
          rw (← c.in_ok-reserve.ensures.waiting) (c.enter.ensures.waits _
              (λ makes. rw lid (create_link_waits_for_lock c.args.conn.number arguments acts c.args.wait c.args.timeout at makes))),
        ),
      );
  lacks = λ config polled acts known. tt;
  brief = tt;
  err = tt;
}
