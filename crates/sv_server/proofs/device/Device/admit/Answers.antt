use Rattle.std.proofs.Common.{rules, ◌≡◌, [], refl, sym, inl, arith, ◌∙◌}
use Rattle.std.specs.Prelude.{Some, None}
use Rattle.sv_history.specs.Admission.{Awaits}
use Rattle.sv_vxi.specs.Reading.{plain_arguments}
use Rattle.sv_vxi.specs.Results.{plain_result, data_of}
use Rattle.sv_server.proofs.OnDevice.Granted.{admits_as, granted_start, unstopped_link_needs_memory, on_err, executed_is, makes_as, can_still, needs_no_wait, free_of}
use Rattle.sv_server.proofs.device.Device.admit.Goals as goal

pub execute-requires : goal.execute-requires
execute-requires g c = can_still c.in-Admitted.call _ _ c.reserve.ensures.same (rw c.in-Admitted.is at c.admission.ensures.sound).1

pub returns-in-Refused : goal.returns-in-Refused
returns-in-Refused g c = record {
  does = λ config polled acts known always.
      let (error, stopped, same) = rw c.in-Refused.is at (c.admission.ensures.stops config acts known.0) in
      rw stopped ((sym same, known.0), inl refl);
  lacks = λ config polled acts known. tt;
  brief = let none : data_of (plain_result c.in-Refused.given) ≡ [] = rw c.in-Refused.is at c.admission.ensures.sound in
      rw none (omega arith);
  err = tt;
}

pub returns-in-Suspended : goal.returns-in-Suspended
returns-in-Suspended g c = admits_as (Some (Awaits c.in-Suspended.wait c.in-Suspended.timeout)) _ _ _ _ _
    (λ config acts is. rw c.in-Suspended.is at (c.admission.ensures.stops config acts is)) c.suspend.ensures

pub returns-in_err-reserve-in-Admitted : goal.returns-in_err-reserve-in-Admitted
returns-in_err-reserve-in-Admitted g c =
    let arguments = plain_arguments c.args.args.now in
    let is = (rw c.in-Admitted.is at c.admission.ensures.sound).0 in
    admits_as None _ _ _ _ _ (λ config acts is. rw c.in-Admitted.is at (c.admission.ensures.stops config acts is)) (record {
      does = λ config polled acts known. search (rules, c.from_residual.ensures);
      lacks = λ config polled acts known. on_err c.from_residual.result _
          (λ at. rw at (unstopped_link_needs_memory config polled c.args.conn.number arguments acts
          at (makes_as c.in-Admitted.call arguments is ∙ sym c.is_create_link.ensures ∙ c.in_err-reserve-in-Admitted.ensures.err.1)));
      brief = search (rules, c.from_residual.ensures);
      err = search rules;
    })

pub returns-in_ok-reserve-in-Admitted : goal.returns-in_ok-reserve-in-Admitted
returns-in_ok-reserve-in-Admitted g c =
    let call = c.in-Admitted.call in
    let arguments = plain_arguments c.args.args.now in
    let is = (rw c.in-Admitted.is at c.admission.ensures.sound).0 in
    admits_as None _ _ _ _ _ (λ config acts is. rw c.in-Admitted.is at (c.admission.ensures.stops config acts is)) (record {
      does = λ config polled acts known at.
          let (more, place) = c.in_ok-reserve-in-Admitted.ensures.ok config acts known.0 in
          let granted = granted_start c.args.conn.number arguments _ acts at
          (λ makes. place (c.is_create_link.ensures ∙ sym (makes_as call arguments is) ∙ makes)) in
          let free = free_of call arguments _ acts is granted (needs_no_wait c.args.conn.number call arguments acts is at) in
          rw (at, executed_is config polled c.args.conn.number call arguments acts is) (
            c.execute.ensures.ends config polled acts (more, known.1) free,
            inl (c.execute.ensures.waiting ∙ c.in_ok-reserve-in-Admitted.ensures.waiting),
          );
      lacks = λ config polled acts known. tt;
      brief = c.execute.ensures.short;
      err = tt;
    })
