use Rattle.std.proofs.Common.{rules, ◌≡◌, [], ◌∷◌, refl, sym, ap, inl, arith}
use Rattle.std.specs.Prelude.{List, ℕ, Some}
use Rattle.std.proofs.lemmas.Result.{err_from_is_err_and}
use Rattle.sv_vxi.specs.Results.{Outcome, plain_result}
use Rattle.sv_history.specs.CoreCall.{lid_of}
use Rattle.sv_history.specs.AbortChannel.{owner_of, if_waiting, abort_result}
use Rattle.sv_history.specs.Act.{Replied}
use Rattle.sv_history.specs.Effect.{result_reply}
use Rattle.sv_server.specs.Connection.Inside.Requests.{plain_core_call}
use Rattle.sv_server.proofs.OnServer.Calls.{outcome_ends, suspended_was_asked}
use Rattle.sv_server.proofs.server.execution.execute.Goals as goal

pub returns-in-NoCall : goal.returns-in-NoCall
returns-in-NoCall g c = record {
  does = λ config polled acts known. rw c.in-NoCall.is ((refl, known.0), inl refl, refl);
  lacks = λ config polled acts known. tt;
  brief = tt;
  err = tt;
}

pub returns-in-Decided : goal.returns-in-Decided
returns-in-Decided g c = record {
  does = λ config polled acts known. rw c.in-Decided.is ((refl, known.0), inl refl, refl);
  lacks = λ config polled acts known. tt;
  brief = tt;
  err = tt;
}

pub returns-in_ok-admit-in-Core : goal.returns-in_ok-admit-in-Core
returns-in_ok-admit-in-Core g c = let call = plain_core_call c.in-Core.call in record {
  does = λ config polled acts known. rw c.in-Core.is
      (let so = c.in_ok-admit-in-Core.ensures.does config polled acts known tt in
      (outcome_ends _ call.xid _ config acts _ so.0, suspended_was_asked _ c.args.conn.number call _ _ so.1, refl));
  lacks = λ config polled acts known. tt;
  brief = c.in_ok-admit-in-Core.ensures.brief;
  err = tt;
}

pub returns-in_err-admit-in-Core : goal.returns-in_err-admit-in-Core
returns-in_err-admit-in-Core g c =
    let told = err_from_is_err_and c.from_residual.result c.from_residual.ensures.1 in
    rw told.1 (record {
      does = λ config polled acts known. tt;
      lacks = λ config polled acts known. rw c.in-Core.is (c.in_err-admit-in-Core.ensures.lacks config polled acts known tt);
      brief = tt;
      err = c.in_err-admit-in-Core.ensures.err;
    })

pub returns-in-Abort : goal.returns-in-Abort
returns-in-Abort g c = record {
  does = λ config polled acts known.
      let told : plain_result c.abort-aborted.result.0 ≡ abort_result (lid_of (Some c.in-Abort.lid)) acts =
      search (rules, c.abort-aborted.ensures.answer config acts known.0) in
      let ends : c.abort-aborted.result.1 ≡ if_waiting (owner_of (lid_of (Some c.in-Abort.lid)) acts) (lid_of (Some c.in-Abort.lid)) acts =
      search (rules, c.abort-aborted.ensures.conn config acts known.0) in
      rw c.in-Abort.is ((ap (λ (o : Outcome). Replied (result_reply c.in-Abort.xid o) ∷ []) (sym told), known.0), inl refl, ends);
  lacks = λ config polled acts known. tt;
  brief = rw c.abort-aborted.ensures.short (omega arith);
  err = tt;
}

pub returns-in-Port : goal.returns-in-Port
returns-in-Port g c = record {
  does = λ config polled acts known.
      let answer = rw (c.ports.ensures config acts known.0) at (c.port_answer.ensures.answer c.in-Port.xid) in
      rw c.in-Port.is ((ap (λ (l : List ℕ). Replied l ∷ []) (sym answer), known.0), inl refl, refl);
  lacks = λ config polled acts known. tt;
  brief = c.port_answer.ensures.short;
  err = tt;
}
