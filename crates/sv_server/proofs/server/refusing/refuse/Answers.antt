use Rattle.std.proofs.Common.{◌≡◌, false, ◌∷◌, refl, sym, ◌∙◌, subst}
use Rattle.std.specs.Prelude.{nat_lt, Some}
use Rattle.sv_vxi.specs.Results.{Outcome}
use Rattle.sv_history.specs.Act.{Replied, CallTaken}
use Rattle.sv_history.specs.Connection.{next_call, free}
use Rattle.sv_history.specs.Effect.{result_reply}
use Rattle.sv_history.specs.Refusing.{refusable}
use Rattle.sv_history.specs.Limits.{longest_reply}
use Rattle.sv_server.specs.Connection.Representation.{IsConnection}
use Rattle.sv_server.specs.Connection.Inside.Requests.{plain_core_call}
use Rattle.sv_server.proofs.OnServer.Refusals.{refusable_is, refuse_allowed}
use Rattle.sv_server.proofs.server.refusing.refuse.Goals as goal
use Rattle.std.proofs.lemmas.Bool.{not-true}

pub returns-clause-acts : goal.returns-clause-acts
returns-clause-acts g c = λ acts is.
    let bytes = c.in-Some.bytes.now in
    let call = c.in-Some-refusable.call in
    let next : next_call acts ≡ Some bytes = sym (c.in-Some.ensures.answer acts is) in
    let known : refusable acts ≡ Some (plain_core_call call) =
    refusable_is acts c.args.role (Some bytes) (sym is.role ∙ c.requires) next ∙ sym c.in-Some-refusable.ensures in
    let roomy : nat_lt (free acts) longest_reply ≡ false = not-true _ (sym (c.if-not-has_reply_room.ensures.answer acts is)) in (
      refuse_allowed acts (plain_core_call call) known roomy,
      bytes,
      plain_core_call call,
      next,
      known,
      subst (λ (o : Outcome). IsConnection c.answer.new.self
          (Replied (result_reply call.xid o) ∷ CallTaken bytes ∷ acts))
          c.failure-result.ensures.result_is
          (c.answer.ensures (CallTaken bytes ∷ acts) (c.take_call.ensures acts bytes is next) refl),
    )
