use Rattle.std.proofs.Common.{rules, sym, subst}
use Rattle.std.specs.Prelude.{Result, Ok, Err}
use Rattle.sv_history.specs.declared.event.Did.{Did}
use Rattle.sv_history.specs.declared.event.Refused.{Refused}
use Rattle.sv_history.specs.Event.{plain}
use Rattle.sv_history.specs.History.{Answers}
use Rattle.sv_server.proofs.OnServer.Standing.{answers_by_log, error_passed_on, stands_unless}
use Rattle.sv_server.proofs.server.Server.apply.Goals as goal

pub returns-in_err-did-clause-answers : goal.returns-in_err-did-clause-answers
returns-in_err-did-clause-answers g c = λ config history s. (
  s.log,
  s.is_log,
  subst (λ (r : Result Did Refused). Answers config (plain c.args.event) s.log r)
      (sym (error_passed_on c.from_residual.result c.in_err-did.field-0.0 c.from_residual.ensures.0 c.from_residual.ensures.1))
      (answers_by_log config (plain c.args.event) s.log (Err c.in_err-did.field-0.0) c.args.self.now c.act.new.self s.represents
      (c.in_err-did.ensures.acts config s.log s.represents)),
)

pub returns-clause-answers : goal.returns-clause-answers
returns-clause-answers g c = λ config history s. (
  s.log,
  s.is_log,
  answers_by_log config _ s.log (Ok c.in_ok-did.did) c.args.self.now _ s.represents
      (c.in_ok-did.ensures.acts config s.log s.represents),
)

pub returns-clause-stands : goal.returns-clause-stands
returns-clause-stands g c = λ config history s.
    stands_unless config history _ c.args.self.now _ _ c.in_ok-did.did _ (sym c.is_quiet-quiet.ensures) s c.act.ensures.within
    c.in_ok-did.ensures.acts c.settle_unless.ensures.settled c.settle_unless.ensures.unchanged

pub returns-in_err-did-clause-stands : goal.returns-in_err-did-clause-stands
returns-in_err-did-clause-stands g c = search rules

pub returns-in_err-did-clause-err : goal.returns-in_err-did-clause-err
returns-in_err-did-clause-err g c = search rules
