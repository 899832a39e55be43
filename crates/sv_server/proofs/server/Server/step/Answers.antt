use Rattle.std.proofs.Common.{◌∙◌, refl, sym, ap, subst, inl, inr}
use Rattle.sv_server.specs.Server.State.{State, Represents}
use Rattle.sv_server.proofs.OnServer.Steps.{no_step_if_none_possible}
use Rattle.sv_server.proofs.OnServer.Naming.{no_trigger_due}
use Rattle.sv_server.proofs.server.Server.step.Goals as goal

pub returns-then-fire-clause-steps : goal.returns-then-fire-clause-steps
returns-then-fire-clause-steps g c = λ config log rep.
    let (next, fires, held) = c.if-fire.ensures.steps config log rep in (next, inl fires, held)

pub returns-then-resume_oldest-clause-steps : goal.returns-then-resume_oldest-clause-steps
returns-then-resume_oldest-clause-steps g c = λ config log rep.
    let (none, same) = c.if-fire.ensures.steps config log rep in
    let (next, goes, held) = c.if-resume_oldest.ensures.steps config log (subst (λ (s : State). Represents s config log) (sym same) rep) in
    (next, inr (none, inl goes), held)

pub returns-then-exchange-clause-steps : goal.returns-then-exchange-clause-steps
returns-then-exchange-clause-steps g c = λ config log rep.
    let (none, same) = c.if-fire.ensures.steps config log rep in
    let first = subst (λ (s : State). Represents s config log) (sym same) rep in
    let (still, alike) = c.if-resume_oldest.ensures.steps config log first in
    let (next, steps, held) = c.if-exchange.ensures.steps config log (subst (λ (s : State). Represents s config log) (sym alike) first) in
    (next, inr (none, inr (still, inl steps)), held)

pub returns-then-exchange-clause-instrument : goal.returns-then-exchange-clause-instrument
returns-then-exchange-clause-instrument g c = λ e.
    rw (← (c.if-resume_oldest.ensures.idle refl ∙ c.if-fire.ensures.idle refl)) (c.if-exchange.ensures.measure refl)

pub returns-then-exchange-clause-waiting : goal.returns-then-exchange-clause-waiting
returns-then-exchange-clause-waiting g c = λ e.
    c.if-exchange.ensures.waiting ∙ ap (λ (s : State). s.device.waiting) (c.if-resume_oldest.ensures.idle refl
    ∙ c.if-fire.ensures.idle refl)

pub returns-then-give_up_oldest-clause-steps : goal.returns-then-give_up_oldest-clause-steps
returns-then-give_up_oldest-clause-steps g c = λ config log rep.
    let (none, same) = c.if-fire.ensures.steps config log rep in
    let first = subst (λ (s : State). Represents s config log) (sym same) rep in
    let (still, alike) = c.if-resume_oldest.ensures.steps config log first in
    let second = subst (λ (s : State). Represents s config log) (sym alike) first in
    let (idle, equal) = c.if-exchange.ensures.steps config log second in
    let (next, gives, held) = c.if-give_up_oldest.ensures.steps config log
    (subst (λ (s : State). Represents s config log) (sym equal) second) in
    (next, inr (none, inr (still, inr (idle, gives))), held)

pub returns-then-give_up_oldest-clause-call : goal.returns-then-give_up_oldest-clause-call
returns-then-give_up_oldest-clause-call g c = λ e.
    rw (← (c.if-exchange.ensures.idle refl ∙ c.if-resume_oldest.ensures.idle refl ∙ c.if-fire.ensures.idle refl))
    (c.if-give_up_oldest.ensures.measure refl)

pub returns-clause-steps : goal.returns-clause-steps
returns-clause-steps g c = λ config log rep.
    let (none, same) = c.if-fire.ensures.steps config log rep in
    let first = subst (λ (s : State). Represents s config log) (sym same) rep in
    let (still, alike) = c.if-resume_oldest.ensures.steps config log first in
    let second = subst (λ (s : State). Represents s config log) (sym alike) first in
    let (idle, equal) = c.if-exchange.ensures.steps config log second in
    let third = subst (λ (s : State). Represents s config log) (sym equal) second in
    let (kept, last) = c.if-give_up_oldest.ensures.steps config log third in (
      no_step_if_none_possible none still idle kept,
      subst (λ (s : State). Represents s config log) (sym last) third,
    )

pub returns-clause-waiting : goal.returns-clause-waiting
returns-clause-waiting g c = λ e. ap (λ (s : State). s.device.waiting)
    (c.if-give_up_oldest.ensures.idle refl ∙ c.if-exchange.ensures.idle refl ∙ c.if-resume_oldest.ensures.idle refl
    ∙ c.if-fire.ensures.idle refl)

pub returns-clause-nothing : goal.returns-clause-nothing
returns-clause-nothing g c = λ config log rep e.
    let (none, same) = c.if-fire.ensures.steps config log rep in
    let first = subst (λ (s : State). Represents s config log) (sym same) rep in
    let (still, alike) = c.if-resume_oldest.ensures.steps config log first in
    let second = subst (λ (s : State). Represents s config log) (sym alike) first in
    let (idle, equal) = c.if-exchange.ensures.steps config log second in
    let third = subst (λ (s : State). Represents s config log) (sym equal) second in (
      no_trigger_due log none,
      c.if-resume_oldest.ensures.none config log first refl,
      c.if-exchange.ensures.none config log second refl,
      c.if-give_up_oldest.ensures.none config log third refl,
    )
