use Rattle.std.proofs.Common.{◌∙◌, refl}
use Rattle.sv_server.proofs.OnReplay.Telling.{no_step_told, told_step, told_ended}
use Rattle.sv_server.proofs.server.Server.tell_to_call.Goals as goal

pub loop-self-init : goal.loop-self-init
loop-self-init g c = (no_step_told _ _ _ _, refl)

pub loop-self-preserved : goal.loop-self-preserved
loop-self-preserved g c = (
  told_step _ _ _ _ _ _ _ _ _ _ _ _ _ _ c.due.result c.loop-self.invariant.0 c.due.ensures c.in-Instrument.ensures.steps c.put_step.ensures
      c.tell.ensures,
  c.in-Instrument.ensures.waiting (λ e. cc) ∙ c.loop-self.invariant.1,
)

pub returns-in-Call-clause-tells : goal.returns-in-Call-clause-tells
returns-in-Call-clause-tells g c =
    told_step _ _ _ _ _ _ _ _ _ _ _ _ _ _ c.due.result c.loop-self.invariant.0 c.due.ensures c.in-Call.ensures.steps c.put_step.ensures
    c.tell-in-Call.ensures

pub returns-in-Nothing-clause-tells : goal.returns-in-Nothing-clause-tells
returns-in-Nothing-clause-tells g c =
    told_ended _ _ _ _ _ _ _ _ _ _ _ c.due.result c.loop-self.invariant.0 c.due.ensures
    (λ config log rep. c.in-Nothing.ensures.nothing config log rep refl) c.in-Nothing.ensures.steps c.put_step.ensures
