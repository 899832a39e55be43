use Rattle.std.proofs.Common.{◌≡◌, ◌∙◌, true, false}
use Rattle.sv_history.specs.Settling.{IsSettled}
use Rattle.sv_server.proofs.OnServer.Settled.{then_one_step, then_last_step, any_ended}
use Rattle.sv_server.proofs.server.Server.settle_to_call.Goals as goal

pub loop-preserved : goal.loop-preserved
loop-preserved g c = (
  then_one_step _ _ c.step.new.self c.loop.invariant.0 c.in-Instrument.ensures.steps,
  c.in-Instrument.ensures.waiting (λ e. cc) ∙ c.loop.invariant.1,
)

pub returns-in-Call-clause-goes : goal.returns-in-Call-clause-goes
returns-in-Call-clause-goes g c = then_last_step _ _ c.step.new.self (λ config mid. true ≡ false → IsSettled config mid)
    (λ config log e. absurd cc)
    c.loop.invariant.0 c.in-Call.ensures.steps

pub returns-in-Nothing-clause-goes : goal.returns-in-Nothing-clause-goes
returns-in-Nothing-clause-goes g c = any_ended _ _ c.step.new.self c.loop.invariant.0 c.in-Nothing.ensures.steps
