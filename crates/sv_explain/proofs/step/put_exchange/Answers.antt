use Rattle.sv_explain.proofs.step.put_exchange.Goals as goal

pub returns-in-Interrupt : goal.returns-in-Interrupt
returns-in-Interrupt g c = rw c.in-Interrupt.is c.put_unit.ensures
