use Rattle.sv_status.proofs.StatusBytes.{stands_for_updated, raised_is}
use Rattle.sv_status.proofs.status_byte.StatusByte.update.Goals as goal

pub returns-clause-stands : goal.returns-clause-stands
returns-clause-stands c = λ acts is. stands_for_updated c.asking-before.result c.asking-now.result _ acts c.args.bits c.args.enable
    (rw (← c.self.view_is) at is) c.asking-before.ensures c.asking-now.ensures

pub returns-clause-answer : goal.returns-clause-answer
returns-clause-answer c = λ acts is. raised_is c.asking-before.result c.asking-now.result _ acts c.args.bits c.args.enable
    (rw (← c.self.view_is) at is) c.asking-before.ensures c.asking-now.ensures
