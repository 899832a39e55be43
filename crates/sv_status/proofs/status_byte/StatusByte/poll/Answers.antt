use Rattle.sv_logs.proofs.Since.{iff_transitive}
use Rattle.sv_status.proofs.StatusBytes.{polled_bit}
use Rattle.sv_status.proofs.status_byte.StatusByte.poll.Goals as goal

pub returns-clause-answer : goal.returns-clause-answer
returns-clause-answer c = λ acts is k. iff_transitive (c.with_bit_6-status.ensures k) (polled_bit _ acts k (rw (← c.self.view_is) at is))
