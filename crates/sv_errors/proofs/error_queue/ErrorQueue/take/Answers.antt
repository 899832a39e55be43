-- The front of the ring buffer is the oldest entry.
use Rattle.std.proofs.Common.{rules}
use Rattle.sv_errors.proofs.Queue.{stands_for_taken}
use Rattle.sv_errors.proofs.error_queue.ErrorQueue.take.Goals as goal

pub returns-clause-stands : goal.returns-clause-stands
returns-clause-stands g c = rw (c.pop_front.ensures.items, ← c.self.view_is)
    (λ acts stands. stands_for_taken _ acts stands)

pub returns-clause-answer : goal.returns-clause-answer
returns-clause-answer g c = search rules
