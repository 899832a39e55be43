use Rattle.sv_errors.proofs.Queue.{stands_for_cleared}
use Rattle.sv_errors.proofs.error_queue.ErrorQueue.clear.Goals as goal

pub returns : goal.returns
returns g c = rw (c.clear.ensures, ← c.self.view_is) (λ acts stands. stands_for_cleared _ acts stands)
