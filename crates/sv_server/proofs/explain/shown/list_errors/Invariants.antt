use Rattle.std.proofs.Common.{◌≡◌, List, length, map, take}
use Rattle.sv_errors.specs.declared.error_queue.QueueAct.{QueueAct}
use Rattle.sv_errors.specs.Code.{number_of}
use Rattle.sv_errors.specs.ErrorQueue.{queue_codes, StandsFor}
use Rattle.sv_server.proofs.explain.shown.list_errors.Given as goal

-- The numbers so far are those of the first errors of the queue.
abbrev pub invariant-loop-index : goal.invariant-loop-index
invariant-loop-index g l = record {
  count : length l.found.items ≡ l.index;
  are : (acts : List QueueAct) → StandsFor l.queue acts → l.found.items ≡ map number_of (take l.index (queue_codes acts));
}
