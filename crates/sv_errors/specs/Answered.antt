-- What each act of the error queue returns.
use Rattle.std.specs.Prelude.{◌≡◌, List}
use Rattle.sv_errors.specs.declared.error_queue.QueueAct.{QueueAct}
use Rattle.sv_errors.specs.declared.error_queue.QueueAct.TheVariants.{Report, Take, Clear}
use Rattle.sv_errors.specs.declared.error_queue.QueueAnswer.{QueueAnswer}
use Rattle.sv_errors.specs.declared.error_queue.QueueAnswer.TheVariants.{Reported, Taken, Cleared}
use Rattle.sv_errors.specs.ErrorQueue.{is_full, oldest}

-- the answer to `act` after `acts`: for a report, whether the queue was full before the report; for
-- a take, the entry that was the oldest, or `None` if the queue was empty
abbrev pub answer_to : List QueueAct → QueueAct → QueueAnswer
answer_to acts (Report code) = Reported (is_full acts)
answer_to acts Take = Taken (oldest acts)
answer_to acts Clear = Cleared

-- After `acts`, the error queue gives this answer to `act`.
abbrev pub Gives : List QueueAct → QueueAct → QueueAnswer → Type 0
Gives acts act answer = answer ≡ answer_to acts act
