-- The error queue (SCPI-1999, volume 2, section 21.8), defined by a search of its acts, the newest
-- first. An act's number (`place`) is counted from the oldest act, which has number 1.
use Rattle.std.specs.Prelude.{◌≡◌, ℕ, ◌+◌, ◌-◌, ◌==◌, ◌&&◌, Bool, false, List, [], ◌∷◌, ◌++◌, length, map, drop, Option, Some, None, is_some, unwrap_or, min, nat_lt, slice_get, if◌then◌else◌}
use Rattle.sv_errors.specs.declared.code.Code.{Code}
use Rattle.sv_errors.specs.declared.code.Code.TheVariants.{NoError, QueueOverflow}
use Rattle.sv_errors.specs.declared.error_queue.QueueAct.{QueueAct}
use Rattle.sv_errors.specs.declared.error_queue.QueueAct.TheVariants.{Report, Take, Clear}

-- how many entries the queue can have
abbrev pub most : ℕ
most = 64

-- `admitted`: the reports since the last clearing for which the queue had room, the oldest first.
-- Each report is given as the number of its act, counted from the oldest act. `taken`: how many of
-- these reports' entries were taken from the queue.
pub record Counted : Type 0 where
  pub admitted : List ℕ
  pub taken : ℕ

-- the admitted reports whose entries weren't taken from the queue yet, each given as the number of
-- its act
abbrev pub left : Counted → List ℕ
left count_acts = drop count_acts.taken count_acts.admitted

-- the counts after act number `place`, which reports an error: the report is admitted if the queue
-- has fewer than 64 entries
abbrev pub admit : Counted → ℕ → Counted
admit before place = if nat_lt (length (left before)) most then record before { admitted = before.admitted ++ place ∷ [] } else before

-- the counts after a take: one more entry is taken, unless the queue is empty
abbrev pub take_one : Counted → Counted
take_one before = if is_some (slice_get (left before) 0) then record before { taken = before.taken + 1 } else before

-- the counts after these acts: the reports since the last clearing for which the queue had room,
-- and how many of their entries were taken
abbrev pub count_acts : List QueueAct → Counted
count_acts [] = record { admitted = []; taken = 0 }
count_acts (Report code ∷ acts) = admit (count_acts acts) (length acts + 1)
count_acts (Take ∷ acts) = take_one (count_acts acts)
count_acts (Clear ∷ acts) = record { admitted = []; taken = 0 }

-- the entries of the queue, the oldest first; each is given as the number of the act that reported
-- it, counted from the oldest act
abbrev pub entries : List QueueAct → List ℕ
entries acts = left (count_acts acts)

-- whether the queue is full, so that one more report would overflow it
abbrev pub is_full : List QueueAct → Bool
is_full acts = length (entries acts) == most

-- whether the newest act reports an error to a full queue, so that this error is lost
abbrev pub loses : List QueueAct → Bool
loses = elim [ Report code ∷ acts ↦ is_full acts | _ ↦ false ]

-- how many errors were lost because the queue was full
abbrev pub lost : List QueueAct → ℕ
lost [] = 0
lost (act ∷ acts) = lost acts + (if loses (act ∷ acts) then 1 else 0)

-- the acts up to and including act number `place`, counted from the oldest act
abbrev pub up_to : ℕ → List QueueAct → List QueueAct
up_to place acts = drop (length acts - place) acts

-- the error that the newest act reports; `None` if the act isn't a report
abbrev pub report_of : List QueueAct → Option Code
report_of = elim [ Report code ∷ acts ↦ Some code | _ ↦ None ]

-- whether the act that follows act number `place`, counted from the oldest act, is a report
abbrev pub is_overtaken : ℕ → List QueueAct → Bool
is_overtaken place acts = nat_lt place (length acts) && is_some (report_of (up_to (place + 1) acts))

-- The error in the queue's entry that act number `place` added. If the queue was full after this
-- act, and the next act is a report too, the error is -350. Else it is the error that act number
-- `place` reports.
abbrev pub entry_code : List QueueAct → ℕ → Code
entry_code acts place =
    if is_full (up_to place acts) && is_overtaken place acts then QueueOverflow else unwrap_or (report_of (up_to place acts)) NoError

-- the errors in the queue, the oldest first
abbrev pub queue_codes : List QueueAct → List Code
queue_codes acts = map (entry_code acts) (entries acts)

-- the oldest error in the queue; `None` if the queue is empty
abbrev pub oldest : List QueueAct → Option Code
oldest acts = slice_get (queue_codes acts) 0

-- the largest number of lost errors that is counted
abbrev pub most_lost : ℕ
most_lost = 4294967295

-- what the queue holds: its errors, the oldest first; and how many errors were lost, at most
-- `most_lost`
pub record Queue : Type 0 where
  pub codes : List Code
  pub lost_count : ℕ

-- After these acts, the queue has these errors, and has counted the lost errors.
pub record StandsFor (queue : Queue) (acts : List QueueAct) : Type 0 where
  pub codes : queue.codes ≡ queue_codes acts
  pub lost_count : queue.lost_count ≡ min (lost acts) most_lost
