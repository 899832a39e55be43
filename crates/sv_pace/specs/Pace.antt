-- When a server polls before it sleeps, and when it sleeps without polling. This depends on how its
-- earlier waits ended. A list of waits has the newest wait first.
use Rattle.std.specs.Prelude.{◌≡◌, ℕ, zero, suc, ◌-◌, ◌*◌, ◌≤◌, min, max, Bool, true, false, List, [], ◌∷◌}

-- How a wait of the server ended. `Found`: a poll found something. `Missed`: the server polled for
-- some time and found nothing. `Slept`: the server slept without polling.
pub data Wait : Type 0 where
  Found : Wait
  Missed : Wait
  Slept : Wait

-- how many waits ended as `Missed` since the newest wait that ended as `Found`
abbrev pub misses : List Wait → ℕ
misses [] = 0
misses (Found ∷ waits) = 0
misses (Missed ∷ waits) = suc (misses waits)
misses (Slept ∷ waits) = misses waits

-- how many waits ended as `Slept` since the newest wait in which the server polled
abbrev pub sleeps : List Wait → ℕ
sleeps [] = 0
sleeps (Found ∷ waits) = 0
sleeps (Missed ∷ waits) = 0
sleeps (Slept ∷ waits) = suc (sleeps waits)

-- How many waits without polling have to follow a miss: a wait in which the server polled and found
-- nothing. The flag says whether the previous wait with polls was a miss too. If it was, `pause` is
-- the number of waits that had to follow that miss; the new number is twice `pause`, but at least 1
-- and at most 1,024. If it wasn't, the new number is 0.
abbrev pub longer : Bool → ℕ → ℕ
longer false pause = 0
longer true pause = min (max (pause * 2) 1) 1024

-- whether a count is above 0
abbrev pub is_any : ℕ → Bool
is_any zero = false
is_any (suc n) = true

-- how many waits without polling have to come before the server may poll again, if this many waits
-- ended as `Missed` since the newest `Found`: 0, 0, 1, 2, 4 .. for 0, 1, 2, 3, 4 .. missed waits
abbrev pub pause_after : ℕ → ℕ
pause_after zero = 0
pause_after (suc n) = longer (is_any n) (pause_after n)

-- The list of waits after one more wait. The number says how many times the server polled in this
-- wait; the flag says whether the server found something. If it found something without a poll, the
-- wait isn't added to the list, because this wait doesn't show whether polling pays.
abbrev pub after_wait : ℕ → Bool → List Wait → List Wait
after_wait zero true waits = waits
after_wait zero false waits = Slept ∷ waits
after_wait (suc n) true waits = Found ∷ waits
after_wait (suc n) false waits = Missed ∷ waits

-- The state of the policy: when the last sweep began, and when something was last reported about a
-- socket, both in nanoseconds; whether the last wait with polls found nothing; how many waits
-- without polling have to follow that wait; and how many of these waits remain.
pub record Kept : Type 0 where
  pub swept : ℕ
  pub worked : ℕ
  pub missed : Bool
  pub pause : ℕ
  pub left : ℕ

-- The state of the policy, apart from its two times, follows from these waits.
pub record StandsFor (kept : Kept) (waits : List Wait) : Type 0 where
  pub missed : kept.missed ≡ is_any (misses waits)
  pub pause : kept.pause ≡ pause_after (misses waits)
  pub left : kept.left ≡ pause_after (misses waits) - sleeps waits

-- The server may poll again: since it last polled, it has slept without polling in as many waits as
-- `pause_after` says.
abbrev pub IsDue : List Wait → Type 0
IsDue waits = pause_after (misses waits) ≤ sleeps waits
