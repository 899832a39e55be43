-- The searches of logs that all layers share. A log is a list of acts, the newest first. A suffix
-- of a log is the log as it was some acts ago.
use Rattle.std.specs.Prelude.{ℕ, ◌≤◌, Bool, ◌&&◌, ◌||◌, List, [], ◌∷◌, length, drop, Option, unwrap_or, if◌then◌else◌}

-- the longest suffix of the list for which `is_such` holds; the empty list if `is_such` holds for
-- no suffix
abbrev pub newest : {A : Type 0} → (List A → Bool) → List A → List A
newest is_such [] = []
newest is_such (act ∷ acts) = if is_such (act ∷ acts) then act ∷ acts else newest is_such acts

-- the acts that are newer than the longest suffix for which `is_such` holds; all acts if `is_such`
-- holds for no suffix
abbrev pub since : {A : Type 0} → (List A → Bool) → List A → List A
since is_such [] = []
since is_such (act ∷ acts) = if is_such (act ∷ acts) then [] else act ∷ since is_such acts

-- the value of `gives` for the newest act for which `gives` isn't `None`; `default` if `gives` is
-- `None` for every act
abbrev pub last_given : {A B : Type 0} → (A → Option B) → B → List A → B
last_given gives default [] = default
last_given gives default (act ∷ acts) = unwrap_or (gives act) (last_given gives default acts)

-- `IsFind` holds for the log as it was `ago` acts ago. `Keeps` holds for that log, and for the log
-- after each later act.
pub record Since {A : Type 0} (IsFind Keeps : List A → Type 0) (log : List A) : Type 0 where
  pub ago : ℕ
  pub within : ago ≤ length log
  pub found : IsFind (drop ago log)
  pub kept : (n : ℕ) → n ≤ ago → Keeps (drop n log)

-- `Since` as a function that returns a Bool: `is_find` and `keeps` decide what `IsFind` and `Keeps`
-- state
abbrev pub is_since : {A : Type 0} → (List A → Bool) → (List A → Bool) → List A → Bool
is_since is_find keeps [] = keeps [] && is_find []
is_since is_find keeps (act ∷ acts) = keeps (act ∷ acts) && (is_find (act ∷ acts) || is_since is_find keeps acts)
