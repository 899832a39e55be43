-- The first unit of a message, and what follows it.
use Rattle.std.specs.Prelude.{◌≡◌, ◌≢◌, ℕ, ◌<◌, ◌≤◌, List, [], ◌∷◌, ◌++◌, length, take, drop}
use Rattle.sv_exchange.specs.Exchange.{units}

-- `unit` is the first unit of the message. After its first `count` bytes, the message has exactly
-- the units that follow the first unit. If there are bytes after these, then these have exactly the
-- first unit, whatever follows them (`front`).
pub record IsFirst (message unit : List ℕ) (count : ℕ) : Type 0 where
  pub front : drop count message ≢ [] → (more : List ℕ) → units (take count message ++ more) ≡ unit ∷ units more
  pub units : units message ≡ unit ∷ units (drop count message)
  pub some : unit ≢ []
  pub within : (0 < count) × (count ≤ length message)
