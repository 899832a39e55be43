-- Suspended calls (VXI-11 revision 1.0, section B.4.4: locks and timeouts): what each call waits
-- for, when it times out, and in which order the calls were suspended. In a list of acts the newest
-- act comes first.
use Rattle.std.specs.Prelude.{◌≡◌, ℕ, ◌==◌, ◌≤◌, not, ◌&&◌, Bool, true, false, List, [], ◌∷◌, length, filter, is_none, option_map, Option, Some, None, if◌then◌else◌}
use Rattle.std.specs.List.{range_with_len}
use Rattle.sv_logs.specs.Since.{newest}
use Rattle.sv_links.specs.declared.waiting.Wait.{Wait}
use Rattle.sv_links.specs.Limits.{max_connections}
use Rattle.sv_links.specs.Links.{is_locked_out}
use Rattle.sv_links.specs.declared.waiting.Wait.TheVariants.{Lock, Input, Response}

-- What happens to the call of a connection. `Entered`: the call is suspended; `link` is the link
-- that the call names, or `None`. `Again`: the call stays suspended, but now waits for something
-- else. `Left`: the call isn't suspended any more. `deadline` is the value of the clock at which
-- the wait times out, in milliseconds; `None` if it never does.
pub data WaitAct : Type 0 where
  Entered : (conn : ℕ) (link : Option ℕ) (wait : Wait) (deadline : Option ℕ) → WaitAct
  Again : (conn : ℕ) (wait : Wait) (deadline : Option ℕ) → WaitAct
  Left : (conn : ℕ) → WaitAct

-- what the call of a connection waits for; `None` if the connection has no suspended call
abbrev pub waits : ℕ → List WaitAct → Option Wait
waits c [] = None
waits c (Entered conn link wait deadline ∷ acts) = if conn == c then Some wait else waits c acts
waits c (Again conn wait deadline ∷ acts) = if conn == c then option_map (λ before. wait) (waits c acts) else waits c acts
waits c (Left conn ∷ acts) = if conn == c then None else waits c acts

-- the deadline of the newest wait of a connection; `None` if this wait has no deadline
abbrev pub deadline : ℕ → List WaitAct → Option ℕ
deadline c [] = None
deadline c (Entered conn link wait last ∷ acts) = if conn == c then last else deadline c acts
deadline c (Again conn wait last ∷ acts) = if conn == c then last else deadline c acts
deadline c (Left conn ∷ acts) = deadline c acts

-- whether the newest act suspends a call of this connection
abbrev pub enters : ℕ → List WaitAct → Bool
enters c = elim [ Entered conn link wait deadline ∷ acts ↦ conn == c | _ ↦ false ]

-- when the call of a connection was suspended, as a number: the length that the list of acts had
-- then
abbrev pub arrival : ℕ → List WaitAct → ℕ
arrival c acts = length (newest (enters c) acts)

-- the link named by the call that the newest act suspends; `None` if the call names no link, or if
-- the newest act suspends no call
abbrev link_of : List WaitAct → Option ℕ
link_of = elim [ Entered conn link wait deadline ∷ acts ↦ link | _ ↦ None ]

-- the link that the suspended call of a connection names; `None` if the call names no link
abbrev pub link : ℕ → List WaitAct → Option ℕ
link c acts = link_of (newest (enters c) acts)

-- whether a call waits for the lock, given what the call waits for
abbrev pub is_lock : Option Wait → Bool
is_lock = elim [ Some Lock ↦ true | _ ↦ false ]

-- the numbers of all connections, rising from 0
abbrev pub connections : List ℕ
connections = range_with_len 0 max_connections

-- whether a call gets what it waits for, by the kind of its wait. `Lock`: no link other than the
-- named one holds the lock. `Input`: the device accepts a write (`can_write`). `Response`: the
-- device answers a read (`can_read`). For any other wait, or `None`, the result is false.
abbrev pub is_there : Option ℕ → Bool → Bool → Option ℕ → Option Wait → Bool
is_there holder can_write can_read named (Some Lock) = not (is_locked_out holder named)
is_there holder can_write can_read named (Some Input) = can_write
is_there holder can_write can_read named (Some Response) = can_read
is_there holder can_write can_read named _ = false

-- The suspended call of a connection can resume.
abbrev pub IsAble : Option ℕ → Bool → Bool → List WaitAct → ℕ → Type 0
IsAble holder can_write can_read acts c = is_there holder can_write can_read (link c acts) (waits c acts) ≡ true

-- The suspended call of a connection has a deadline, and this deadline has come.
abbrev pub IsExpired : ℕ → List WaitAct → ℕ → Type 0
IsExpired clock acts c = (wait : Wait) × (last : ℕ) × (waits c acts ≡ Some wait) × (deadline c acts ≡ Some last) × (last ≤ clock)

-- whether a create_link of this connection is suspended: it waits for the lock, and names no link
abbrev pub is_creating : List WaitAct → ℕ → Bool
is_creating acts c = is_lock (waits c acts) && is_none (link c acts)

-- how many connections have a suspended create_link
abbrev pub creating : List WaitAct → ℕ
creating acts = length (filter (is_creating acts) connections)

-- Of all connections for which `IsSuch` holds, the third argument is the connection whose call was
-- suspended first. The third argument is `None` if `IsSuch` holds for no connection.
abbrev pub IsOldest : List WaitAct → (ℕ → Type 0) → Option ℕ → Type 0
IsOldest acts IsSuch None = (c : ℕ) → IsSuch c → ⊥
IsOldest acts IsSuch (Some c) = IsSuch c × ((d : ℕ) → IsSuch d → arrival c acts ≤ arrival d acts)
