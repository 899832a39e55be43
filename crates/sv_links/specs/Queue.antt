-- The state of the queue of suspended calls, and when a state stands for a list of acts.
use Rattle.std.specs.Prelude.{◌≡◌, ◌≢◌, ℕ, ◌==◌, ◌<◌, nat_le, Bool, false, List, [], ◌∷◌, Option, Some, None, is_none, option_map, find, filter, length, not, ◌&&◌, ◌+◌, if◌then◌else◌, ⊤}
use Rattle.std.specs.List.{AllByRecursion}
use Rattle.sv_links.specs.declared.waiting.Entry.{Entry}
use Rattle.sv_links.specs.declared.waiting.Wait.{Wait}
use Rattle.sv_links.specs.declared.waiting.Wait.TheVariants.{Lock, Input, Response, Dial}
use Rattle.sv_links.specs.Waiting.{WaitAct, waits, deadline, link, arrival, is_lock}

-- The queue has no entry of this connection.
abbrev pub IsFree : ℕ → List Entry → Type 0
IsFree conn entries = AllByRecursion (λ entry. entry.conn ≢ conn) entries

-- No connection has two entries in the queue.
abbrev pub IsOnce : List Entry → Type 0
IsOnce [] = ⊤
IsOnce (entry ∷ entries) = IsFree entry.conn entries × IsOnce entries

-- The number of each entry's connection is below `most`.
abbrev pub IsBelow : ℕ → List Entry → Type 0
IsBelow most entries = AllByRecursion (λ entry. entry.conn < most) entries

-- the entry of a connection in the queue; `None` if the connection has no entry
abbrev pub entry_of : ℕ → List Entry → Option Entry
entry_of conn entries = find (λ entry. entry.conn == conn) entries

-- The entry has the wait, the deadline and the link that the acts determine for its connection.
abbrev pub IsEntry : List WaitAct → Entry → Type 0
IsEntry acts entry = (waits entry.conn acts ≡ Some entry.wait) × (deadline entry.conn acts ≡ entry.deadline)
    × (link entry.conn acts ≡ entry.lid)

-- The entries are in the order in which their calls were suspended, the oldest first.
abbrev pub IsOrdered : List WaitAct → List Entry → Type 0
IsOrdered acts [] = ⊤
IsOrdered acts (entry ∷ entries) =
    AllByRecursion (λ other. arrival entry.conn acts < arrival other.conn acts) entries × IsOrdered acts entries

-- The entries are exactly the suspended calls, the oldest first.
pub record IsQueue (entries : List Entry) (acts : List WaitAct) : Type 0 where
  pub each : AllByRecursion (IsEntry acts) entries
  pub ordered : IsOrdered acts entries
  pub all : (conn : ℕ) → waits conn acts ≡ option_map (λ entry. entry.wait) (entry_of conn entries)

-- an entry of the queue after the suspended call of connection `conn` began to wait for something
-- else: the entry of `conn` gets this wait and this deadline; any other entry is unchanged
abbrev pub anew : ℕ → Wait → Option ℕ → Entry → Entry
anew conn wait deadline entry = if entry.conn == conn then record entry { wait = wait; deadline = deadline } else entry

-- whether a call's deadline has come by the time `clock`; false if the call has no deadline
abbrev pub is_past : ℕ → Option ℕ → Bool
is_past clock (Some deadline) = nat_le deadline clock
is_past clock None = false

-- whether an entry is a suspended create_link
abbrev pub creates : Entry → Bool
creates entry = is_lock (Some entry.wait) && is_none entry.lid

-- how many of the entries are suspended create_links
abbrev pub creations : List Entry → ℕ
creations entries = length (filter creates entries)

-- the entries of all connections except `conn`
abbrev pub without : ℕ → List Entry → List Entry
without conn entries = filter (λ entry. not (entry.conn == conn)) entries

-- the most steps that a suspended call with this wait can still take. Each call takes one step when
-- it leaves the queue. A call that waits for the lock can take one step more: it can first be
-- suspended anew, to wait for something else.
abbrev pub wait_measure : Wait → ℕ
wait_measure Lock = 2
wait_measure Input = 1
wait_measure Response = 1
wait_measure Dial = 1

-- the most steps that all suspended calls together can still take: the sum over the entries
abbrev pub queue_measure : List Entry → ℕ
queue_measure [] = 0
queue_measure (entry ∷ entries) = wait_measure entry.wait + queue_measure entries
