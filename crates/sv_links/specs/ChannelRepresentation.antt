-- The state of interrupt channels, and when a state stands for a list of acts.
use Rattle.std.specs.Prelude.{◌≡◌, ℕ, ◌-◌, ◌==◌, ◌<◌, ◌≤◌, nat_lt, not, Bool, true, false, List, [], ◌∷◌, length, map, filter, Option, Some, None, is_some, slice_get, slice_index_or, if◌then◌else◌, ⊤}
use Rattle.std.specs.List.{concat, AllByRecursion}
use Rattle.sv_links.specs.declared.enabled.Enabled.{Enabled}
use Rattle.sv_links.specs.declared.request.Peer.{Peer}
use Rattle.sv_links.specs.declared.channel.Stage.{Stage}
use Rattle.sv_links.specs.declared.channel.Stage.TheVariants.{Closed, Prepared, Open}
use Rattle.sv_links.specs.Limits.{max_connections, max_enabled}
use Rattle.sv_links.specs.Channels.{ChannelAct, enabled_links, peer, was_opened, bytes_taken, calls, calls_left}

-- the state of one interrupt channel: its stage; how many device_intr_srq calls were appended since
-- the channel was opened; how many bytes are still to be sent of each call that the peer didn't
-- take completely; and all these bytes, joined
pub record Channel : Type 0 where
  pub stage : Stage
  pub made : ℕ
  pub sizes : List ℕ
  pub bytes : List ℕ

-- the links that have service requests enabled, the channel of each connection, and whether a
-- channel was ever opened
pub record Channels : Type 0 where
  pub enabled : List Enabled
  pub channels : List Channel
  pub opened : Bool

-- the client's program to which an open channel sends its calls; `None` if the channel isn't open
abbrev pub opened_for : Stage → Option Peer
opened_for (Open what) = Some what
opened_for Closed = None
opened_for Prepared = None

-- whether a channel is prepared: its memory is allocated, and it can be opened
abbrev pub is_prepared : Stage → Bool
is_prepared Prepared = true
is_prepared Closed = false
is_prepared (Open what) = false

-- how many bytes remain of each call, if the calls have these sizes and the peer took `count` bytes
-- in total. A call of which no byte remains is omitted.
abbrev pub left_in : ℕ → List ℕ → List ℕ
left_in count [] = []
left_in count (size ∷ sizes) = if nat_lt count size then (size - count) ∷ sizes else left_in (count - size) sizes

-- The channel stores what remains of `calls` after the peer took `count` bytes of these calls. All
-- calls together have at least `count` bytes.
abbrev pub IsQueued : Channel → ℕ → List (List ℕ) → Type 0
IsQueued kept count calls = (kept.made ≡ length calls) × (kept.sizes ≡ map length (calls_left count calls))
    × (kept.bytes ≡ concat (calls_left count calls)) × (count ≤ length (concat calls))

-- If the channel is open, it stores what remains of `calls` after the peer took `count` bytes of
-- these calls.
abbrev pub IsChannelFor : Option Peer → Channel → ℕ → List (List ℕ) → Type 0
IsChannelFor (Some what) kept count calls = IsQueued kept count calls
IsChannelFor None kept count calls = ⊤

-- The interrupt channel of connection `c` has the state that the acts determine.
abbrev pub IsChannel : Channel → ℕ → List ChannelAct → Type 0
IsChannel kept c acts = (opened_for kept.stage ≡ peer c acts) × IsChannelFor (peer c acts) kept (bytes_taken c acts) (calls c acts)

-- The list of links with service requests enabled is in rising order of the links' numbers.
abbrev pub IsSorted : List Enabled → Type 0
IsSorted [] = ⊤
IsSorted (link ∷ links) = AllByRecursion (λ other. link.lid < other.lid) links × IsSorted links

-- There is room for link `lid` to enable service requests: fewer than 32 other links have service
-- requests enabled.
abbrev pub HasRoomFor : ℕ → Channels → Type 0
HasRoomFor lid kept = length (filter (λ other. not (other.lid == lid)) kept.enabled) < max_enabled

-- those of `links` whose numbers aren't among `lids`
abbrev pub without_links : List ℕ → List Enabled → List Enabled
without_links [] links = links
without_links (lid ∷ lids) links = filter (λ other. not (other.lid == lid)) (without_links lids links)

-- those of `links` that don't belong to connection `c`
abbrev pub of_others : ℕ → List Enabled → List Enabled
of_others c links = filter (λ other. not (other.conn == c)) links

-- the bytes that wait to be sent on a channel; none if there is no channel or the channel isn't
-- open
abbrev pub bytes_in : Option Channel → List ℕ
bytes_in (Some channel) = if is_some (opened_for channel.stage) then channel.bytes else []
bytes_in None = []

-- the bytes that wait to be sent on the channel of connection c
abbrev pub bytes_of : Channels → ℕ → List ℕ
bytes_of kept c = bytes_in (slice_get kept.channels c)

-- The channel of connection c is prepared: its memory is allocated, and it can be opened.
abbrev pub IsReady : Channels → ℕ → Type 0
IsReady kept c = (other : Channel) → is_prepared (slice_index_or kept.channels c other).stage ≡ true

-- The channels, and the list of links with service requests enabled, have the state that the acts
-- determine. No connection above 15 has an open channel.
pub record AreChannels (kept : Channels) (acts : List ChannelAct) : Type 0 where
  pub enabled : kept.enabled ≡ enabled_links acts
  pub each : (c : ℕ) (other : Channel) → c < max_connections → IsChannel (slice_index_or kept.channels c other) c acts
  pub beyond : (c : ℕ) → max_connections ≤ c → peer c acts ≡ None
  pub opened : kept.opened ≡ was_opened acts
