-- Interrupt channels (VXI-11 revision 1.0, section B.6: device_enable_srq, create_intr_chan,
-- destroy_intr_chan, device_intr_srq): which links have service requests enabled, and which bytes
-- are sent on each channel. In a list of acts the newest act comes first.
use Rattle.std.specs.Prelude.{ℕ, ◌+◌, ◌-◌, ◌==◌, max, ◌&&◌, Bool, true, false, List, [], ◌∷◌, ◌++◌, length, map, filter, drop, Option, Some, None, is_some, nat_lt, if◌then◌else◌}
use Rattle.std.specs.List.{concat, filter_map, fold, range_with_len}
use Rattle.sv_links.specs.declared.enabled.Enabled.{Enabled}
use Rattle.sv_links.specs.declared.request.Peer.{Peer}
use Rattle.sv_links.specs.Limits.{max_calls}
use Rattle.sv_links.specs.Request.{request}

-- what happens: a link enables service requests, with a handle; a link disables service requests;
-- the channel of a connection opens, for a program and its version; the channel of a connection
-- closes; a service request is raised; or the peer takes bytes of a channel
pub data ChannelAct : Type 0 where
  SrqEnabled : (lid conn : ℕ) (handle : List ℕ) → ChannelAct
  SrqDisabled : (lid : ℕ) → ChannelAct
  ChannelOpened : (conn : ℕ) (peer : Peer) → ChannelAct
  ChannelClosed : (conn : ℕ) → ChannelAct
  Requested : ChannelAct
  ChannelTaken : (conn count : ℕ) → ChannelAct

-- the connection of a link, and the handle with which the link last enabled service requests;
-- `None` if service requests of the link aren't enabled
abbrev pub srq_enabled : ℕ → List ChannelAct → Option Enabled
srq_enabled lid [] = None
srq_enabled lid (SrqEnabled other conn handle ∷ acts) =
    if other == lid then Some (record { lid = lid; conn = conn; handle = handle }) else srq_enabled lid acts
srq_enabled lid (SrqDisabled other ∷ acts) = if other == lid then None else srq_enabled lid acts
srq_enabled lid (_ ∷ acts) = srq_enabled lid acts

-- a number above the numbers of all links that ever enabled service requests
abbrev pub past : List ChannelAct → ℕ
past [] = 0
past (SrqEnabled lid conn handle ∷ acts) = max (lid + 1) (past acts)
past (_ ∷ acts) = past acts

-- the links that have service requests enabled, in the order of their numbers, each with its newest
-- handle
abbrev pub enabled_links : List ChannelAct → List Enabled
enabled_links acts = filter_map (λ lid. srq_enabled lid acts) (range_with_len 0 (past acts))

-- the handles of the links that belong to a connection
abbrev pub handles_of : ℕ → List Enabled → List (List ℕ)
handles_of c links = map (λ link. link.handle) (filter (λ link. link.conn == c) links)

-- the client's program to which the open channel of a connection sends its calls; `None` if the
-- channel isn't open
abbrev pub peer : ℕ → List ChannelAct → Option Peer
peer c [] = None
peer c (ChannelOpened conn what ∷ acts) = if conn == c then Some what else peer c acts
peer c (ChannelClosed conn ∷ acts) = if conn == c then None else peer c acts
peer c (_ ∷ acts) = peer c acts

-- whether the channel of a connection is open
abbrev pub is_channel_open : ℕ → List ChannelAct → Bool
is_channel_open c acts = is_some (peer c acts)

-- whether a channel was ever opened
abbrev pub was_opened : List ChannelAct → Bool
was_opened [] = false
was_opened (ChannelOpened conn what ∷ acts) = true
was_opened (_ ∷ acts) = was_opened acts

-- how many bytes the peer took from the channel of a connection since this channel was opened
abbrev pub bytes_taken : ℕ → List ChannelAct → ℕ
bytes_taken c [] = 0
bytes_taken c (ChannelOpened conn what ∷ acts) = if conn == c then 0 else bytes_taken c acts
bytes_taken c (ChannelClosed conn ∷ acts) = if conn == c then 0 else bytes_taken c acts
bytes_taken c (ChannelTaken conn count ∷ acts) = if conn == c then bytes_taken c acts + count else bytes_taken c acts
bytes_taken c (_ ∷ acts) = bytes_taken c acts

-- what remains of these calls after the peer took `count` bytes of them: the calls that the peer
-- didn't take completely. From the first remaining call, the bytes that the peer took are removed.
abbrev pub calls_left : ℕ → List (List ℕ) → List (List ℕ)
calls_left count [] = []
calls_left count (call ∷ calls) = if nat_lt count (length call) then drop count call ∷ calls else calls_left (count - length call) calls

-- whether one more call may be appended to `calls`, of which the peer took `count` bytes: fewer
-- than 32 calls have bytes that the peer didn't take, and a number remains for the new call
abbrev pub may_call : ℕ → List (List ℕ) → Bool
may_call count calls = nat_lt (length (calls_left count calls)) max_calls && nat_lt (length calls) 4294967295

-- `calls` with one more call, which has this handle and comes last; just `calls` if the channel
-- isn't open, or if `may_call` is false. The calls of a channel are numbered from 1.
abbrev pub add_call : Option Peer → ℕ → List (List ℕ) → List ℕ → List (List ℕ)
add_call (Some what) count calls handle = if may_call count calls then calls ++ request (length calls + 1) what handle ∷ [] else calls
add_call None count calls handle = calls

-- the calls that were appended on the channel of a connection since the channel was opened: each
-- service request appends one call for each link of the connection that has service requests
-- enabled, unless `may_call` is false
abbrev pub calls : ℕ → List ChannelAct → List (List ℕ)
calls c [] = []
calls c (ChannelOpened conn what ∷ acts) = if conn == c then [] else calls c acts
calls c (ChannelClosed conn ∷ acts) = if conn == c then [] else calls c acts
calls c (Requested ∷ acts) = fold (add_call (peer c acts) (bytes_taken c acts)) (calls c acts) (handles_of c (enabled_links acts))
calls c (_ ∷ acts) = calls c acts

-- all calls that were ever appended on the channel of a connection, even before the channel was
-- last opened
abbrev pub all_calls : ℕ → List ChannelAct → List (List ℕ)
all_calls c [] = []
all_calls c (Requested ∷ acts) = all_calls c acts ++ drop (length (calls c acts)) (calls c (Requested ∷ acts))
all_calls c (_ ∷ acts) = all_calls c acts

-- the bytes that wait to be sent on the channel of a connection; none if the channel isn't open
abbrev pub waiting : ℕ → List ChannelAct → List ℕ
waiting c acts = if is_channel_open c acts then concat (calls_left (bytes_taken c acts) (calls c acts)) else []
