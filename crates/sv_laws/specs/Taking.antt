-- A law about what peers took: which bytes a server sends doesn't depend on when its peers take
-- them, as long as there is room.
use Rattle.std.specs.Prelude.{◌≡◌, ◌↔◌, ℕ, ◌+◌, ◌≤◌, not, Bool, true, false, ⊤, List, [], ◌∷◌, length, filter, None, if◌then◌else◌}
use Rattle.sv_links.specs.Channels.{ChannelAct, Requested, calls, is_channel_open, enabled_links, handles_of}
use Rattle.sv_history.specs.declared.event.Config.{Config}
use Rattle.sv_history.specs.declared.event.Port.{Port}
use Rattle.sv_history.specs.declared.event.Port.TheVariants.{Conn, Intr}
use Rattle.sv_history.specs.Event.{PlainEvent, Took}
use Rattle.sv_history.specs.Act.{Act, of, device_acts}
use Rattle.sv_history.specs.Connection.{waiting}
use Rattle.sv_history.specs.Requests.{HearsOf}
use Rattle.sv_history.specs.History.{refusal, IsLogOf}
use Rattle.sv_laws.specs.Adding.{Sends}

-- whether an event is a Took
abbrev pub is_took : PlainEvent → Bool
is_took = elim [ Took port count ↦ true | _ ↦ false ]

-- a history without its Took events
abbrev pub without_took : List PlainEvent → List PlainEvent
without_took = filter (λ event. not (is_took event))

-- how many links of a connection have service requests enabled while its interrupt channel is open;
-- 0 while the channel isn't open
abbrev pub requesting : ℕ → List ChannelAct → ℕ
requesting c acts = if is_channel_open c acts then length (handles_of c (enabled_links acts)) else 0

-- Each service request appends one call on the channel of the connection for each link that asks
-- for it: no call is left out because the channel is full.
abbrev pub NoneLeftOut : ℕ → List ChannelAct → Type 0
NoneLeftOut c [] = ⊤
NoneLeftOut c (Requested ∷ acts) = (length (calls c (Requested ∷ acts)) ≡ length (calls c acts) + requesting c acts) × NoneLeftOut c acts
NoneLeftOut c (_ ∷ acts) = NoneLeftOut c acts

-- If the port is an interrupt channel, the history leaves out no call on it (`NoneLeftOut`).
abbrev pub HasSpare : Port → Config → List PlainEvent → Type 0
HasSpare (Conn c) config history = ⊤
HasSpare (Intr c) config history = (log : List Act) (channel_log : List ChannelAct) → IsLogOf config history log
    → HearsOf (device_acts log) channel_log → NoneLeftOut c channel_log

-- Two histories differ only in their Took events: in which bytes peers took, and when. No event of
-- either history is refused. Then both send the same bytes on each connection; and also on each
-- interrupt channel on which neither leaves out a call.
abbrev pub Taking : Type 0
Taking = (config : Config) (history other : List PlainEvent) (log also : List Act) → without_took history ≡ without_took other
    → IsLogOf config history log → IsLogOf config other also → (port : Port) (bytes : List ℕ) → HasSpare port config history
    → HasSpare port config other → Sends port config history bytes ↔ Sends port config other bytes

-- Two histories differ only in their Took events, and no event of either is refused. In the second
-- one no more bytes wait on any connection than in the first. Then an event that isn't a Took, and
-- isn't refused after the first history, isn't refused after the second one.
abbrev pub NoneRefused : Type 0
NoneRefused = (config : Config) (history other : List PlainEvent) (log also : List Act) (channel_log later : List ChannelAct)
    (event : PlainEvent) → without_took history ≡ without_took other → IsLogOf config history log → IsLogOf config other also
    → ((c : ℕ) → length (waiting (of c also)) ≤ length (waiting (of c log))) → is_took event ≡ false
    → refusal config channel_log event log ≡ None → refusal config later event also ≡ None
