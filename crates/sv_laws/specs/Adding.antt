-- All bytes that a history sends on a port, and the bytes that further events add to them. On a
-- connection these are the bytes of all replies; on an interrupt channel they are the bytes of all
-- device_intr_srq calls. Bytes that were sent before the port was last closed are included.
use Rattle.std.specs.Prelude.{◌≡◌, ℕ, List, [], ◌∷◌, ◌++◌}
use Rattle.std.specs.List.{concat}
use Rattle.sv_links.specs.Channels.{ChannelAct, all_calls}
use Rattle.sv_history.specs.declared.event.Config.{Config}
use Rattle.sv_history.specs.declared.event.Port.{Port}
use Rattle.sv_history.specs.declared.event.Port.TheVariants.{Conn, Intr}
use Rattle.sv_history.specs.Event.{PlainEvent}
use Rattle.sv_history.specs.Act.{Act, ConnAct, Replied, of, device_acts}
use Rattle.sv_history.specs.Requests.{HearsOf}
use Rattle.sv_history.specs.History.{IsLogOf}

-- all bytes of the replies on a connection, including the replies before the connection was last
-- opened
abbrev pub all_replies : List ConnAct → List ℕ
all_replies [] = []
all_replies (Replied bytes ∷ acts) = all_replies acts ++ bytes
all_replies (_ ∷ acts) = all_replies acts

-- all bytes that were sent on a port, given the log and the log of the interrupt channels
abbrev pub all_sent : Port → List ChannelAct → List Act → List ℕ
all_sent (Conn c) channel_log log = all_replies (of c log)
all_sent (Intr c) channel_log log = concat (all_calls c channel_log)

-- These are all bytes that a history sends on a port.
abbrev pub Sends : Port → Config → List PlainEvent → List ℕ → Type 0
Sends port config history bytes = (log : List Act) × (channel_log : List ChannelAct) × IsLogOf config history log
    × HearsOf (device_acts log) channel_log × (bytes ≡ all_sent port channel_log log)

-- The events `events`, which follow the history `past`, add the bytes `bytes` to all bytes that the
-- history sends on a port.
abbrev pub Adds : Port → Config → List PlainEvent → List PlainEvent → List ℕ → Type 0
Adds port config past events bytes =
    (before : List ℕ) × Sends port config past before × Sends port config (events ++ past) (before ++ bytes)
