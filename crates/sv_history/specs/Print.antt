-- What a replay prints for an event: the refusal, if the event was refused, and a line for each
-- connection and each interrupt channel on which bytes wait to be sent.
use Rattle.std.specs.Prelude.{ℕ, zero, suc, ◌-◌, Bool, true, false, List, [], ◌∷◌, ◌++◌, map, length, codes, decimal, nat_lt, Result, Ok, Err, if◌then◌else◌}
use Rattle.hex.specs.Hex.{encode_lower}
use Rattle.sv_links.specs.Channels.{ChannelAct}
use Rattle.sv_history.specs.declared.event.Port.{Port}
use Rattle.sv_history.specs.declared.event.Port.TheVariants.{Conn, Intr}
use Rattle.sv_history.specs.declared.event.Did.{Did}
use Rattle.sv_history.specs.declared.event.Refused.{Refused}
use Rattle.sv_history.specs.declared.event.Refused.TheVariants.{NoMemory, ConnInUse, NoConn, NoRoom, NotSent, NoDial, NotRefusable, BadChannel, BadInput, TimeOver}
use Rattle.sv_history.specs.Event.{PlainEvent, Took}
use Rattle.sv_history.specs.Act.{Act}
use Rattle.sv_history.specs.Connection.{waiting_on}

-- the number that a replay prints for a refusal
abbrev pub refusal_number : Refused → ℕ
refusal_number NoMemory = 1
refusal_number ConnInUse = 2
refusal_number NoConn = 3
refusal_number NoRoom = 4
refusal_number NotSent = 5
refusal_number NoDial = 6
refusal_number NotRefusable = 7
refusal_number BadChannel = 8
refusal_number BadInput = 9
refusal_number TimeOver = 10

-- the line of a refusal: `refused` and its number
abbrev pub refusal_line : Refused → List ℕ
refusal_line refusal = codes "refused " ++ (decimal (refusal_number refusal) ++ 10 ∷ [])

-- the name of a port: `c` for a connection or `i` for an interrupt channel, and its number
abbrev pub port_name : Port → List ℕ
port_name (Conn c) = 99 ∷ decimal c
port_name (Intr c) = 105 ∷ decimal c

-- the line of a port: all bytes that wait to be sent on the port, as lower-case hex digits; no line
-- if no bytes wait
abbrev pub port_line : Port → List ℕ → List ℕ
port_line port [] = []
port_line port (byte ∷ bytes) = port_name port ++ 32 ∷ (encode_lower (byte ∷ bytes) ++ 10 ∷ [])

-- the numbers below this one, in rising order from 0
abbrev pub below : ℕ → List ℕ
below zero = []
below (suc n) = below n ++ n ∷ []

-- the port at index n in the order of the lines: connections 0 to 15 come first, then the interrupt
-- channels of connections 0 to 15
abbrev pub port_of : ℕ → Port
port_of n = if nat_lt n 16 then Conn n else Intr (n - 16)

-- all ports, in the order of the lines
abbrev pub ports : List Port
ports = map port_of (below 32)

-- the lines that a replay prints for these ports, given the log and the log of the interrupt
-- channels
abbrev pub lines_of : List ChannelAct → List Port → List Act → List ℕ
lines_of channel_log [] log = []
lines_of channel_log (port ∷ others) log = port_line port (waiting_on channel_log port log) ++ lines_of channel_log others log

-- the history after the peer took these bytes from a port; it is unchanged if there are no bytes
abbrev pub with_took : Port → List ℕ → List PlainEvent → List PlainEvent
with_took port [] history = history
with_took port (byte ∷ bytes) history = Took port (length (byte ∷ bytes)) ∷ history

-- the history after the peers took all bytes that wait on these ports, one port after the next
abbrev pub with_tooks : List ChannelAct → List Port → List Act → List PlainEvent → List PlainEvent
with_tooks channel_log [] log history = history
with_tooks channel_log (port ∷ others) log history = with_tooks channel_log others log
    (with_took port (waiting_on channel_log port log) history)

-- what is printed first for an event: the line of its refusal; nothing if the event isn't refused
abbrev pub head_of : Result Did Refused → List ℕ
head_of (Ok did) = []
head_of (Err refusal) = refusal_line refusal

-- whether an event was refused for lack of memory
abbrev pub is_no_memory : Refused → Bool
is_no_memory NoMemory = true
is_no_memory _ = false

-- the ports whose lines are printed: none if the event was refused for lack of memory
abbrev pub ports_after : Result Did Refused → List Port
ports_after (Ok did) = ports
ports_after (Err refusal) = if is_no_memory refusal then [] else ports

-- what is printed for an event, given its result and the log after it
abbrev pub print_of : Result Did Refused → List ChannelAct → List Act → List ℕ
print_of did channel_log log = head_of did ++ lines_of channel_log (ports_after did) log
