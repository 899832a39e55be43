-- How a replay writes a line for each port (a connection or an interrupt channel) on which bytes
-- wait to be sent. The line shows these bytes.
use Rattle.std.specs.Prelude.{◌≡◌, ℕ, List, [], ◌∷◌, ◌++◌, length, Option, Result, Ok, Err, ⊤}
use Rattle.std.specs.Io.KnownBytes.{Appends}
use Rattle.sv_history.specs.declared.event.Config.{Config}
use Rattle.sv_history.specs.declared.event.Did.{Did}
use Rattle.sv_history.specs.declared.event.Refused.{Refused}
use Rattle.sv_history.specs.declared.event.Port.{Port}
use Rattle.sv_print.specs.declared.writing.WriteFault.{WriteFault}
use Rattle.sv_history.specs.Event.{PlainEvent}
use Rattle.sv_history.specs.declared.event.Port.TheVariants.{Conn, Intr}
use Rattle.sv_links.specs.Channels.{ChannelAct, ChannelTaken}
use Rattle.sv_history.specs.Act.{Act, On, BytesTaken, OnDevice, Channel, device_acts}
use Rattle.sv_history.specs.Requests.{HearsOf}
use Rattle.sv_history.specs.Connection.{waiting_on}
use Rattle.sv_history.specs.Settling.{IsSettled}
use Rattle.sv_history.specs.History.{IsLogOf}
use Rattle.sv_server.specs.declared.replay.ReplayFault.{ReplayFault}
use Rattle.sv_server.specs.Server.State.{State, Represents, StandsFor}
use Rattle.sv_server.specs.Replay.Replays.{Replays}
use Rattle.sv_history.specs.Print.{ports, port_line, lines_of, with_took, with_tooks}
use Rattle.sv_print.specs.TakenByWriter.{IsFront}

-- The server stands for this history. `log` is the history's log, and `channel_log` is the log of
-- the interrupt channels.
abbrev pub StandsBy : State → Config → List PlainEvent → List ChannelAct → List Act → Type 0
StandsBy state config history channel_log log =
    IsLogOf config history log × Represents state config log × IsSettled config log × HearsOf (device_acts log) channel_log

-- the server's log after the peer took these bytes from a port
abbrev pub log_with_took : Port → List ℕ → List Act → List Act
log_with_took port [] log = log
log_with_took (Conn c) (byte ∷ bytes) log = On c (BytesTaken (length (byte ∷ bytes))) ∷ log
log_with_took (Intr c) (byte ∷ bytes) log = OnDevice (Channel (ChannelTaken c (length (byte ∷ bytes)))) ∷ log

-- the log of the interrupt channels after the peer took these bytes from a port
abbrev pub told_with_took : Port → List ℕ → List ChannelAct → List ChannelAct
told_with_took port [] channel_log = channel_log
told_with_took (Conn c) (byte ∷ bytes) channel_log = channel_log
told_with_took (Intr c) (byte ∷ bytes) channel_log = ChannelTaken c (length (byte ∷ bytes)) ∷ channel_log

-- The line of a port was written, and then the peer took the bytes that the line shows. Or the
-- writer failed: a prefix of the line was written, and the peer took nothing.
abbrev pub ShowsPort : Port → Config → List PlainEvent → List ChannelAct → List Act → Result ⊤ WriteFault → State → List ℕ → Type 0
ShowsPort port config history channel_log log (Ok all) new text = let bytes = waiting_on channel_log port log in
    (text ≡ port_line port bytes)
    × StandsBy new config (with_took port bytes history) (told_with_took port bytes channel_log) (log_with_took port bytes log)
ShowsPort port config history channel_log log (Err fault) new text =
    IsFront text (port_line port (waiting_on channel_log port log)) × StandsBy new config history channel_log log

-- On success, the lines of all ports were written, and the peers took the bytes that the lines
-- show. If the writer failed: the lines of the ports `shown` (perhaps none) were written, and the
-- peers of these ports took the bytes that the lines show; then a prefix of the lines of the ports
-- `others` was written, and the peers of the ports `others` took nothing.
abbrev pub ShowsAll : Config → List PlainEvent → List ChannelAct → List Act → Result ⊤ WriteFault → State → List ℕ → Type 0
ShowsAll config history channel_log log (Ok all) new text = (text ≡ lines_of channel_log ports log) × (after : List ChannelAct)
    × (now : List Act)
    × StandsBy new config (with_tooks channel_log ports log history) after now
ShowsAll config history channel_log log (Err fault) new text =
    (shown others : List Port) × (part : List ℕ) × (ports ≡ shown ++ others) × IsFront part (lines_of channel_log others log)
    × (text ≡ lines_of channel_log shown log ++ part) × (after : List ChannelAct) × (now : List Act)
    × StandsBy new config (with_tooks channel_log shown log history) after now

-- What a replay of an event leaves, whose log before was `before`, and which was done or refused as
-- `did` says.
abbrev pub Left : Config → List PlainEvent → PlainEvent → List Act → Result Did Refused → Result ⊤ ReplayFault → State → Option (List ℕ)
    → Option (List ℕ)
    → Type 0
Left config history event before did fault new first last = (text : List ℕ) × (after : List PlainEvent)
    × (replays : Replays config history event fault text after) × (replays.before ≡ before) × (replays.did ≡ did)
    × StandsFor new config after × Appends first last text
