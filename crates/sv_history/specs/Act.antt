-- The acts of a log: what events did. A log is a list of acts, the newest first. Each act is of one
-- connection or of the device. The device is all that connections share: links, suspended calls,
-- interrupt channels, the instrument and the clock.
use Rattle.std.specs.Prelude.{ℕ, ◌+◌, ◌==◌, List, [], ◌∷◌, if◌then◌else◌}
use Rattle.sv_links.specs.Links.{LinkAct}
use Rattle.sv_links.specs.Waiting.{WaitAct}
use Rattle.sv_links.specs.Channels.{ChannelAct}
use Rattle.sv_exchange.specs.Exchange.{ExchangeAct}
use Rattle.sv_layers.specs.Act.{Act as InstrumentAct, exchange_acts as exchanged}
use Rattle.sv_history.specs.declared.event.Role.{Role}

-- an act of one connection: the connection opened; a piece of bytes came; a call was taken; the
-- record that was taken isn't a call; a reply was sent; the peer took bytes of replies; the
-- connection closed
pub data ConnAct : Type 0 where
  Opened : (role : Role) → ConnAct
  Piece : (bytes : List ℕ) → ConnAct
  CallTaken : (call : List ℕ) → ConnAct
  Faulted : ConnAct
  Replied : (bytes : List ℕ) → ConnAct
  BytesTaken : (count : ℕ) → ConnAct
  PortClosed : ConnAct

-- an act of the device: an act of a link, of a suspended call, of an interrupt channel, or of the
-- instrument; or a millisecond passed
pub data DeviceAct : Type 0 where
  Linked : (act : LinkAct) → DeviceAct
  Waited : (act : WaitAct) → DeviceAct
  Channel : (act : ChannelAct) → DeviceAct
  Applied : (act : InstrumentAct) → DeviceAct
  Ticked : DeviceAct

-- an act of a log
pub data Act : Type 0 where
  On : (conn : ℕ) (act : ConnAct) → Act
  OnDevice : (act : DeviceAct) → Act

-- the acts of one connection
abbrev pub of : ℕ → List Act → List ConnAct
of c [] = []
of c (On d act ∷ log) = if d == c then act ∷ of c log else of c log
of c (OnDevice act ∷ log) = of c log

-- the acts of the device
abbrev pub device_acts : List Act → List DeviceAct
device_acts [] = []
device_acts (On c act ∷ log) = device_acts log
device_acts (OnDevice act ∷ log) = act ∷ device_acts log

-- among the device's acts, the acts of links
abbrev pub link_acts : List DeviceAct → List LinkAct
link_acts [] = []
link_acts (Linked act ∷ acts) = act ∷ link_acts acts
link_acts (_ ∷ acts) = link_acts acts

-- among the device's acts, the acts of suspended calls
abbrev pub wait_acts : List DeviceAct → List WaitAct
wait_acts [] = []
wait_acts (Waited act ∷ acts) = act ∷ wait_acts acts
wait_acts (_ ∷ acts) = wait_acts acts

-- among the device's acts, the acts of interrupt channels
abbrev pub channel_acts : List DeviceAct → List ChannelAct
channel_acts [] = []
channel_acts (Channel act ∷ acts) = act ∷ channel_acts acts
channel_acts (_ ∷ acts) = channel_acts acts

-- among the device's acts, the acts of the instrument
abbrev pub instrument_acts : List DeviceAct → List InstrumentAct
instrument_acts [] = []
instrument_acts (Applied act ∷ acts) = act ∷ instrument_acts acts
instrument_acts (_ ∷ acts) = instrument_acts acts

-- among the instrument's acts, the acts of message exchange
abbrev pub exchange_acts : List DeviceAct → List ExchangeAct
exchange_acts acts = exchanged (instrument_acts acts)

-- how many milliseconds passed
abbrev pub ticks : List DeviceAct → ℕ
ticks [] = 0
ticks (Ticked ∷ acts) = ticks acts + 1
ticks (_ ∷ acts) = ticks acts
