-- What is told of a server: each value is what a search of the log gives.
use Rattle.std.specs.Prelude.{◌≡◌, ◌↔◌, ◌||◌, ◌<◌, ℕ, pos, min, true, false, List, length, map, Option, Some, None, slice_index_or, if◌then◌else◌}
use Rattle.std.specs.Int.{bit_at}
use Rattle.sv_errors.specs.declared.source.Source.{Source}
use Rattle.sv_errors.specs.declared.source.Source.TheVariants as source
use Rattle.sv_errors.specs.Code.{number_of}
use Rattle.sv_errors.specs.ErrorQueue.{queue_codes, lost}
use Rattle.sv_status.specs.declared.register_name.RegisterName.{RegisterName}
use Rattle.sv_status.specs.declared.register_name.RegisterName.TheVariants.{Operation, Questionable, Limit}
use Rattle.sv_links.specs.declared.waiting.Wait.{Wait}
use Rattle.sv_links.specs.declared.waiting.Wait.TheVariants as wait
use Rattle.sv_links.specs.Links.{live, holder}
use Rattle.sv_links.specs.Waiting.{waits, link, deadline}
use Rattle.sv_links.specs.Channels.{ChannelAct, enabled_links, waiting as channel_waiting}
use Rattle.sv_scan.specs.declared.setting.State.{State}
use Rattle.sv_scan.specs.declared.setting.State.TheVariants as state
use Rattle.sv_scan.specs.declared.setting.Reading.{Reading}
use Rattle.sv_scan.specs.declared.setting.Reading.TheVariants as reading
use Rattle.sv_scan.specs.declared.progress.Taken.{Taken}
use Rattle.sv_scan.specs.declared.acts.ScanAct.{ScanAct}
use Rattle.sv_scan.specs.Setting.{scan_list, monitor, range, upper, lower, limits, source as source_of, count}
use Rattle.sv_scan.specs.Scan.{state as state_of, readings}
use Rattle.sv_scan.specs.Progress.{progress, newest_reading}
use Rattle.sv_exchange.specs.Exchange.{ExchangeAct, has_ended, is_long, message, answers, joined_answers, response}
use Rattle.sv_layers.specs.declared.change.Awaited.{Awaited}
use Rattle.sv_layers.specs.declared.change.Awaited.TheVariants as awaited
use Rattle.sv_layers.specs.Act.{Act as InstrumentAct, exchange_acts, queue_acts}
use Rattle.sv_layers.specs.Condition.{condition, effective_acts}
use Rattle.sv_layers.specs.Filter.{enable, rise, fall}
use Rattle.sv_layers.specs.Event.{EventStands}
use Rattle.sv_layers.specs.Standard.{Stands, Waits, enable as standard_enable}
use Rattle.sv_layers.specs.StatusByte.{MasterBit, Request, service}
use Rattle.sv_instrument.specs.HeldUnit.{held_unit}
use Rattle.sv_history.specs.declared.event.Role.{Role}
use Rattle.sv_history.specs.declared.event.Role.TheVariants as role
use Rattle.sv_history.specs.Act.{Act, DeviceAct, of, device_acts, link_acts, wait_acts, instrument_acts}
use Rattle.sv_history.specs.Connection.{open_role, is_faulted, waiting}
use Rattle.sv_history.specs.Interrupts.{has_channel}
use Rattle.sv_history.specs.Requests.{HearsOf}
use Rattle.sv_explain.specs.declared.value.Word.{Word}
use Rattle.sv_explain.specs.declared.value.Word.TheVariants as word
use Rattle.sv_explain.specs.declared.value.Value.{Value}
use Rattle.sv_explain.specs.declared.value.Value.TheVariants.{Word as Said, Reading as Read, Overload}
use Rattle.sv_explain.specs.declared.shown.StatusShown.{StatusShown}
use Rattle.sv_explain.specs.declared.shown.RegisterShown.{RegisterShown}
use Rattle.sv_explain.specs.declared.shown.SettingsShown.{SettingsShown}
use Rattle.sv_explain.specs.declared.shown.MeasurementShown.{MeasurementShown}
use Rattle.sv_explain.specs.declared.shown.MessageShown.{MessageShown}
use Rattle.sv_explain.specs.declared.shown.CallShown.{CallShown}
use Rattle.sv_explain.specs.declared.shown.ConnShown.{ConnShown}
use Rattle.sv_explain.specs.declared.shown.LinksShown.{LinksShown}
use Rattle.sv_explain.specs.declared.shown.ScannerShown.{ScannerShown}
use Rattle.sv_explain.specs.declared.shown.ExchangeShown.{ExchangeShown}
use Rattle.sv_explain.specs.declared.shown.StatusesShown.{StatusesShown}
use Rattle.sv_explain.specs.declared.shown.Shown.{Shown}

-- ---- the status

-- The standard events, the status byte, and what belongs to them: whether an `*OPC` is pending, the
-- enable and the events, the enable of service requests, the status byte with MSS in bit 6, and
-- whether service is requested.
pub record IsStatus (shown : StatusShown) (log : List InstrumentAct) : Type 0 where
  pub opc_is : (shown.opc ≡ true) ↔ Waits log
  pub enable_is : shown.enable ≡ standard_enable log
  pub events_are : (k : ℕ) → (bit_at shown.events k ≡ 1) ↔ Stands k log
  pub service_is : shown.service ≡ service log
  pub byte_is : (k : ℕ) → (bit_at shown.byte k ≡ 1) ↔ MasterBit k log
  pub request_is : (shown.request ≡ true) ↔ Request log

-- A status register: its enable, its filters for rising and falling bits, its condition and its
-- events.
pub record IsRegister (name : RegisterName) (shown : RegisterShown) (log : List InstrumentAct) : Type 0 where
  pub enable_is : shown.enable ≡ enable name log
  pub rise_is : shown.rise ≡ rise name log
  pub fall_is : shown.fall ≡ fall name log
  pub condition_is : shown.condition ≡ condition name log
  pub events_are : (k : ℕ) → (bit_at shown.events k ≡ 1) ↔ EventStands name k log

-- ---- the scanner

-- the word of a source of triggers
abbrev pub source_word : Source → Word
source_word source.Immediate = word.Immediate
source_word source.Bus = word.Bus
source_word source.External = word.External

-- the settings
abbrev pub settings_of : List ScanAct → SettingsShown
settings_of log = record {
  source = source_word (source_of log);
  count = count log;
  range = range log;
  monitor = monitor log;
  upper = upper log;
  lower = lower log;
  limits = limits log;
}

-- the word of a state of the trigger system
abbrev pub state_word : State → Word
state_word state.Idle = word.Idle
state_word state.Waiting = word.Waiting
state_word state.Scanning = word.Scanning

-- a reading with its number and its channel
abbrev pub reading_value : ℕ → ℕ → Reading → Value
reading_value number channel (reading.Value microvolts) = Read number channel microvolts
reading_value number channel reading.Over = Overload number channel word.Over
reading_value number channel reading.Under = Overload number channel word.Under

-- the newest reading; its number is how many readings there are
abbrev pub newest_value : ℕ → Option Taken → Value
newest_value number (Some taken) = reading_value number taken.channel taken.reading
newest_value number None = Said word.None

-- the measurement: its state, how far it is, how many readings there are, and the newest reading
abbrev pub measurement_of : List ScanAct → MeasurementShown
measurement_of log = record {
  state = state_word (state_of log);
  progress = progress log;
  readings = length (readings log);
  newest = newest_value (length (readings log)) (newest_reading log);
}

-- ---- message exchange

-- how many bytes came of the current message, which hasn't ended; `None` if it has ended, or is too
-- long
abbrev pub unended : List ExchangeAct → Option ℕ
unended acts = if has_ended acts || is_long acts then None else Some (length (message acts))

-- the word of what a held unit will answer
abbrev pub held_word : Option Awaited → Word
held_word None = word.None
held_word (Some awaited.Nothing) = word.Nothing
held_word (Some awaited.One) = word.One
held_word (Some awaited.Readings) = word.Readings

-- message exchange, and how many errors were lost because the queue was full (4,294,967,295 also
-- stands for more)
abbrev pub message_of : List InstrumentAct → MessageShown
message_of log = record {
  text = unended (exchange_acts log);
  held = held_word (held_unit log);
  answers = length (joined_answers (answers (exchange_acts log)));
  response = length (response (exchange_acts log));
  lost = min (lost (queue_acts log)) 4294967295;
}

-- ---- links, calls and connections

-- the word of what a suspended call waits for
abbrev pub wait_word : Wait → Word
wait_word wait.Lock = word.Lock
wait_word wait.Input = word.Input
wait_word wait.Response = word.Response
wait_word wait.Dial = word.Dial

-- a suspended call: what it waits for, the link that it names, and its deadline
abbrev pub call_of : Option Wait → Option ℕ → Option ℕ → Option CallShown
call_of (Some waits) lid deadline = Some (record { wait = wait_word waits; lid = lid; deadline = deadline })
call_of None lid deadline = None

-- the word of a connection's role
abbrev pub role_word : Option Role → Word
role_word None = word.Closed
role_word (Some role.Core) = word.Core
role_word (Some role.Abort) = word.Abort
role_word (Some role.Portmap) = word.Portmap

-- a connection: its role, whether it is at fault, its suspended call, and how many bytes wait to be
-- sent; and of its interrupt channel, whether it is open, and how many bytes wait to be sent
pub record IsConn (c : ℕ) (shown : ConnShown) (log : List Act) : Type 0 where
  pub role_is : shown.role ≡ role_word (open_role (of c log))
  pub faulted_is : shown.faulted ≡ is_faulted (of c log)
  pub call_is : shown.call ≡ call_of (waits c (wait_acts (device_acts log))) (link c (wait_acts (device_acts log)))
      (deadline c (wait_acts (device_acts log)))
  pub output_is : shown.output ≡ length (waiting (of c log))
  pub channel_is : shown.has_channel ≡ has_channel c (device_acts log)
  pub requests_are : (channel_log : List ChannelAct) → HearsOf (device_acts log) channel_log
      → shown.requests ≡ length (channel_waiting c channel_log)

-- a connection that was never opened
abbrev pub never_opened : ConnShown
never_opened = record { role = word.Closed; faulted = false; call = None; output = 0; has_channel = false; requests = 0 }

-- all connections; those that a list leaves out were never opened
abbrev pub AreConns : List ConnShown → List Act → Type 0
AreConns conns log = (c : ℕ) → c < 16 → IsConn c (slice_index_or conns c never_opened) log

-- ---- all together

-- the links by rising number, the lock, and the links that have service requests enabled
pub record AreLinks (shown : LinksShown) (acts : List DeviceAct) : Type 0 where
  pub links : shown.links.items ≡ map (λ link. record { lid = link.lid; conn = link.conn }) (live (link_acts acts))
  pub lock : shown.lock ≡ holder (link_acts acts)
  pub asking : (channel_log : List ChannelAct) → HearsOf acts channel_log
      → shown.asking.items ≡ map (λ link. record { lid = link.lid; conn = link.conn }) (enabled_links channel_log)

-- the scanner: its settings, its scan list, and its measurement
pub record IsScanner (shown : ScannerShown) (log : List InstrumentAct) : Type 0 where
  pub settings : shown.settings ≡ settings_of (effective_acts log)
  pub list : shown.list.items ≡ map pos (scan_list (effective_acts log))
  pub measurement : shown.measurement ≡ measurement_of (effective_acts log)

-- message exchange, and the errors in the queue
pub record IsExchange (shown : ExchangeShown) (log : List InstrumentAct) : Type 0 where
  pub message : shown.message ≡ message_of log
  pub errors : shown.errors.items ≡ map number_of (queue_codes (queue_acts log))

-- the status registers, and the standard events with the status byte
pub record AreStatuses (shown : StatusesShown) (log : List InstrumentAct) : Type 0 where
  pub limit : IsRegister Limit shown.limit log
  pub questionable : IsRegister Questionable shown.questionable log
  pub operation : IsRegister Operation shown.operation log
  pub standard : IsStatus shown.standard log

-- Everything that is told of a server is what the log gives.
pub record IsShown (shown : Shown) (log : List Act) : Type 0 where
  pub conns : AreConns shown.conns.items log
  pub links : AreLinks shown.links (device_acts log)
  pub scanner : IsScanner shown.scanner (instrument_acts (device_acts log))
  pub exchange : IsExchange shown.exchange (instrument_acts (device_acts log))
  pub statuses : AreStatuses shown.statuses (instrument_acts (device_acts log))
