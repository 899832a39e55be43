-- What the replay of an event writes, and for which history the server stands afterwards.
use Rattle.std.specs.Prelude.{◌≡◌, ◌≢◌, ◌⊎◌, ℕ, List, ◌++◌, Result, Ok, Err, ⊤}
use Rattle.sv_history.specs.declared.event.Config.{Config}
use Rattle.sv_history.specs.declared.event.Port.{Port}
use Rattle.sv_history.specs.declared.event.Did.{Did}
use Rattle.sv_history.specs.declared.event.Refused.{Refused}
use Rattle.sv_history.specs.declared.event.Refused.TheVariants as refused
use Rattle.sv_server.specs.declared.replay.ReplayFault.{ReplayFault}
use Rattle.sv_server.specs.declared.replay.ReplayFault.TheVariants.{NoMemory, Write}
use Rattle.sv_history.specs.Event.{PlainEvent}
use Rattle.sv_links.specs.Channels.{ChannelAct}
use Rattle.sv_history.specs.Act.{Act, device_acts}
use Rattle.sv_history.specs.Requests.{HearsOf}
use Rattle.sv_history.specs.History.{IsLogOf, Answers, history_after}
use Rattle.sv_history.specs.Print.{head_of, ports_after, lines_of, with_tooks, print_of}
use Rattle.sv_print.specs.TakenByWriter.{IsFront}

-- On success, all lines for the event were written, and the peers took all bytes that these lines
-- show. If memory was refused, the line of the refusal was written, and the peers took nothing. If
-- the writer failed in the line of the refusal, the peers took nothing. If the writer failed later:
-- the lines of the ports `shown` (perhaps none) were written, and the peers of these ports took the
-- bytes that the lines show; then a prefix of the lines of the ports `others` was written, and the
-- peers of the ports `others` took nothing.
abbrev pub IsReplayWritten : Result Did Refused → List ChannelAct → List Act → List PlainEvent → Result ⊤ ReplayFault → List ℕ
    → List PlainEvent
    → Type 0
IsReplayWritten did channel_log log history (Ok all) text after = (did ≢ Err refused.NoMemory) × (text ≡ print_of did channel_log log)
    × (after ≡ with_tooks channel_log (ports_after did) log history)
IsReplayWritten did channel_log log history (Err NoMemory) text after =
    (did ≡ Err refused.NoMemory) × (text ≡ print_of did channel_log log) × (after ≡ history)
IsReplayWritten did channel_log log history (Err Write) text after = (IsFront text (head_of did) × (after ≡ history))
    ⊎ ((shown others : List Port) × (part : List ℕ) × (ports_after did ≡ shown ++ others) × IsFront part (lines_of channel_log others log)
    × (text ≡ head_of did ++ (lines_of channel_log shown log ++ part)) × (after ≡ with_tooks channel_log shown log history))

-- What a replay does with an event. The event is applied or refused, as the history determines.
-- Then the lines for the event are written. The log after the event determines these lines.
pub record Replays (config : Config) (history : List PlainEvent) (event : PlainEvent) (result : Result ⊤ ReplayFault) (text : List ℕ)
    (after : List PlainEvent) : Type 0 where
  pub before : List Act
  pub is_before : IsLogOf config history before
  pub did : Result Did Refused
  pub answers : Answers config event before did
  pub log : List Act
  pub is_log : IsLogOf config (history_after event did history) log
  pub channel_log : List ChannelAct
  pub tells : HearsOf (device_acts log) channel_log
  pub writes : IsReplayWritten did channel_log log (history_after event did history) result text after
