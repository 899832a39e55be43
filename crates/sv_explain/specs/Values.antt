-- The values of each part of what is told, in the order in which they are printed.
use Rattle.std.specs.Prelude.{ℕ, Bool, true, false, List, [], ◌∷◌, Option, Some, None}
use Rattle.std.specs.Option.{option_map}
use Rattle.sv_explain.specs.declared.value.Word.{Word}
use Rattle.sv_explain.specs.declared.value.Word.TheVariants as word
use Rattle.sv_explain.specs.declared.value.Value.{Value}
use Rattle.sv_explain.specs.declared.value.Value.TheVariants.{Number, Voltage, Word as Said, Share, Call}
use Rattle.sv_explain.specs.declared.shown.StatusShown.{StatusShown}
use Rattle.sv_explain.specs.declared.shown.RegisterShown.{RegisterShown}
use Rattle.sv_explain.specs.declared.shown.SettingsShown.{SettingsShown}
use Rattle.sv_explain.specs.declared.shown.MeasurementShown.{MeasurementShown}
use Rattle.sv_explain.specs.declared.shown.MessageShown.{MessageShown}
use Rattle.sv_explain.specs.declared.shown.CallShown.{CallShown}
use Rattle.sv_explain.specs.declared.shown.ConnShown.{ConnShown}

-- 1 for true, 0 for false
abbrev pub flag : Bool → Value
flag true = Number 1
flag false = Number 0

-- a number; or this word
abbrev pub number_or_word : Word → Option ℕ → Value
number_or_word word (Some number) = Number number
number_or_word word None = Said word

-- so many of so many; or that there is no measurement
abbrev pub share_value : Option (ℕ × ℕ) → Value
share_value (Some share) = Share share.0 share.1
share_value None = Said word.None

-- a suspended call, or that there is none
abbrev pub call_value : Option CallShown → Value
call_value (Some call) = Call call.wait call.lid call.deadline
call_value None = Said word.None

-- the standard events and the status byte
abbrev pub status_values : StatusShown → List Value
status_values shown = flag shown.opc ∷ Number shown.enable ∷ Number shown.events ∷ Number shown.service ∷ Number shown.byte
    ∷ flag shown.request ∷ []

-- a status register
abbrev pub register_values : RegisterShown → List Value
register_values shown = Number shown.enable ∷ Number shown.rise ∷ Number shown.fall ∷ Number shown.condition ∷ Number shown.events ∷ []

-- the settings, without the scan list
abbrev pub settings_values : SettingsShown → List Value
settings_values shown = Said shown.source ∷ Number shown.count ∷ Voltage shown.range ∷ Number shown.monitor ∷ Voltage shown.upper
    ∷ Voltage shown.lower ∷ flag shown.limits ∷ []

-- the measurement: its state, how many of its scans were triggered, how many channels of the scan
-- under way were read, and the readings
abbrev pub measurement_values : MeasurementShown → List Value
measurement_values shown = Said shown.state ∷ share_value (option_map (λ so_far. (so_far.scan, so_far.scans)) shown.progress)
    ∷ share_value (option_map (λ so_far. (so_far.place, so_far.places)) shown.progress) ∷ Number shown.readings ∷ shown.newest ∷ []

-- message exchange, and lost errors
abbrev pub message_values : MessageShown → List Value
message_values shown = number_or_word word.Ended shown.text ∷ Said shown.held ∷ Number shown.answers ∷ Number shown.response
    ∷ Number shown.lost ∷ []

-- a connection
abbrev pub conn_values : ConnShown → List Value
conn_values shown = Said shown.role ∷ flag shown.faulted ∷ call_value shown.call ∷ Number shown.output ∷ []

-- the interrupt channel of a connection
abbrev pub channel_values : ConnShown → List Value
channel_values shown = flag shown.has_channel ∷ Number shown.requests ∷ []
