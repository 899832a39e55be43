-- The order of each command, with or without a parameter (IEEE 488.2, chapter 10; SCPI-1999, volume
-- 2).
use Rattle.std.specs.Prelude.{ℕ, List, [], ◌∷◌, Option, Some, None, Result, Ok, Err, bit_and}
use Rattle.sv_errors.specs.declared.code.Code.{Code}
use Rattle.sv_errors.specs.Limits.{most_scans}
use Rattle.sv_errors.specs.declared.code.Code.TheVariants.{MissingParameter, TooMuchData, InvalidExpression}
use Rattle.sv_lexer.specs.declared.token.Kind.{Kind}
use Rattle.sv_lexer.specs.declared.token.Token.{Token}
use Rattle.sv_header.specs.declared.command.CommandId.{CommandId}
use Rattle.sv_header.specs.declared.command.CommandId.TheVariants as id
use Rattle.sv_header.specs.declared.command.SettingName.{SettingName}
use Rattle.sv_header.specs.declared.command.SettingName.TheVariants as name
use Rattle.sv_value.specs.Value.{read_voltage, read_whole, read_boolean, read_source, read_channels}
use Rattle.sv_scan.specs.declared.setting.Setting.TheVariants as setting
use Rattle.sv_layers.specs.declared.change.RegisterChange.TheVariants.{Enable, SetRise, SetFall}
use Rattle.sv_layers.specs.declared.change.StatusChange.TheVariants.{EnableStandard, EnableService, Register}
use Rattle.sv_instrument.specs.declared.command.order.Order.{Order}
use Rattle.sv_instrument.specs.declared.command.order.Order.TheVariants as order

-- a parameter: the kind of its data, and its bytes
pub record Parameter : Type 0 where
  pub kind : Kind
  pub text : List ℕ

-- for a value: `make` applied to this value; for an error: this error
abbrev pub then_value : {A B : Type 0} → (A → B) → Result A Code → Result B Code
then_value make (Ok value) = Ok (make value)
then_value make (Err code) = Err code

-- the channels in the parameter, which is a channel list; or the error of this list. `None` if
-- there is no parameter.
abbrev pub channels_in : Option Parameter → Result (Option (List ℕ)) Code
channels_in None = Ok None
channels_in (Some parameter) = then_value Some (read_channels parameter.kind parameter.text)

-- the channel of a channel list that has to have exactly one channel; -223 if the list has more
-- channels
abbrev pub only_channel : Result (List ℕ) Code → Result ℕ Code
only_channel (Ok []) = Err InvalidExpression
only_channel (Ok (channel ∷ [])) = Ok channel
only_channel (Ok (channel ∷ other ∷ others)) = Err TooMuchData
only_channel (Err code) = Err code

-- the order of a command that sets a value, given the kind and the text of its parameter; or the
-- error of the parameter. Bit 6 of the mask for the service request enable is dropped.
abbrev pub set_order : SettingName → Kind → List ℕ → Result Order Code
set_order name.StandardEnable kind text = then_value (λ mask. order.Apply (EnableStandard mask)) (read_whole 0 255 kind text)
set_order name.ServiceEnable kind text = then_value (λ mask. order.Apply (EnableService (bit_and mask 191))) (read_whole 0 255 kind text)
set_order (name.Enable register) kind text = then_value (λ mask. order.Apply (Register register (Enable mask)))
    (read_whole 0 65535 kind text)
set_order (name.Rise register) kind text = then_value (λ mask. order.Apply (Register register (SetRise mask)))
    (read_whole 0 65535 kind text)
set_order (name.Fall register) kind text = then_value (λ mask. order.Apply (Register register (SetFall mask)))
    (read_whole 0 65535 kind text)
set_order name.ScanList kind text = then_value (λ list. order.Set (setting.List list)) (read_channels kind text)
set_order name.Monitor kind text = then_value (λ channel. order.Set (setting.Monitor channel)) (only_channel (read_channels kind text))
set_order name.Range kind text = then_value (λ volts. order.Set (setting.Range volts)) (read_voltage kind text)
set_order name.UpperLimit kind text = then_value (λ volts. order.Set (setting.Upper volts)) (read_voltage kind text)
set_order name.LowerLimit kind text = then_value (λ volts. order.Set (setting.Lower volts)) (read_voltage kind text)
set_order name.Limits kind text = then_value (λ on. order.Set (setting.Limits on)) (read_boolean kind text)
set_order name.Source kind text = then_value (λ source. order.Set (setting.Source source)) (read_source kind text)
set_order name.Count kind text = then_value (λ scans. order.Set (setting.Count scans)) (read_whole 1 most_scans kind text)

-- The order of a command with this parameter, or without a parameter (`None`); or the error. A
-- command that sets a value needs a parameter (else -109). A command that configures a measurement
-- can have a channel list or no parameter.
abbrev pub order_of : CommandId → Option Parameter → Result Order Code
order_of (id.Do action) parameter_of = Ok (order.Do action)
order_of (id.Ask question) parameter_of = Ok (order.Ask question)
order_of (id.Set name) None = Err MissingParameter
order_of (id.Set name) (Some parameter) = set_order name parameter.kind parameter.text
order_of id.Configure parameter_of = then_value order.Configure (channels_in parameter_of)
order_of id.Measure parameter_of = then_value order.Measure (channels_in parameter_of)

-- a token of the code, as a parameter; `None` if there is no token
abbrev pub parameter_of : Option Token → Option Parameter
parameter_of None = None
parameter_of (Some token) = Some (record { kind = token.kind; text = token.text.now })
