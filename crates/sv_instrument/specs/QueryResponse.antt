-- The answer to each query (IEEE 488.2, chapter 10; SCPI-1999, volume 2). It is a text. It depends
-- on the log as it is before the query removes an entry or clears a register.
use Rattle.std.specs.Prelude.{◌≡◌, ◌↔◌, ℕ, ◌<◌, true, false, List, [], ◌∷◌, Option, length, codes, decimal, unwrap_or}
use Rattle.std.specs.List.{join_by}
use Rattle.std.specs.Int.{bit_at}
use Rattle.sv_errors.specs.declared.code.Code.{Code}
use Rattle.sv_errors.specs.declared.code.Code.TheVariants.{NoError}
use Rattle.sv_errors.specs.ErrorQueue.{entries, oldest}
use Rattle.sv_value.specs.PrintedVoltage.{voltage_text}
use Rattle.sv_value.specs.Printing.{overload_text, channels_text, error_text, switch_text, source_text}
use Rattle.sv_scan.specs.declared.setting.Reading.{Reading}
use Rattle.sv_scan.specs.declared.setting.Reading.TheVariants.{Value, Over, Under}
use Rattle.sv_scan.specs.Setting.{scan_list, monitor, range, upper, lower, limits, source, count}
use Rattle.sv_scan.specs.Scan.{readings}
use Rattle.sv_header.specs.declared.command.Question.{Question}
use Rattle.sv_header.specs.declared.command.Question.TheVariants as question
use Rattle.sv_header.specs.declared.command.SettingName.{SettingName}
use Rattle.sv_header.specs.declared.command.SettingName.TheVariants as name
use Rattle.sv_layers.specs.Act.{Act, queue_acts}
use Rattle.sv_layers.specs.Condition.{condition, effective_acts}
use Rattle.sv_layers.specs.Event.{EventStands}
use Rattle.sv_layers.specs.Filter.{rise, fall, enable}
use Rattle.sv_layers.specs.Standard.{Stands, enable as standard_enable}
use Rattle.sv_layers.specs.StatusByte.{MasterBit, service}

-- The text is a 16-bit number in decimal. Bit k of the number is set exactly if `Bit` holds for k.
pub record IsWord (Bit : ℕ → Type 0) (text : List ℕ) : Type 0 where
  pub word : ℕ
  pub fits : word < 65536
  pub text_is : text ≡ decimal word
  pub bits : (k : ℕ) → (bit_at word k ≡ 1) ↔ Bit k

-- the text of a reading: a voltage, or an overload
abbrev pub reading_text : Reading → List ℕ
reading_text (Value microvolts) = voltage_text microvolts
reading_text Over = overload_text false
reading_text Under = overload_text true

-- the text of readings, separated by commas
abbrev pub readings_text : List Reading → List ℕ
readings_text given = join_by reading_text (codes ",") given

-- the answer to `SYSTem:ERRor?`: the oldest entry of the error queue; `0,"No error"` if the queue
-- is empty
abbrev pub oldest_text : Option Code → List ℕ
oldest_text oldest = error_text (unwrap_or oldest NoError)

-- the answer to the query of a setting: its value
abbrev pub value_text : SettingName → List Act → List ℕ
value_text name.StandardEnable log = decimal (standard_enable log)
value_text name.ServiceEnable log = decimal (service log)
value_text (name.Enable register) log = decimal (enable register log)
value_text (name.Rise register) log = decimal (rise register log)
value_text (name.Fall register) log = decimal (fall register log)
value_text name.ScanList log = channels_text (scan_list (effective_acts log))
value_text name.Monitor log = channels_text (monitor (effective_acts log) ∷ [])
value_text name.Range log = voltage_text (range (effective_acts log))
value_text name.UpperLimit log = voltage_text (upper (effective_acts log))
value_text name.LowerLimit log = voltage_text (lower (effective_acts log))
value_text name.Limits log = switch_text (limits (effective_acts log))
value_text name.Source log = source_text (source (effective_acts log))
value_text name.Count log = decimal (count (effective_acts log))

-- The text is the answer to the query.
abbrev pub Says : Question → List Act → List ℕ → Type 0
Says question.Identification log text = text ≡ codes "SCANVOLT,SV32,0,1.0"
Says question.SelfTest log text = text ≡ codes "0"
Says question.Version log text = text ≡ codes "1999.0"
Says question.StandardEvents log text = IsWord (λ k. Stands k log) text
Says question.StatusByte log text = IsWord (λ k. MasterBit k log) text
Says question.Error log text = text ≡ oldest_text (oldest (queue_acts log))
Says question.ErrorCount log text = text ≡ decimal (length (entries (queue_acts log)))
Says (question.Events name) log text = IsWord (λ k. EventStands name k log) text
Says (question.Condition name) log text = text ≡ decimal (condition name log)
Says question.Readings log text = text ≡ readings_text (readings (effective_acts log))
Says (question.Value name) log text = text ≡ value_text name log
