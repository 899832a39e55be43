-- The order of a program message unit; or its first error, in the sequence of the checks
-- (SCPI-1999, volume 1, chapters 6 and 7; volume 2, 21.8).
use Rattle.std.specs.Prelude.{◌≡◌, ◌⊎◌, ℕ, ◌==◌, List, Option, Some, None, Result, Err, nat_lt, if◌then◌else◌}
use Rattle.sv_errors.specs.declared.code.Code.{Code}
use Rattle.sv_errors.specs.declared.code.Code.TheVariants.{ParameterNotAllowed, UndefinedHeader}
use Rattle.sv_lexer.specs.Token.{kind_of}
use Rattle.sv_lexer.specs.Unit.{unit_fault, header}
use Rattle.sv_lexer.specs.Parameters.{parameters_fault, parameter, count}
use Rattle.sv_header.specs.declared.command.CommandId.{CommandId}
use Rattle.sv_header.specs.Arity.{most_parameters}
use Rattle.sv_header.specs.Resolve.{Resolves, next_path}
use Rattle.sv_instrument.specs.declared.command.order.Order.{Order}
use Rattle.sv_instrument.specs.Command.Order.{Parameter, order_of}

-- the first parameter of a unit; `None` if it has no parameter
abbrev pub first_parameter : List ℕ → Option Parameter
first_parameter unit = if count unit == 0 then None else Some (record { kind = kind_of (parameter unit 0); text = parameter unit 0 })

-- the error, if there is one; else `outcome`
abbrev pub unless : Option Code → Result Order Code → Result Order Code
unless (Some code) outcome = Err code
unless None outcome = outcome

-- The order of a command, given the unit with its parameters; or the first error of the parameters.
-- First the syntax of the parameters is checked; then their number (-108 if there are too many);
-- then their values.
abbrev pub order_of_unit : CommandId → List ℕ → Result Order Code
order_of_unit command unit =
    unless (parameters_fault unit)
    (if nat_lt (most_parameters command) (count unit) then Err ParameterNotAllowed else order_of command (first_parameter unit))

-- The header of the unit, read relative to `path`, names a command: the outcome is the order of
-- this command or the error of its parameters, and the path is updated. Or the header names no
-- command: the outcome is the error -113, and the path doesn't change.
abbrev pub IsNamed : List (List ℕ) → List ℕ → Result Order Code → List (List ℕ) → Type 0
IsNamed path unit outcome behind =
    ((command : CommandId) × Resolves path (header unit) command × (outcome ≡ order_of_unit command unit) × (behind ≡ next_path path
    (header unit)))
    ⊎ (((command : CommandId) → Resolves path (header unit) command → ⊥) × (outcome ≡ Err UndefinedHeader) × (behind ≡ path))

-- The unit, read relative to `path`, has this outcome: an order, which tells the instrument what to
-- do; or an error. `behind` is the path for the next unit. The path is updated if the unit is
-- well-formed and its header names a command; otherwise it is unchanged.
abbrev pub IsReadAs : List (List ℕ) → List ℕ → Result Order Code → List (List ℕ) → Type 0
IsReadAs path unit outcome behind = ((code : Code) × (unit_fault unit ≡ Some code) × (outcome ≡ Err code) × (behind ≡ path))
    ⊎ ((unit_fault unit ≡ None) × IsNamed path unit outcome behind)
