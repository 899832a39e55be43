-- The error codes (SCPI-1999, volume 2, section 21.8): their numbers and texts.
use Rattle.std.specs.Prelude.{ℤ, ℕ, ◌/◌, ◌^◌, ◌==◌, pos, neg_ℤ, List, codes, if◌then◌else◌}
use Rattle.sv_errors.specs.declared.code.Code.{Code}
use Rattle.sv_errors.specs.declared.code.Code.TheVariants.{NoError, InvalidCharacter, SyntaxError, DataTypeError, ParameterNotAllowed, MissingParameter, ProgramMnemonicTooLong, UndefinedHeader, InvalidCharacterInNumber, ExponentTooLarge, TooManyDigits, InvalidSuffix, SuffixNotAllowed, InvalidCharacterData, InvalidExpression, TriggerIgnored, InitIgnored, TriggerDeadlock, SettingsConflict, DataOutOfRange, TooMuchData, IllegalParameterValue, DataCorruptOrStale, QueueOverflow, InputBufferOverrun, QueryInterrupted, QueryUnterminated, QueryDeadlocked}

-- the number of an error, without its minus sign, and the text of the error
abbrev pub entry : Code → ℕ × List ℕ
entry NoError = (0, codes "No error")
entry InvalidCharacter = (101, codes "Invalid character")
entry SyntaxError = (102, codes "Syntax error")
entry DataTypeError = (104, codes "Data type error")
entry ParameterNotAllowed = (108, codes "Parameter not allowed")
entry MissingParameter = (109, codes "Missing parameter")
entry ProgramMnemonicTooLong = (112, codes "Program mnemonic too long")
entry UndefinedHeader = (113, codes "Undefined header")
entry InvalidCharacterInNumber = (121, codes "Invalid character in number")
entry ExponentTooLarge = (123, codes "Exponent too large")
entry TooManyDigits = (124, codes "Too many digits")
entry InvalidSuffix = (131, codes "Invalid suffix")
entry SuffixNotAllowed = (138, codes "Suffix not allowed")
entry InvalidCharacterData = (141, codes "Invalid character data")
entry InvalidExpression = (171, codes "Invalid expression")
entry TriggerIgnored = (211, codes "Trigger ignored")
entry InitIgnored = (213, codes "Init ignored")
entry TriggerDeadlock = (214, codes "Trigger deadlock")
entry SettingsConflict = (221, codes "Settings conflict")
entry DataOutOfRange = (222, codes "Data out of range")
entry TooMuchData = (223, codes "Too much data")
entry IllegalParameterValue = (224, codes "Illegal parameter value")
entry DataCorruptOrStale = (230, codes "Data corrupt or stale")
entry QueueOverflow = (350, codes "Queue overflow")
entry InputBufferOverrun = (363, codes "Input buffer overrun")
entry QueryInterrupted = (410, codes "Query INTERRUPTED")
entry QueryUnterminated = (420, codes "Query UNTERMINATED")
entry QueryDeadlocked = (430, codes "Query DEADLOCKED")

-- the number of an error
abbrev pub number_of : Code → ℤ
number_of code = neg_ℤ (pos (entry code).0)

-- the text of an error
abbrev pub text_of : Code → List ℕ
text_of code = (entry code).1

-- The bit that an error of this class sets in the standard event status register (IEEE 488.2,
-- 11.5.1; SCPI-1999, volume 2, 21.8). The class is the hundreds digit of the error's number: 1 for
-- a command error, 2 for an execution error, 3 for a device-specific error, 4 for a query error.
abbrev pub class_event : ℕ → ℕ
class_event class =
    if class == 1 then 2 ^ 5
    else if class == 2 then 2 ^ 4
    else if class == 3 then 2 ^ 3
    else if class == 4 then 2 ^ 2
    else 0

-- the bit of the standard event status register for an error
abbrev pub standard_event_of : Code → ℕ
standard_event_of code = class_event ((entry code).0 / 100)
