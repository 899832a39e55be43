-- What the words of the command line tell the program to do.
use Rattle.std.specs.Prelude.{◌≡◌, ◌≤◌, ◌⊎◌, ℕ, true, List, [], ◌∷◌, length, codes, Option, Some, None, Result, Ok, Err, ⊤}
use Rattle.clap.specs.Words.{App, Rule, Text, fault_of, first_of, matches_of, new_app, new_rule, with_rule}
use Rattle.clap.specs.declared.builder.action.ArgAction.TheVariants.{Set}
use Rattle.clap.specs.declared.error.kind.ErrorKind.{ErrorKind}
use Rattle.clap.specs.declared.error.kind.ErrorKind.TheVariants.{OutOfMemory}
use Rattle.std.specs.List.{Contains}
use Rattle.std.specs.Str.Parse.{IsNumeral, digits_value}
use Rattle.sv_replay.specs.declared.fault.RunFault.TheVariants.{Memory}
use Rattle.sv_net.specs.declared.fault.ProgramFault.{ProgramFault}
use Rattle.sv_net.specs.declared.fault.ProgramFault.TheVariants.{BadWords, Run, Socket}
use Rattle.sv_replay.specs.declared.ports.Ports.{Ports}
use Rattle.sv_net.specs.declared.words.Serve.{Serve}
use Rattle.sv_net.specs.declared.words.Words.{Words}
use Rattle.sv_net.specs.declared.words.Words.TheVariants.{Replay, Explain, Server}

-- The text is 1 to 10 decimal digits, and their value `n` is from 1 to `most`.
abbrev pub IsCount : ℕ → Text → ℕ → Type 0
IsCount most digits n = IsNumeral 10 digits × (length digits ≤ 10) × (n ≡ digits_value 10 digits) × (1 ≤ n) × (n ≤ most)

-- a required option with one value
abbrev pub option : Text → Rule
option name = record (new_rule name) { long = Some name; action = Some Set; required = true }

-- an option with one value that can be left out
abbrev pub optional : Text → Rule
optional name = record (new_rule name) { long = Some name; action = Some Set }

-- the command `replay`, with two options of one value each that can be left out
abbrev pub replay_command : App
replay_command = with_rule (with_rule (new_app (codes "replay")) (optional (codes "core"))) (optional (codes "abort"))

-- the command `serve`, with five required options and two that can be left out, of one value each
abbrev pub serve_command : App
serve_command =
    with_rule (with_rule (with_rule (with_rule (with_rule (with_rule (with_rule (new_app (codes "serve"))
    (option (codes "core"))) (option (codes "abort"))) (option (codes "portmap"))) (option (codes "scenario"))) (option (codes "sweeps")))
    (optional (codes "record"))) (optional (codes "control"))

-- There is a text, and `P` holds of it.
abbrev pub IfGiven : Option Text → (Text → Type 0) → Type 0
IfGiven (Some text) P = P text
IfGiven None P = ⊥

-- There are a text and a value, and `P` holds of them; or there is neither.
abbrev pub IfBoth : {A : Type 0} → Option Text → Option A → (Text → A → Type 0) → Type 0
IfBoth (Some text) (Some a) P = P text a
IfBoth (Some text) None P = ⊥
IfBoth None (Some a) P = ⊥
IfBoth None None P = ⊤

-- The ports of a replay are the values of these options: both are given; or none is, and the ports
-- are 4096 and 4097.
abbrev pub ArePorts : Option Text → Option Text → Ports → Type 0
ArePorts (Some core) (Some abort) ports = IsCount 65535 core ports.core × IsCount 65535 abort ports.abort
ArePorts None None ports = (ports.core ≡ 4096) × (ports.abort ≡ 4097)
ArePorts _ _ ports = ⊥

-- The values of the options say which ports a replay has. `value` finds the value of the option
-- that has a given name.
abbrev pub HasPorts : (Text → Option Text) → Ports → Type 0
HasPorts value ports = ArePorts (value (codes "core")) (value (codes "abort")) ports

-- The values of the options say what to serve. `value` finds the value of the option that has a
-- given name.
abbrev pub ServesBy : (Text → Option Text) → Serve → Type 0
ServesBy value serve = IfGiven (value (codes "core")) (λ text. IsCount 65535 text serve.core)
    × IfGiven (value (codes "abort")) (λ text. IsCount 65535 text serve.abort)
    × IfGiven (value (codes "portmap")) (λ text. IsCount 65535 text serve.portmap)
    × IfGiven (value (codes "scenario")) (λ text. serve.scenario.now ≡ text)
    × IfGiven (value (codes "sweeps")) (λ text. IsCount 4294967295 text serve.sweeps)
    × IfBoth (value (codes "record")) serve.record (λ text path. path.now ≡ text)
    × IfBoth (value (codes "control")) serve.control (λ text port. IsCount 65535 text port)

-- No word is `--`; clap's command `command` finds no fault in the words; and `P` holds of the
-- values that it finds for the options.
abbrev pub Asks : App → ((Text → Option Text) → Type 0) → List Text → Type 0
Asks command P words = (Contains words (codes "--") → ⊥) × (fault_of command words ≡ [])
    × P (λ name. first_of name (matches_of command words))

-- The words ask for a replay with these ports.
abbrev pub AsksToReplay : List Text → Ports → Type 0
AsksToReplay words ports = Asks replay_command (λ value. HasPorts value ports) words

-- The words ask for this server.
abbrev pub AsksToServe : List Text → Serve → Type 0
AsksToServe words serve = Asks serve_command (λ value. ServesBy value serve) words

-- The words of the command line tell the program to do this: `replay`, `explain` or `serve`, with
-- its options.
abbrev pub AsksFor : List Text → Words → Type 0
AsksFor [] words = ⊥
AsksFor (word ∷ words) (Replay ports) = (word ≡ codes "replay") × AsksToReplay (word ∷ words) ports
AsksFor (word ∷ words) (Explain ports) = (word ≡ codes "explain") × AsksToReplay (word ∷ words) ports
AsksFor (word ∷ words) (Server serve) = (word ≡ codes "serve") × AsksToServe (word ∷ words) serve

-- What reading the command line returns: something of which `P` holds; `BadWords`, if `P` holds of
-- nothing; or that memory was refused.
abbrev pub ReadsWords : {A : Type 0} → (A → Type 0) → Result A ProgramFault → Type 0
ReadsWords P (Ok asked) = P asked
ReadsWords {A} P (Err BadWords) = (asked : A) → P asked → ⊥
ReadsWords P (Err (Run fault)) = fault ≡ Memory
ReadsWords P (Err Socket) = ⊥

-- The result of a search: something of which `P` holds; or `None`, if `P` holds of nothing.
abbrev pub Finds : {A : Type 0} → (A → Type 0) → Option A → Type 0
Finds P (Some found) = P found
Finds {A} P None = (other : A) → P other → ⊥

-- This is the program's fault for an error of clap. If clap's error is of the kind `OutOfMemory`,
-- the fault is that memory was refused; else it is `BadWords`.
abbrev pub IsUsageFault : ErrorKind → ProgramFault → Type 0
IsUsageFault kind fault = ((kind ≡ OutOfMemory) × (fault ≡ Run Memory)) ⊎ ((kind ≡ OutOfMemory → ⊥) × (fault ≡ BadWords))
