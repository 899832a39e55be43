-- The values that clap finds for a command's options are those of the words, so they say what the
-- words ask for.
use Rattle.std.proofs.Common.{◌≡◌, ◌∙◌, ap, sym, subst, refl, true, List, [], Err, inl, inr, codes}
use Rattle.std.specs.Prelude.{Option}
use Rattle.std.specs.List.{Contains}
use Rattle.clap.specs.Words.{App, Text, fault_of, first_of, matches_of, HasMatchesOf, HasKind, is_simple_and_free}
use Rattle.clap.specs.Simple.{is_simple}
use Rattle.clap.specs.Values.{kind_of}
use Rattle.clap.specs.declared.error.Error.{Error}
use Rattle.clap.specs.declared.error.kind.ErrorKind.TheVariants.{OutOfMemory}
use Rattle.clap.specs.Matches.{found_of, first_value}
use Rattle.clap.specs.declared.parser.matches.ArgMatches.{ArgMatches}
use Rattle.clap.proofs.OnLiterals.{clap_on_literals}
use Rattle.clap.proofs.WalkLemmas.{first_value-rows}
use Rattle.sv_net.specs.declared.fault.ProgramFault.{ProgramFault}
use Rattle.sv_net.specs.Words.{serve_command, replay_command, Asks, ServesBy, HasPorts, ArePorts, IfGiven, IfBoth, IsCount, ReadsWords, IsUsageFault}

-- The matches and the faults of this command are functions of the words.
pub record IsKnown (command : App) : Type 0 where
  pub simple : is_simple command ≡ true
  pub free : is_simple_and_free command ≡ true

serve_is_simple : is_simple serve_command ≡ true
unfolding clap_on_literals
serve_is_simple = refl

serve_is_free : is_simple_and_free serve_command ≡ true
unfolding clap_on_literals
serve_is_free = refl

pub serve_known : IsKnown serve_command
serve_known = record { simple = serve_is_simple; free = serve_is_free }

replay_is_simple : is_simple replay_command ≡ true
unfolding clap_on_literals
replay_is_simple = refl

replay_is_free : is_simple_and_free replay_command ≡ true
unfolding clap_on_literals
replay_is_free = refl

pub replay_known : IsKnown replay_command
replay_known = record { simple = replay_is_simple; free = replay_is_free }

-- Equal option values ask for the same.
abbrev pub TellsSame : {A : Type 0} → ((Text → Option Text) → A → Type 0) → Type 0
TellsSame By = (f g : Text → Option Text) → ((name : Text) → f name ≡ g name) → (asked : _) → By f asked → By g asked

pub serves_same : TellsSame ServesBy
serves_same f g same serve (core, abort, portmap, scenario, sweeps, recorded, control) = (
  subst (λ o. IfGiven o (λ text. IsCount 65535 text serve.core)) (same _) core,
  subst (λ o. IfGiven o (λ text. IsCount 65535 text serve.abort)) (same _) abort,
  subst (λ o. IfGiven o (λ text. IsCount 65535 text serve.portmap)) (same _) portmap,
  subst (λ o. IfGiven o (λ text. serve.scenario.now ≡ text)) (same _) scenario,
  subst (λ o. IfGiven o (λ text. IsCount 4294967295 text serve.sweeps)) (same _) sweeps,
  subst (λ o. IfBoth o serve.record (λ text path. path.now ≡ text)) (same _) recorded,
  subst (λ o. IfBoth o serve.control (λ text port. IsCount 65535 text port)) (same _) control,
)

pub ports_same : TellsSame HasPorts
ports_same f g same ports has =
    subst (λ o. ArePorts (g (codes "core")) o ports) (same _) (subst (λ o. ArePorts o (f (codes "abort")) ports) (same _) has)

module _ {A : Type 0} (By : (Text → Option Text) → A → Type 0) (tells : TellsSame By) (command : App) (known : IsKnown command) where
  -- The values that were found are those of the words.
  same_values : (words : List Text) (found : ArgMatches) → HasMatchesOf command words found
      → (name : Text) → first_value (found_of found) name ≡ first_of name (matches_of command words)
  same_values words found has name = first_value-rows (found_of found) name ∙ ap (first_of name) (has known.simple).0

  -- If no word is `--`, the words ask for what the values that were found say.
  pub asked_by : (app : App) (words : List Text) (found : ArgMatches) (asked : A) → app ≡ command → HasMatchesOf app words found
      → (is_simple_and_free app ≡ true → fault_of app words ≡ []) → By (λ name. first_value (found_of found) name) asked
      → (Contains words (codes "--") → ⊥) → Asks command (λ value. By value asked) words
  asked_by app words found asked is has faultless says no_end =
      let none : fault_of command words ≡ [] =
      subst (λ (a : App). is_simple_and_free a ≡ true → fault_of a words ≡ []) is faultless known.free in
      (no_end, none, tells _ _ (same_values words found (subst (λ (a : App). HasMatchesOf a words found) is has)) asked says)

  pub not_asked : (app : App) (words : List Text) (found : ArgMatches) → app ≡ command → HasMatchesOf app words found
      → ((asked : A) → By (λ name. first_value (found_of found) name) asked → ⊥)
      → (asked : A) → Asks command (λ value. By value asked) words → ⊥
  not_asked app words found is has none asked asks = none asked (tells _ _
      (λ name. sym (same_values words found (subst (λ (a : App). HasMatchesOf a words found) is has) name)) asked asks.2)

  -- Words that the command refuses ask for nothing, unless memory was refused.
  pub refused : (app : App) (words : List Text) (error : Error) (fault : ProgramFault) → app ≡ command
      → (is_simple_and_free app ≡ true → HasKind (fault_of app words) error) → IsUsageFault (kind_of error) fault
      → ReadsWords (λ asked. Asks command (λ value. By value asked) words) (Err fault)
  refused app words error fault is has (inl (kind, e)) =
      subst (λ (f : ProgramFault). ReadsWords (λ asked. Asks command (λ value. By value asked) words) (Err f)) (sym e) refl
  refused app words error fault is has (inr (kind, e)) =
      let faults : HasKind (fault_of command words) error =
      subst (λ (a : App). is_simple_and_free a ≡ true → HasKind (fault_of a words) error) is has known.free in
      subst (λ (f : ProgramFault). ReadsWords (λ asked. Asks command (λ value. By value asked) words) (Err f)) (sym e)
      (λ asked asks. none_of error kind (subst (λ faults. HasKind faults error) asks.1 faults))
    where
      none_of : (error : Error) → (kind_of error ≡ OutOfMemory → ⊥) → HasKind [] error → ⊥
      none_of error not (inl memory) = not memory
      none_of error not (inr among) = among
