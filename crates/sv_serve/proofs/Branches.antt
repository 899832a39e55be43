-- What a step is once the answer on which it depends is known.
use Rattle.std.proofs.Common.{◌≡◌, ℕ, Bool, true, Option, Result, Err, sym, subst}
use Rattle.sv_history.specs.declared.event.Config.{Config}
use Rattle.sv_history.specs.declared.event.Dial.{Dial}
use Rattle.sv_history.specs.declared.event.Did.{Did}
use Rattle.sv_history.specs.declared.event.Refused.{Refused}
use Rattle.sv_history.specs.declared.event.Port.{Port}
use Rattle.sv_history.specs.Print.{is_no_memory}
use Rattle.sv_serve.specs.declared.wire.Answer.{Answer}
use Rattle.sv_serve.specs.declared.wire.Answer.TheVariants.{Failed}
use Rattle.sv_serve.specs.Heard.{Heard}
use Rattle.sv_serve.specs.DriverView.{DriverView}
use Rattle.sv_serve.specs.Steps.{ProbesIf, RefusesIf, EndsTurn, DialsFor, BreaksOff, EndsWrite}

pub write_failed : {W : Type 0} (hears : W → Heard → W
    → Type 0) (port other : Port) (answer : Answer ℕ) (config : Config) (before after : DriverView W)
    → answer ≡ Failed → port ≡ other → BreaksOff hears other config before after → EndsWrite hears port answer config before after
write_failed hears port other answer config before after failed same h =
    subst (λ (a : Answer ℕ). EndsWrite hears port a config before after) (sym failed)
    (subst (λ (p : Port). BreaksOff hears p config before after) (sym same) h)

pub turn_refused : {W : Type 0} (c : ℕ) (answer : Result Did Refused) (refused : Refused) (so : Bool) (config : Config)
    (before after : DriverView W)
    → answer ≡ Err refused → so ≡ is_no_memory refused → RefusesIf c so config before after → EndsTurn c answer config before after
turn_refused c answer refused so config before after is same h =
    subst (λ (r : Result Did Refused). EndsTurn c r config before after) (sym is) (subst (λ
    (b : Bool). RefusesIf c b config before after) same h)

pub dials_for_as : {W : Type 0} (hears : W → Heard → W → Type 0) (c : ℕ) (wanted dialed other before_call : Option Dial) (config : Config)
    (before after : DriverView W) → wanted ≡ other → dialed ≡ before_call → DialsFor hears c other before_call config before after
    → DialsFor hears c wanted dialed config before after
dials_for_as hears c wanted dialed other before_call config before after is same h =
    subst (λ (d : Option Dial). DialsFor hears c d dialed config before after) (sym is)
    (subst (λ (d : Option Dial). DialsFor hears c other d config before after) (sym same) h)

pub probes_if_true : {W : Type 0} (hears : W → Heard → W → Type 0) (c : ℕ) (so : Bool) (config : Config) (before after : DriverView W) → so
    ≡ true
    → ProbesIf hears c true config before after → ProbesIf hears c so config before after
probes_if_true hears c so config before after is h = subst (λ (b : Bool). ProbesIf hears c b config before after) (sym is) h
