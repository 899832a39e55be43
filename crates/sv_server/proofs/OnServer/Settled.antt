-- Steps are taken one after the other, until a call resumes or times out, or until none is due.
use Rattle.std.proofs.Common.{◌≡◌, false, List, refl}
use Rattle.std.specs.Prelude.{⊤}
use Rattle.sv_history.specs.declared.event.Config.{Config}
use Rattle.sv_history.specs.Act.{Act}
use Rattle.sv_history.specs.Settling.{IsSettled, IsNext}
use Rattle.sv_server.specs.Server.State.{State, Represents}
use Rattle.sv_server.specs.Server.Inside.Acting.{GoesTo, Settled}
use Rattle.sv_server.proofs.OnServer.Steps.{reaches_by_step, reaches_trans, settles_if_reached}

-- Whatever the log, some of the steps that were due led from `first` to `now`.
abbrev pub SomeStepsTaken : State → State → Type 0
SomeStepsTaken first now = (config : Config) (log : List Act) → Represents first config log → GoesTo config log (λ mid. ⊤) now

pub then_one_step : (first mid now : State) → SomeStepsTaken first mid → ((config : Config)
    (log : List Act) → Represents mid config log → (next : List Act) × IsNext config log next × Represents now config next)
    → SomeStepsTaken first now
then_one_step first mid now gone step = λ config log rep.
    let (middle, reached, so, held) = gone config log rep in
    let (next, is, stands) = step config middle held in
    (next, reaches_by_step config log middle next reached is, tt, stands)

pub then_more_steps : (first mid now : State) (IsSo : Config → List Act → Type 0) → SomeStepsTaken first mid
    → ((config : Config) (log : List Act) → Represents mid config log → GoesTo config log (IsSo config) now) → SomeStepsTaken first now
then_more_steps first mid now IsSo gone other = λ config log rep.
    let (middle, reached, so, held) = gone config log rep in
    let (end, goes, ends, stands) = other config middle held in
    (end, reaches_trans config log middle end reached goes, tt, stands)

-- One more step is taken, after which the claim holds because it holds for every log.
pub then_last_step : (first mid now : State) (IsSo : Config → List Act → Type 0) → ((config : Config) (log : List Act) → IsSo config log)
    → SomeStepsTaken first mid → ((config : Config)
    (log : List Act) → Represents mid config log → (next : List Act) × IsNext config log next × Represents now config next)
    → (config : Config) (log : List Act) → Represents first config log → GoesTo config log (IsSo config) now
then_last_step first mid now IsSo always gone step config log rep =
    let (next, goes, so, stands) = then_one_step first mid now gone step config log rep in (next, goes, always config next, stands)

-- No step is due any more.
pub any_ended : (first mid now : State) → SomeStepsTaken first mid
    → ((config : Config) (log : List Act) → Represents mid config log → IsSettled config log × Represents now config log)
    → (config : Config) (log : List Act) → Represents first config log → GoesTo config log (λ end. false ≡ false → IsSettled config end) now
any_ended first mid now gone none config log rep =
    let (middle, reached, so, held) = gone config log rep in
    let (still, stands) = none config middle held in (middle, reached, (λ e. still), stands)

pub any_settled : (first mid now : State) → SomeStepsTaken first mid
    → ((config : Config) (log : List Act) → Represents mid config log → GoesTo config log (λ end. false ≡ false → IsSettled config end) now)
    → (config : Config) (log : List Act) → Represents first config log → Settled config log now
any_settled first mid now gone other config log rep =
    let (middle, reached, so, held) = gone config log rep in
    let (end, goes, none, stands) = other config middle held in
    (end, settles_if_reached config log end (reaches_trans config log middle end reached goes) (none refl), stands)
