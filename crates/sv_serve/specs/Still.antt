-- When a driver has nothing to do until its wire reports something.
use Rattle.std.specs.Prelude.{ℕ, ◌+◌, Bool}
use Rattle.sv_history.specs.declared.event.Config.{Config}
use Rattle.sv_history.specs.Act.{device_acts}
use Rattle.sv_history.specs.Queries.{Decided}
use Rattle.sv_history.specs.Still.{IsStill}
use Rattle.sv_serve.specs.DriverView.{DriverView}
use Rattle.sv_serve.specs.Sweep.{IsNoneDue}

-- The answer says whether nothing becomes due within `most` milliseconds: neither at the server nor
-- in the scenario.
abbrev pub StaysStill : {W : Type 0} → ℕ → Config → DriverView W → Bool → Type 0
StaysStill most config at =
    Decided (λ log. IsStill most config (device_acts log) × IsNoneDue (at.ticks + most) at.ahead) config at.history
