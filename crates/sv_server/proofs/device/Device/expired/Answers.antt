use Rattle.std.proofs.Common.{subst, ℕ}
use Rattle.std.specs.Prelude.{option_map}
use Rattle.sv_links.specs.Waiting.{IsExpired, IsOldest}
use Rattle.sv_history.specs.Act.{wait_acts}
use Rattle.sv_server.proofs.device.Device.expired.Goals as goal

pub returns-clause-answer : goal.returns-clause-answer
returns-clause-answer g c = λ config acts old.
    let is = rw (← c.self.view_is) at old in
    subst (λ (clock : ℕ). IsOldest (wait_acts acts) (IsExpired clock (wait_acts acts)) (option_map (λ entry. entry.conn) c.expired.result))
    is.3 (c.expired.ensures.answer (wait_acts acts) is.4)

pub returns-clause-entry : goal.returns-clause-entry
returns-clause-entry g c = λ config acts old. let is = rw (← c.self.view_is) at old in c.expired.ensures.entry (wait_acts acts) is.4
