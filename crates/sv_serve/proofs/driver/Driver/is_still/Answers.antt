use Rattle.std.proofs.Common.{◌≡◌, Bool, true, false, refl}
use Rattle.std.specs.Prelude.{◌↔◌, not}
use Rattle.sv_serve.proofs.driver.Driver.is_still.Goals as goal

both_still : {P Q : Type 0} (due : Bool) → P → (due ≡ false) ↔ Q → (not due ≡ true) ↔ (P × Q)
both_still false p same = ((λ e. (p, same.0 refl)), (λ both. refl))
both_still true p same = ((λ e. absurd cc), (λ both. absurd (let z : true ≡ false = same.1 both.1 in cc)))

pub returns-then-is_still : goal.returns-then-is_still
returns-then-is_still g c = λ config history s.
    let told = c.if-is_still.ensures config history (rw (← c.self.view_is) at s) in
    (told.0, told.1, both_still c.is_due_within.result (told.2.0 refl) c.is_due_within.ensures)

pub returns-else-is_still : goal.returns-else-is_still
returns-else-is_still g c = λ config history s.
    let told = c.if-is_still.ensures config history (rw (← c.self.view_is) at s) in
    (told.0, told.1, ((λ e. absurd cc), (λ both. absurd (let z : false ≡ true = told.2.1 both.0 in cc))))
