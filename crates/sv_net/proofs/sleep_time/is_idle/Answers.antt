use Rattle.std.proofs.Common.{◌≡◌, Bool, true, false, refl}
use Rattle.std.specs.Prelude.{◌&&◌, not}
use Rattle.sv_net.proofs.sleep_time.is_idle.Goals as goal

parts : (still ready : Bool) → (still && not ready) ≡ true → (still ≡ true) × (ready ≡ false)
parts true false all = (refl, refl)
parts true true all = absurd cc
parts false ready all = absurd (let z = all in cc)

pub returns : goal.returns
returns g c = λ so.
    let (still, ready) = parts _ _ so in
    (c.is_ready.ensures ready, λ config history stands. rw still at (c.is_still.ensures config history stands))
