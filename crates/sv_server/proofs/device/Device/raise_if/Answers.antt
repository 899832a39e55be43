use Rattle.std.proofs.Common.{◌≡◌, ℕ, sym, subst, ◌∙◌}
use Rattle.sv_server.proofs.OnDevice.Raising.{RaisesInto}
use Rattle.sv_server.proofs.device.Device.raise_if.Goals as goal
use Rattle.std.proofs.lemmas.Option.{same_Some}

pub returns-in-Some-clause-some : goal.returns-in-Some-clause-some
returns-in-Some-clause-some g c = λ count is.
    let same : c.in-Some.count ≡ count = same_Some c.in-Some.count count (sym c.in-Some.is ∙ is) in
    subst (λ (n : ℕ). RaisesInto c.args.self.now c.raise.new.self n) same c.raise.ensures.stands
