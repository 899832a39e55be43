use Rattle.std.proofs.Common.{ℕ, List, ap, rules}
use Rattle.sv_replay.specs.Text.{Held}
use Rattle.sv_replay.proofs.Texts.{dropped_keeps}
use Rattle.sv_replay.proofs.text.Text.drop_front.Goals as goal

pub invariant_of-self : goal.invariant_of-self
invariant_of-self g c =
    (dropped_keeps c.self.inside.buffer.items _ _ _ _ _ c.args.len c.self.invariant (rw (← c.self.view_is) at c.requires) (search rules)).0

pub returns : goal.returns
returns g c =
    let made : List ℕ → Held = λ text. record { text = text; reads = c.self.inside.reads } in
    rw (← c.self.view_is) (ap made (dropped_keeps c.self.inside.buffer.items _ _ c.max-self-inside.result _ _ c.args.len c.self.invariant
    (rw (← c.self.view_is) at c.requires) (search rules)).1)
