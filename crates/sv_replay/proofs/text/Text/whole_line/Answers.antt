use Rattle.sv_replay.proofs.Texts.{found_keeps, open_keeps}
use Rattle.sv_replay.proofs.text.Text.whole_line.Goals as goal

pub invariant_of-self : goal.invariant_of-self
invariant_of-self g c =
    (found_keeps c.self.inside.buffer.items _ _ _ _ c.in-Some.at c.self.invariant (rw c.deref.ensures.value at c.in-Some.ensures)).0

pub invariant_of-self-in-None : goal.invariant_of-self-in-None
invariant_of-self-in-None g c =
    (open_keeps c.self.inside.buffer.items _ _ _ _ c.self.invariant (rw c.deref.ensures.value at c.in-None.ensures)).0

pub returns-in-Some-clause-value : goal.returns-in-Some-clause-value
returns-in-Some-clause-value g c = rw (← c.self.view_is)
    (found_keeps c.self.inside.buffer.items _ _ _ _ c.in-Some.at c.self.invariant (rw c.deref.ensures.value at c.in-Some.ensures)).1

pub returns-in-None-clause-value : goal.returns-in-None-clause-value
returns-in-None-clause-value g c = rw (← c.self.view_is)
    (open_keeps c.self.inside.buffer.items _ _ _ _ c.self.invariant (rw c.deref.ensures.value at c.in-None.ensures)).1
