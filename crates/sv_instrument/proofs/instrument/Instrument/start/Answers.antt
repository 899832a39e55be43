use Rattle.std.proofs.Common.{◌∙◌, sym}
use Rattle.sv_instrument.proofs.NextStep.{stands_after_start}
use Rattle.sv_instrument.proofs.instrument.Instrument.start.Goals as goal

pub returns-clause-starts : goal.returns-clause-starts
returns-clause-starts g c = λ start log h.
    let s = rw (← c.self.view_is) at h in
    let unit = c.start-self-inside.ensures.behaves start log s.layers in
    stands_after_start start log unit.0 _ _ (sym c.requires.free ∙ h.held) unit.1 s.path unit.2

pub start-self-inside-requires-clause-room : goal.start-self-inside-requires-clause-room
start-self-inside-requires-clause-room g c = c.self.invariant.0

pub start-self-inside-requires-clause-due : goal.start-self-inside-requires-clause-due
start-self-inside-requires-clause-due g c = rw (← c.self.view_is) at c.requires.due

pub invariant_of-self : goal.invariant_of-self
invariant_of-self g c = (c.start-self-inside.ensures.capacity, c.start-self-inside.ensures.advances.right)
