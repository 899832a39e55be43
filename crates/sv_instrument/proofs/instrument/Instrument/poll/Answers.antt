use Rattle.sv_instrument.proofs.Counting.{poll_counts_none}
use Rattle.sv_instrument.proofs.instrument.Instrument.poll.Goals as goal

pub returns-clause-status : goal.returns-clause-status
returns-clause-status g c = λ log h.
    let s = rw (← c.self.view_is) at h in
    c.poll.ensures.status log s.layers.stands

pub returns-clause-ran : goal.returns-clause-ran
returns-clause-ran g c = λ log h.
    let s = rw (← c.self.view_is) at h in
    let did = poll_counts_none s.layers (c.poll.ensures.applied log s.layers.stands) in
    record { stands = record { layers = did.0; held = s.held; path = s.path }; raises = did.1 }
