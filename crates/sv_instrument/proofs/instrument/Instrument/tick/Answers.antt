use Rattle.std.proofs.Common.{arith}
use Rattle.sv_layers.specs.Act.{scan_acts}
use Rattle.sv_instrument.proofs.Counting.{counts, no_act_raises_none, runs_at_start}
use Rattle.sv_instrument.proofs.instrument.Instrument.tick.Goals as goal

pub returns-in-Scanning : goal.returns-in-Scanning
returns-in-Scanning g c = λ log h.
    let s = rw (← c.self.view_is) at h in
    let is = c.in-Scanning.ensures.answer (scan_acts log) (c.scanner.ensures.stands log s.layers.stands) in
    let sampled = counts c.apply.ensures.applied (runs_at_start s).layers in
    rw (← is) (c.take_requests.ensures.ran log _ (record { layers = sampled; held = s.held; path = s.path }) (omega arith))

pub returns-in-Idle : goal.returns-in-Idle
returns-in-Idle g c = λ log h.
    let s = rw (← c.self.view_is) at h in
    let is = c.in-Idle.ensures.answer (scan_acts log) (c.scanner.ensures.stands log s.layers.stands) in
    rw (← is) (record { stands = h; raises = no_act_raises_none log })

pub returns-in-Waiting : goal.returns-in-Waiting
returns-in-Waiting g c = λ log h.
    let s = rw (← c.self.view_is) at h in
    let is = c.in-Waiting.ensures.answer (scan_acts log) (c.scanner.ensures.stands log s.layers.stands) in
    rw (← is) (record { stands = h; raises = no_act_raises_none log })
