use Rattle.std.proofs.Common.{arith}
use Rattle.sv_instrument.proofs.Counting.{counts, runs_at_start}
use Rattle.sv_instrument.proofs.Paths.{accepted_path}
use Rattle.sv_instrument.proofs.instrument.Instrument.write.Goals as goal

pub returns : goal.returns
returns g c = λ log h.
    let s = rw (← c.self.view_is) at h in
    let right = c.self.invariant.1 in
    let path = accepted_path _ log c.args.bytes.now c.args.ended s right (rw (← c.self.view_is) at c.requires.«open») in
    let accepted = counts c.accept.ensures.applied (runs_at_start s).layers in
    c.take_requests.ensures.ran log _ (record { layers = accepted; held = s.held; path = path }) (omega arith)
