use Rattle.sv_instrument.proofs.Counting.{count_exact}
use Rattle.sv_instrument.proofs.instrument.Instrument.take_requests.Goals as goal

pub returns-clause-ran : goal.returns-clause-ran
returns-clause-ran g c = λ start log h few.
    let s = rw (← c.self.view_is) at h in
    record {
      stands = record { layers = c.take_requests.ensures.stands log s.layers.stands; held = s.held; path = s.path };
      raises = rw c.take_requests.ensures.count (count_exact s.layers few);
    }
