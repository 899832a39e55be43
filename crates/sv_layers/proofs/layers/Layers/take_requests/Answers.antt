use Rattle.std.proofs.Common.{refl}
use Rattle.sv_layers.proofs.layers.Layers.take_requests.Goals as goal

pub returns-clause-count : goal.returns-clause-count
returns-clause-count g c = rw (← c.self.view_is) refl

pub returns-clause-stands : goal.returns-clause-stands
returns-clause-stands g c = λ log h.
    let j = rw (← c.self.view_is) at h in
    let joined = j.joined in
    record {
      stands = record {
        status_log = j.status_log;
        are = j.are;
        joined = record {
          exchange = joined.exchange;
          errors = joined.errors;
          registers = joined.registers;
          standard = joined.standard;
          status = joined.status;
          scanner = joined.scanner;
          service = joined.service;
          waits = joined.waits;
        };
      };
      none = refl;
    }

pub returns-clause-value : goal.returns-clause-value
returns-clause-value g c = rw (← c.self.view_is) refl
