use Rattle.std.proofs.Common.{refl}
use Rattle.sv_layers.specs.Act.{Purged}
use Rattle.sv_layers.proofs.layers.Layers.purge.Goals as goal

pub returns-clause-applied : goal.returns-clause-applied
returns-clause-applied g c = λ log h.
    let j = rw (← c.self.view_is) at h.joined in
    rw (← c.self.view_is) (c.update_status.ensures.applied log Purged (record {
      status_log = h.status_log;
      are = h.are;
      joined = record {
        exchange = c.clear.ensures.stands _ j.exchange;
        errors = j.errors;
        registers = j.registers;
        standard = j.standard;
        status = j.status;
        scanner = j.scanner;
        service = j.service;
        waits = refl;
      };
    }) refl)
