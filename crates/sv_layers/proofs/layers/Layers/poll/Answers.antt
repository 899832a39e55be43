use Rattle.std.proofs.Common.{refl}
use Rattle.sv_logs.proofs.Since.{iff_transitive}
use Rattle.sv_layers.specs.Act.{Polled}
use Rattle.sv_layers.proofs.SameRequests.{same_status}
use Rattle.sv_layers.proofs.layers.Layers.poll.Goals as goal

pub returns-clause-status : goal.returns-clause-status
returns-clause-status g c = λ log h k.
    let j = rw (← c.self.view_is) at h.joined in
    iff_transitive (c.poll-status.ensures.answer h.status_log j.status k) (same_status log h.status_log h.are k).0

pub returns-clause-applied : goal.returns-clause-applied
returns-clause-applied g c = λ log h.
    let j = rw (← c.self.view_is) at h.joined in
    rw (← c.self.view_is) (c.update_status.ensures.applied log Polled (record {
      status_log = h.status_log;
      are = h.are;
      joined = record {
        exchange = j.exchange;
        errors = j.errors;
        registers = j.registers;
        standard = j.standard;
        status = c.poll-status.ensures.stands _ j.status;
        scanner = j.scanner;
        service = j.service;
        waits = j.waits;
      };
    }) refl)
