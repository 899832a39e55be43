use Rattle.std.proofs.Common.{rules, refl, ap, ◌∙◌, length}
use Rattle.std.proofs.lemmas.Result.{err_from_is_err_and}
use Rattle.sv_scan.specs.declared.acts.ScanAct.TheVariants.{Trigger}
use Rattle.sv_scan.specs.Representation.{run_state}
use Rattle.sv_scan.specs.Stands.{Contents}
use Rattle.sv_layers.specs.Act.{Scanned, scan_acts}
use Rattle.sv_layers.proofs.Lent.{scanner_stands}
use Rattle.sv_layers.proofs.Refusals.{no_fault_if_done, fault_of_refusal}
use Rattle.sv_layers.proofs.layers.Layers.trigger.Goals as goal

pub returns-clause-applied : goal.returns-clause-applied
returns-clause-applied g c = λ log h.
    let j = rw (← c.self.view_is) at h.joined in (
      no_fault_if_done _ (c.in_ok-trigger.ensures.answer (scan_acts log) (scanner_stands _ log (rw (← c.self.view_is) at h))),
      rw (← c.self.view_is) (c.update_status.ensures.applied log (Scanned (Trigger c.args.source)) (record {
        status_log = h.status_log;
        are = h.are;
        joined = record {
          exchange = j.exchange;
          errors = j.errors;
          registers = j.registers;
          standard = j.standard;
          status = j.status;
          scanner = search rules;
          service = j.service;
          waits = search rules;
        };
      }) refl),
    )

pub returns-clause-scanning : goal.returns-clause-scanning
returns-clause-scanning g c = (
  rw (← c.self.view_is) c.in_ok-trigger.ensures.scanning.0,
  ap (λ (held : Contents). run_state held.run (length held.readings)) c.update_status.ensures.scanner ∙ c.in_ok-trigger.ensures.scanning.1,
)

pub returns-in_err-trigger-clause-applied : goal.returns-in_err-trigger-clause-applied
returns-in_err-trigger-clause-applied g c = λ log h.
    let told = err_from_is_err_and c.from_residual.result c.from_residual.ensures.1 in
    rw (told.1, told.2) (fault_of_refusal _ _
    (c.in_err-trigger.ensures.answer (scan_acts log) (scanner_stands _ log (rw (← c.self.view_is) at h))))
