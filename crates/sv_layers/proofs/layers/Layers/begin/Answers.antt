use Rattle.std.proofs.Common.{◌≡◌, ℕ, Bool, not, ◌&&◌, ◌∷◌, ap, subst, ◌∙◌}
use Rattle.sv_errors.specs.Code.{standard_event_of}
use Rattle.sv_errors.specs.ErrorQueue.{is_full}
use Rattle.sv_status.specs.declared.standard_event.StandardAct.TheVariants.{Occur}
use Rattle.sv_status.specs.StandardEvent.{StandsFor as Standards}
use Rattle.sv_scan.specs.Condition.{bit}
use Rattle.sv_layers.proofs.Booleans.{cond_is_bit}
use Rattle.sv_layers.proofs.layers.Layers.begin.Goals as goal

pub returns-in-Scan-clause-stands : goal.returns-in-Scan-clause-stands
returns-in-Scan-clause-stands g c = rw c.in-Scan.is (λ at status_log h.
    let j = rw (← c.self.view_is) at h in
    record {
      exchange = j.exchange;
      errors = j.errors;
      registers = j.registers;
      standard = j.standard;
      status = j.status;
      scanner = c.act.ensures.stands at.scanner j.scanner;
      service = j.service;
      waits = ap (λ (b : Bool). b && not c.is_reset.result) j.waits ∙ ap (λ (b : Bool). at.waits && not b) c.is_reset.ensures;
    })

pub returns-in-Report-clause-stands : goal.returns-in-Report-clause-stands
returns-in-Report-clause-stands g c = rw c.in-Report.is (λ at status_log h.
    let j = rw (← c.self.view_is) at h in
    let overflow : c.mask_if.result ≡ bit 3 (is_full at.errors) =
    c.mask_if.ensures ∙ cond_is_bit 3 c.report-overflows.result ∙ ap (bit 3) (c.report-overflows.ensures.answer at.errors j.errors) in
    let class = subst (λ (w : ℕ). Standards c.occur.new.self (Occur w ∷ at.standard)) c.standard_event.ensures
    (c.occur.ensures _ j.standard) in
    let both = subst (λ (w : ℕ). Standards c.occur-in-Report.new.self (Occur w ∷ Occur (standard_event_of c.in-Report.code) ∷ at.standard))
    overflow (c.occur-in-Report.ensures _ class) in
    record {
      exchange = j.exchange;
      errors = c.report-overflows.ensures.stands at.errors j.errors;
      registers = j.registers;
      standard = both;
      status = j.status;
      scanner = j.scanner;
      service = j.service;
      waits = j.waits;
    })
