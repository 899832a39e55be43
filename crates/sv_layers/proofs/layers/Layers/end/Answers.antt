use Rattle.std.proofs.Common.{◌≡◌, ℕ, ◌+◌, ◌*◌, ◌%◌, ◌^◌, ◌&&◌, not, Bool, ◌∷◌, List, refl, ◌∙◌, ap, sym, subst, min, true, nat_lt}
use Rattle.sv_status.specs.declared.register_name.RegisterName.TheVariants.{Operation, Questionable, Limit}
use Rattle.sv_status.specs.declared.standard_event.StandardAct.{StandardAct}
use Rattle.sv_status.specs.declared.standard_event.StandardAct.TheVariants.{Occur}
use Rattle.sv_status.specs.StandardEvent.{StandsFor as Standards}
use Rattle.sv_scan.specs.declared.setting.State.{State}
use Rattle.sv_scan.specs.Counted.{is_idle}
use Rattle.sv_scan.specs.Condition as scan
use Rattle.sv_logs.proofs.Since.{iff_transitive}
use Rattle.sv_layers.specs.Act.{scan_acts}
use Rattle.sv_layers.specs.Change.{act_of}
use Rattle.sv_layers.specs.Condition.{effective_acts, summary}
use Rattle.sv_layers.specs.Inside.LayerLogs.{after_begin, idles, layer_logs}
use Rattle.sv_layers.proofs.Booleans.{same_bool, cond_is_bit, shifted_bit, same_unless_unequal, nonempty_by_length, from_bool_is_bit}
use Rattle.sv_layers.proofs.SameWords.{same_words}
use Rattle.sv_layers.proofs.SameSummaries.{same_summary}
use Rattle.sv_layers.proofs.LimitSummary.{summary_is}
use Rattle.sv_layers.proofs.Followed.{untouched_words_kept, begun_scans, begun_stands, stands_after_direct_effect, questionable_is}
use Rattle.sv_layers.proofs.layers.Layers.end.Goals as goal
use Rattle.std.proofs.lemmas.Bool.{or_parts}
use Rattle.std.specs.Prelude.{◌↔◌}
use Rattle.sv_errors.specs.ErrorQueue.{entries}
use Rattle.sv_status.specs.declared.status_byte.StatusAct.{StatusAct}
use Rattle.sv_status.specs.declared.status_byte.StatusAct.TheVariants.{Update}
use Rattle.sv_status.specs.StatusByte.{StandsFor as Statuses, IsRaised}
use Rattle.sv_scan.specs.Condition.{bit}
use Rattle.sv_exchange.specs.Exchange.{response, is_something}
use Rattle.sv_layers.specs.Inside.Representation.{IsSummary, IsStatus, max_count, own_status}
use Rattle.sv_layers.proofs.SameRequests.{same_raised}

pub returns-clause-applied : goal.returns-clause-applied
returns-clause-applied g c = λ log act b same.
    let h = b.joined in
    let other = act_of c.args.change.now in
    let j = rw (← c.self.view_is) at h in
    let scans = begun_scans _ act log j.scanner in
    let left = untouched_words_kept c.touched-touched.result act log (c.touched-touched.ensures.stands (scan_acts (act ∷ log)) scans) in
    let operates = c.conditions-now.ensures.operation (scan_acts (act ∷ log)) scans in
    let questions = c.conditions-now.ensures.questionable (scan_acts (act ∷ log)) scans in
    let limits = c.conditions-now.ensures.limit (scan_acts (act ∷ log)) scans in
    let operation = stands_after_direct_effect Operation other act log _ _ operates (same.0 Operation) (c.change_register.ensures _ _
    (c.compare.ensures _ _ (begun_stands Operation act log _ (j.registers Operation))
    (λ no. operates ∙ left.0 no ∙ sym (same_words Operation log).0))) in
    let before = begun_stands Limit act log _ (j.registers Limit) in
    let limit = stands_after_direct_effect Limit other act log _ _ limits (same.0 Limit) (c.change_register-2.ensures _ _
    (c.compare-2.ensures _ _ before (λ no. limits ∙ left.2 no ∙ sym (same_words Limit log).0))) in
    let stood : c.summary-stood.result ≡ summary Limit log = same_bool _ _ (c.summary-stood.ensures _ _ before)
    (iff_transitive (summary_is Limit (λ place. refl) log) (let is = same_summary Limit log in (is.1, is.0))) in
    let stands : c.summary-stands.result ≡ summary Limit (act ∷ log) = same_bool _ _ (c.summary-stands.ensures _ _ limit)
    (iff_transitive (summary_is Limit (λ place. refl) (act ∷ log)) (let is = same_summary Limit (act ∷ log) in (is.1, is.0))) in
    let word = questionable_is _ _ (effective_acts (act ∷ log)) (summary Limit (act ∷ log)) questions
    (ap (λ (w : ℕ). w * 2 ^ 9 % 2 ^ 16) c.from.ensures ∙ shifted_bit c.summary-stands.result ∙ ap (scan.bit 9) stands) in
    let questionable = stands_after_direct_effect Questionable other act log _ _ word (same.0 Questionable) (c.change_register-3.ensures _ _
    (c.compare-3.ensures _ _ (begun_stands Questionable act log _ (j.registers Questionable)) (λ no.
    let both = or_parts c.touched-touched.result.questionable _ no in
    let moved = sym stands ∙ sym (same_unless_unequal c.summary-stood.result c.summary-stands.result both.1) ∙ stood in
    word ∙ ap (λ (w : ℕ). w + scan.bit 9 (summary Limit (act ∷ log))) (left.1 both.0)
    ∙ ap (λ (b : Bool). scan.questionable (effective_acts log) + scan.bit 9 b) moved ∙ sym (same_words Questionable log).0))) in
    let begun = after_begin act (layer_logs log) in
    let idle : c.is_idle-idle.result ≡ idles begun =
    c.is_idle-idle.ensures ∙ ap (λ (s : State). is_idle s) (c.state.ensures.answer begun.scanner j.scanner) in
    let complete : c.mask_if.result ≡ scan.bit 0 (begun.waits && idles begun) =
    c.mask_if.ensures ∙ cond_is_bit 0 (c.self.inside.waits && c.is_idle-idle.result)
    ∙ ap (λ (b : Bool). scan.bit 0 (b && c.is_idle-idle.result)) j.waits ∙ ap (λ (b : Bool). scan.bit 0 (begun.waits && b)) idle in
    let occurred = subst (λ (w : ℕ). Standards c.occur.new.self (Occur w ∷ begun.standard)) complete
    (c.occur.ensures begun.standard j.standard) in
    let at = layer_logs (act ∷ log) in
    let standard : Standards c.change_standard.new.standard at.standard =
    subst (λ (acts : List StandardAct). Standards c.change_standard.new.standard acts) (same.1 _) (c.change_standard.ensures _ occurred) in
    let bits = c.mask_if-2.result + c.mask_if-3.result + c.mask_if-4.result + c.mask_if-5.result + c.mask_if-6.result in
    let available : c.mask_if-4.result ≡ bit 4 (is_something (response at.exchange)) =
    c.mask_if-4.ensures ∙ cond_is_bit 4 c.readable.result ∙ ap (bit 4) (c.readable.ensures.answer at.exchange j.exchange) in
    let errors : c.mask_if-6.result ≡ bit 2 (is_something (entries at.errors)) =
    c.mask_if-6.ensures ∙ cond_is_bit 2 (nat_lt 0 c.count.result)
    ∙ ap (λ (n : ℕ). bit 2 (nat_lt 0 n)) (c.count.ensures.answer at.errors j.errors)
    ∙ ap (bit 2) (nonempty_by_length (entries at.errors)) in
    let summed : IsSummary bits at = record {
      operates = c.summary.result;
      happened = c.summary-2.result;
      questioned = c.summary-3.result;
      operation = c.summary.ensures _ (at.registers Operation) operation;
      standard = c.summary-2.ensures at.standard standard;
      questionable = c.summary-3.ensures _ (at.registers Questionable) questionable;
      word_is = rw (
        c.mask_if-2.ensures ∙ cond_is_bit 7 c.summary.result,
        c.mask_if-3.ensures ∙ cond_is_bit 5 c.summary-2.result,
        available,
        c.mask_if-5.ensures ∙ cond_is_bit 3 c.summary-3.result,
        errors,
      ) refl;
    } in
    let status_log : List StatusAct = Update bits at.service ∷ own_status act b.status_log in
    let are : IsStatus (act ∷ log) status_log = (bits, b.status_log, summed, b.are, refl) in
    let status : Statuses c.update-raised.new.self status_log =
    subst (λ (n : ℕ). Statuses c.update-raised.new.self (Update bits n ∷ own_status act b.status_log)) j.service
    (c.update-raised.ensures.stands _ j.status) in
    let raised =
    subst (λ (n : ℕ). (c.update-raised.result ≡ true) ↔ IsRaised (Update bits n ∷ own_status act b.status_log)) j.service
    (c.update-raised.ensures.answer _ j.status) in
    record {
      stands = record {
        status_log = status_log;
        are = are;
        joined = record {
          exchange = j.exchange;
          errors = j.errors;
          registers = elim [ Operation ↦ operation | Questionable ↦ questionable | Limit ↦ limit ];
          standard = standard;
          status = status;
          scanner = j.scanner;
          service = j.service;
          waits = ap (λ (b : Bool). b && not c.is_idle-idle.result) j.waits ∙ ap (λ (b : Bool). begun.waits && not b) idle;
        };
      };
      raised = c.update-raised.result;
      requests = iff_transitive raised (same_raised (act ∷ log) status_log are);
      count = rw (← c.self.view_is) (c.saturating_add-self-inside.ensures
          ∙ ap (λ (n : ℕ). min (c.self.inside.requests + n) max_count) (c.from-2.ensures ∙ from_bool_is_bit c.update-raised.result));
    }
