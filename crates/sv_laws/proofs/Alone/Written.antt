-- After a write with END of one query, the query's answer becomes the response.
use Rattle.std.proofs.Common.{◌≡◌, ◌≢◌, ℕ, suc, ◌<◌, ◌≤◌, true, List, [], ◌∷◌, ◌++◌, length, Option, None, Ok, refl, sym, ap, subst, ◌∙◌, arith}
use Rattle.std.specs.Prelude.{map, replicate, take, reverse, ◌↔◌}
use Rattle.sv_errors.specs.declared.code.Code.{Code}
use Rattle.sv_header.specs.declared.command.Question.{Question}
use Rattle.sv_header.specs.declared.command.Question.TheVariants as question
use Rattle.sv_exchange.specs.Exchange.{ExchangeAct, Accepted, UnitDone, Answered, Finished, units, units_done, current, message, answers, fits_response, response, due, UnitDue, FinishDue}
use Rattle.sv_exchange.specs.Limits.{max_message, max_response}
use Rattle.sv_layers.specs.declared.change.RegisterChange.TheVariants.{ReadEvents}
use Rattle.sv_layers.specs.declared.change.StatusChange.TheVariants.{Register}
use Rattle.sv_layers.specs.Act.{Act as InstrumentAct, Exchanged, EntryTaken, exchange_acts, scan_acts, queue_acts, StatusChanged}
use Rattle.sv_layers.specs.Standard.{Stands}
use Rattle.sv_logs.proofs.Since.{iff_transitive}
use Rattle.sv_instrument.specs.declared.command.order.Order.TheVariants as order
use Rattle.sv_instrument.specs.HeldUnit.{held_unit}
use Rattle.sv_instrument.specs.Path.{Leaves, units_begun, one_if_held, IsPath}
use Rattle.sv_instrument.specs.QueryResponse.{Says}
use Rattle.sv_instrument.specs.CommandEffect.{done, after_answering, after_query, question_fault, Replies}
use Rattle.sv_instrument.specs.Step.{IsStep}
use Rattle.sv_instrument.proofs.NextStep.{step_of}
use Rattle.sv_history.specs.declared.event.Config.{Config}
use Rattle.sv_history.specs.Act.{Act, Applied, of}
use Rattle.sv_history.specs.Settling.{SettlesIn}
use Rattle.sv_history.proofs.Projections.{of_device_acts}
use Rattle.sv_laws.specs.QueryAlone.{IsQuery, reported}
use Rattle.sv_laws.proofs.Cuts.SameStatus.{same_status_refl, text_keeps_same_status, same_status_sym}
use Rattle.sv_laws.proofs.Cuts.SameInstrument.{says_same, question_fault_same, taken_acts, after_query_adds_taken}
use Rattle.sv_laws.proofs.Cuts.FirstPart.{Resting}
use Rattle.sv_laws.proofs.Alone.Texts.{Left, Over, answered, write_with_end_is_left, unit_due, short_answer_fits, finish_due, finishing_shows_response, first_short}
use Rattle.sv_laws.proofs.Alone.Steps.{plain_act_keeps_standard, Stage, happened, stage_after_acts, step_next, finish_step, finishes_all_messages}

-- ---- what a query removes or clears

query_keeps_exchange : (asked : Question) (log : List InstrumentAct) → exchange_acts (taken_acts asked ++ log) ≡ exchange_acts log
query_keeps_exchange question.StandardEvents log = refl
query_keeps_exchange question.Error log = refl
query_keeps_exchange (question.Events name) log = refl
query_keeps_exchange _ log = refl

query_keeps_scan : (asked : Question) (log : List InstrumentAct) → scan_acts (taken_acts asked ++ log) ≡ scan_acts log
query_keeps_scan question.StandardEvents log = refl
query_keeps_scan question.Error log = refl
query_keeps_scan (question.Events name) log = refl
query_keeps_scan _ log = refl

query_keeps_queue : (asked : Question) (log : List InstrumentAct) → asked ≢ question.Error
    → queue_acts (taken_acts asked ++ log) ≡ queue_acts log
query_keeps_queue question.StandardEvents log other = refl
query_keeps_queue question.Error log other = absurd (other refl)
query_keeps_queue (question.Events name) log other = refl
query_keeps_queue _ log other = refl

query_keeps_reported : (asked : Question) (log : List InstrumentAct) → reported (taken_acts asked ++ log) ≡ reported log
query_keeps_reported question.StandardEvents log = refl
query_keeps_reported question.Error log = refl
query_keeps_reported (question.Events name) log = refl
query_keeps_reported _ log = refl

query_keeps_standard : (asked : Question) (log : List InstrumentAct) → asked ≢ question.StandardEvents → (k : ℕ)
    → Stands k (taken_acts asked ++ log) ↔ Stands k log
query_keeps_standard question.StandardEvents log other k = absurd (other refl)
query_keeps_standard question.Error log other k = plain_act_keeps_standard k EntryTaken log tt
query_keeps_standard (question.Events name) log other k = plain_act_keeps_standard k (StatusChanged (Register name ReadEvents)) log tt
query_keeps_standard _ log other k = ((λ h. h), (λ h. h))

-- ---- the unit

abbrev pub accepted : List ℕ → List InstrumentAct → List InstrumentAct
accepted sent acts = Exchanged (Accepted sent true) ∷ acts

abbrev pub answer_acts : Question → List ℕ → List InstrumentAct
answer_acts asked answer = Exchanged (Answered answer) ∷ Exchanged UnitDone ∷ taken_acts asked

-- Message exchange is at rest. The query fits in one write and can be answered, and `answer` is its
-- answer, which fits in a response.
pub record Ready (asked : Question) (sent answer : List ℕ) (acts : List InstrumentAct) : Type 0 where
  pub left : Left ([] ∷ []) (exchange_acts acts)
  pub held : held_unit acts ≡ None
  pub none : response (exchange_acts acts) ≡ []
  pub query : IsQuery (order.Ask asked) sent
  pub can : question_fault asked acts ≡ None
  pub says : Says asked acts answer
  pub short : length sent ≤ max_message
  pub fits : length answer < max_response

pub first_unit_is_at_root : (acts : List InstrumentAct) → units_done (current (exchange_acts acts)) ≡ 0 → held_unit acts ≡ None
    → IsPath acts []
first_unit_is_at_root acts none held =
    let now : one_if_held (held_unit acts) ≡ 0 = ap one_if_held held in
    let begun : units_begun acts ≡ 0 = omega (arith, none, now) in
    subst (λ (n : ℕ). Leaves (reverse (take n (units (message (exchange_acts acts))))) []) (sym begun) refl

query_adds_answer : (asked : Question) (answer : List ℕ) (acts : List InstrumentAct) (fault : Option Code) → fault ≡ None
    → Says asked acts answer → fits_response (answers (UnitDone ∷ exchange_acts acts)) answer ≡ true
    → Replies fault asked acts (answer_acts asked answer ++ acts)
query_adds_answer asked answer acts fault none says fits =
    let left : after_answering answer (done (after_query asked acts)) ≡ after_answering answer (done (taken_acts asked ++ acts)) =
    ap (λ (l : List InstrumentAct). after_answering answer (done l)) (after_query_adds_taken asked acts) in
    let room : fits_response (answers (UnitDone ∷ exchange_acts (taken_acts asked ++ acts))) answer ≡ true =
    ap (λ (l : List ExchangeAct). fits_response (answers (UnitDone ∷ l)) answer) (query_keeps_exchange asked acts) ∙ fits in
    let is : answer_acts asked answer ++ acts ≡ after_answering answer (done (taken_acts asked ++ acts)) = rw room refl in
    subst (λ (f : Option Code). Replies f asked acts (answer_acts asked answer ++ acts)) (sym none) (answer, says, is ∙ sym left)

-- After the write, the message of the query is the first one that isn't finished.
write_leaves_query : (asked : Question) (sent answer : List ℕ) (acts : List InstrumentAct) (r : Ready asked sent answer acts)
    → Left (r.query.message ∷ [] ∷ replicate r.query.lines []) (exchange_acts (accepted sent acts))
write_leaves_query asked sent answer acts r = write_with_end_is_left sent ([] ∷ replicate r.query.lines []) r.query.message
    (exchange_acts acts) r.left
    r.query.cut

message_short : (asked : Question) (sent answer : List ℕ) (acts : List InstrumentAct) (r : Ready asked sent answer acts)
    → length r.query.message ≤ max_message
message_short asked sent answer acts r =
    let least = first_short sent r.query.message ([] ∷ replicate r.query.lines []) r.query.cut in
    let most = r.short in omega (arith, least, most)

unit_step : (asked : Question) (sent answer : List ℕ) (acts : List InstrumentAct) → Ready asked sent answer acts
    → IsStep (accepted sent acts) (answer_acts asked answer ++ accepted sent acts)
unit_step asked sent answer acts r =
    let now = accepted sent acts in
    let same = same_status_sym now acts (text_keeps_same_status sent true acts acts (same_status_refl acts)) in
    let left = write_leaves_query asked sent answer acts r in
    let fault : question_fault asked now ≡ None = sym (question_fault_same asked acts now same) ∙ r.can in
    step_of now (answer_acts asked answer ++ now) None (UnitDue r.query.unit) (sym r.held)
    (sym (unit_due r.query.message [] r.query.unit (replicate r.query.lines []) (exchange_acts now) left
    (message_short asked sent answer acts r) r.query.one r.none)) (
      [],
      r.query.path,
      Ok (order.Ask asked),
      first_unit_is_at_root now left.done r.held,
      r.query.reads,
      query_adds_answer asked answer now (question_fault asked now) fault (says_same asked acts now same answer r.says)
          (short_answer_fits answer (r.query.message ∷ [] ∷ replicate r.query.lines []) (exchange_acts now) left r.fits),
    )

-- ---- all steps

-- The steps that are due lead to a log in which the answer is the response.
pub record Responds (c : ℕ) (config : Config) (asked : Question) (answer : List ℕ) (base log : List Act) (acts : List InstrumentAct) :
    Type 0 where
  pub end : List Act
  pub last : List InstrumentAct
  pub steps : ℕ
  pub settles : SettlesIn steps config log end
  pub stage : Stage base end last
  pub over : Over 0 (answer ++ 10 ∷ []) (exchange_acts last)
  pub held : held_unit last ≡ None
  pub mine : of c end ≡ of c log
  pub codes : reported last ≡ reported acts
  pub queue : asked ≢ question.Error → queue_acts last ≡ queue_acts acts
  pub stands : asked ≢ question.StandardEvents → (k : ℕ) → Stands k last ↔ Stands k acts

pub responds : (c : ℕ) (config : Config) (asked : Question) (sent answer : List ℕ) (base log : List Act) (acts : List InstrumentAct)
    → Resting config base → Ready asked sent answer acts → Stage base log (accepted sent acts)
    → Responds c config asked answer base log acts
responds c config asked sent answer base log acts rest r s =
    let now = accepted sent acts in
    let adds = answer_acts asked answer in
    let over : List InstrumentAct = Exchanged Finished ∷ [] in
    let left = write_leaves_query asked sent answer acts r in
    let same : exchange_acts (adds ++ now) ≡ answered answer (exchange_acts now) =
    ap (λ (l : List ExchangeAct). answered answer l) (query_keeps_exchange asked now) in
    let finish : due (exchange_acts (adds ++ now)) ≡ FinishDue =
    ap due same ∙ finish_due r.query.message [] r.query.unit answer (replicate r.query.lines []) (exchange_acts now) left
    (message_short asked sent answer acts r) r.query.one in
    let first = stage_after_acts base log adds now s (query_keeps_scan asked now) in
    let second = stage_after_acts base (happened adds log) over (adds ++ now) first refl in
    let done_now : Over r.query.lines (answer ++ 10 ∷ []) (exchange_acts (over ++ (adds ++ now))) =
    subst (λ (l : List ExchangeAct). Over r.query.lines (answer ++ 10 ∷ []) (Finished ∷ l)) (sym same)
    (finishing_shows_response r.query.lines r.query.message answer (exchange_acts now) left) in
    let more = finishes_all_messages c r.query.lines config base (happened over (happened adds log)) (over ++ (adds ++ now))
    (answer ++ 10 ∷ []) rest
    second done_now refl in
    record {
      end = more.end;
      last = more.last;
      steps = suc (suc more.steps);
      settles = (
        happened adds log,
        step_next config base log adds now rest s (unit_step asked sent answer acts r),
        (
          happened over (happened adds log),
          step_next config base (happened adds log) over (adds ++ now) rest first (finish_step (adds ++ now) refl finish),
          more.settles,
        ),
      );
      stage = more.stage;
      over = more.over;
      held = more.held;
      mine = more.mine ∙ of_device_acts c (map Applied adds) log;
      codes = more.codes ∙ query_keeps_reported asked now;
      queue = λ other. more.queue ∙ query_keeps_queue asked now other;
      stands = λ other k. iff_transitive (more.stands k) (iff_transitive (plain_act_keeps_standard k (Exchanged Finished) (adds ++ now) tt)
          (iff_transitive (plain_act_keeps_standard k (Exchanged (Answered answer)) (Exchanged UnitDone ∷ taken_acts asked ++ now) tt)
          (iff_transitive (plain_act_keeps_standard k (Exchanged UnitDone) (taken_acts asked ++ now) tt)
          (iff_transitive (query_keeps_standard asked now other k)
          (plain_act_keeps_standard k (Exchanged (Accepted sent true)) acts tt)))));
    }
