-- A step of the instrument adds the same acts to two logs that are the same but for how program
-- text was accepted.
use Rattle.std.proofs.Common.{◌≡◌, ℕ, Bool, true, false, List, [], ◌∷◌, ◌++◌, Option, Some, None, Result, Ok, Err, refl, sym, ap, subst, ◌∙◌, append_assoc}
use Rattle.std.specs.Prelude.{◌↔◌, codes, pos, length, decimal, if◌then◌else◌}
use Rattle.sv_errors.specs.declared.code.Code.{Code}
use Rattle.sv_errors.specs.declared.code.Code.TheVariants.{InputBufferOverrun, QueryInterrupted, QueryDeadlocked}
use Rattle.sv_errors.specs.declared.error_queue.QueueAct.{QueueAct}
use Rattle.sv_errors.specs.declared.source.Source.TheVariants.{Immediate, Bus}
use Rattle.sv_errors.specs.ErrorQueue.{entries, oldest}
use Rattle.sv_scan.specs.declared.acts.ScanAct.{ScanAct}
use Rattle.sv_scan.specs.declared.acts.ScanAct.TheVariants as scan
use Rattle.sv_scan.specs.declared.setting.Setting.TheVariants as setting
use Rattle.sv_scan.specs.Counted.{effective, setting_fault, init_fault, trigger_fault, read_fault}
use Rattle.sv_scan.specs.Scan.{readings}
use Rattle.sv_exchange.specs.Exchange.{Overran, UnitDone, TextDropped, Answered, AnswersDropped, Finished, Interrupted, text, answers, fits_response, due, Due, NothingDue, OverrunDue, InterruptDue, UnitDue, FinishDue}
use Rattle.sv_instrument.specs.declared.command.order.Order.{Order}
use Rattle.sv_instrument.specs.declared.command.order.Order.TheVariants as order
use Rattle.sv_header.specs.declared.command.Action.{Action}
use Rattle.sv_header.specs.declared.command.Action.TheVariants as action
use Rattle.sv_header.specs.declared.command.Question.{Question}
use Rattle.sv_header.specs.declared.command.Question.TheVariants as question
use Rattle.sv_header.specs.declared.command.SettingName.{SettingName}
use Rattle.sv_header.specs.declared.command.SettingName.TheVariants as name
use Rattle.sv_layers.specs.declared.change.Awaited.{Awaited}
use Rattle.sv_layers.specs.declared.change.Awaited.TheVariants as awaited
use Rattle.sv_layers.specs.declared.change.RegisterChange.TheVariants.{ReadEvents}
use Rattle.sv_layers.specs.declared.change.StatusChange.TheVariants.{ReadStandard, Register}
use Rattle.sv_layers.specs.Act.{Act, Exchanged, Purged, Scanned, Held, Reported, EntryTaken, Cleared, Preset, OpcAsked, exchange_acts, StatusChanged}
use Rattle.sv_layers.specs.Condition.{effective_acts}
use Rattle.sv_instrument.specs.HeldUnit.{held_unit}
use Rattle.sv_instrument.specs.Path.{IsPath}
use Rattle.sv_instrument.specs.QueryResponse.{IsWord, readings_text, oldest_text, value_text, Says}
use Rattle.sv_instrument.specs.CommandEffect.{after_answering, unless, after_configure, after_query, question_fault, Replies, after_action, Performs}
use Rattle.sv_instrument.specs.Step.{after_release, Does, Starts, StepOf, IsStep}
use Rattle.sv_laws.proofs.Cuts.SameExchange.{act_keeps_same_text, answers_same, message_same, next_unit_same, due_same}
use Rattle.sv_laws.proofs.Cuts.SameStatus.{SameStatus, same_status_refl, act_keeps_same_status, same_status_sym, status_condition, idle_same, master_same}

-- ---- two logs

pub record SameInstrument (log other : List Act) : Type 0 where
  pub status : SameStatus log other
  pub texts : text (exchange_acts log) ≡ text (exchange_acts other)
  pub holds : held_unit log ≡ held_unit other

texts_act : (act : Act) (log other : List Act) → text (exchange_acts log) ≡ text (exchange_acts other)
    → text (exchange_acts (act ∷ log)) ≡ text (exchange_acts (act ∷ other))
texts_act (Exchanged act) log other same = act_keeps_same_text act (exchange_acts log) (exchange_acts other) same
texts_act Purged log other same = refl
texts_act _ log other same = same

holds_act : (act : Act) (log other : List Act) → held_unit log ≡ held_unit other → held_unit (act ∷ log) ≡ held_unit (act ∷ other)
holds_act (Held awaits) log other same = refl
holds_act (Exchanged UnitDone) log other same = refl
holds_act (Exchanged TextDropped) log other same = refl
holds_act Purged log other same = refl
holds_act _ log other same = same

pub same_instrument_refl : (log : List Act) → SameInstrument log log
same_instrument_refl log = record { status = same_status_refl log; texts = refl; holds = refl }

pub act_keeps_same_instrument : (act : Act) (log other : List Act) → SameInstrument log other → SameInstrument (act ∷ log) (act ∷ other)
act_keeps_same_instrument act log other v = record {
  status = act_keeps_same_status act log other v.status;
  texts = texts_act act log other v.texts;
  holds = holds_act act log other v.holds;
}

pub acts_keep_same_instrument : (adds log other : List Act) → SameInstrument log other → SameInstrument (adds ++ log) (adds ++ other)
acts_keep_same_instrument [] log other v = v
acts_keep_same_instrument (act ∷ adds) log other v = act_keeps_same_instrument act (adds ++ log) (adds ++ other)
    (acts_keep_same_instrument adds log other v)

-- The acts that lead from `log` to `new` can be added to `other` too, and `IsSuch` holds of the
-- result.
abbrev AddsAlike : List Act → List Act → List Act → (List Act → Type 0) → Type 0
AddsAlike log other new IsSuch = (adds : List Act) × (new ≡ adds ++ log) × IsSuch (adds ++ other)

behind_alike : (acts log other new : List Act) (IsSuch : List Act → Type 0) → AddsAlike (acts ++ log) (acts ++ other) new IsSuch
    → AddsAlike log other new IsSuch
behind_alike acts log other new IsSuch (adds, is, such) = (
  adds ++ acts,
  is ∙ sym (append_assoc adds acts log),
  subst IsSuch (sym (append_assoc adds acts other)) such,
)

-- ---- faults and answers

unless_alike : (fault also : Option Code) (acts log other new : List Act) → fault ≡ also → new ≡ unless fault (acts ++ log) log
    → AddsAlike log other new (λ there. there ≡ unless also (acts ++ other) other)
unless_alike fault also acts log other new same is =
    subst (λ (f : Option Code). AddsAlike log other new (λ there. there ≡ unless f (acts ++ other) other)) same (by_fault fault is)
  where
    by_fault : (f : Option Code) → new ≡ unless f (acts ++ log) log
        → AddsAlike log other new (λ there. there ≡ unless f (acts ++ other) other)
    by_fault (Some code) is = (Exchanged UnitDone ∷ Reported code ∷ [], is, refl)
    by_fault None is = (acts, is, refl)

abbrev answered_if : Bool → List ℕ → List Act → List Act
answered_if fits bytes log = if fits then Exchanged (Answered bytes) ∷ log
    else Reported QueryDeadlocked ∷ Exchanged AnswersDropped ∷ log

answered_alike : (bytes : List ℕ) (log other new : List Act) → SameInstrument log other → new ≡ after_answering bytes log
    → AddsAlike log other new (λ there. there ≡ after_answering bytes other)
answered_alike bytes log other new v is =
    subst (λ (b : Bool). AddsAlike log other new (λ there. there ≡ answered_if b bytes other))
    (ap (λ (l : List (List ℕ)). fits_response l bytes) (answers_same (exchange_acts log) (exchange_acts other) v.status.exchange))
    (by_room (fits_response (answers (exchange_acts log)) bytes) is)
  where
    by_room : (b : Bool) → new ≡ answered_if b bytes log → AddsAlike log other new (λ there. there ≡ answered_if b bytes other)
    by_room true is = (Exchanged (Answered bytes) ∷ [], is, refl)
    by_room false is = (Reported QueryDeadlocked ∷ Exchanged AnswersDropped ∷ [], is, refl)

-- ---- queries

word_same : (P Q : ℕ → Type 0) (bytes : List ℕ) → ((k : ℕ) → P k ↔ Q k) → IsWord P bytes → IsWord Q bytes
word_same P Q bytes same h = record {
  word = h.word;
  fits = h.fits;
  text_is = h.text_is;
  bits = λ k. ((λ b. (same k).0 ((h.bits k).0 b)), (λ q. (h.bits k).1 ((same k).1 q)));
}

value_same : (what : SettingName) (log other : List Act) → SameStatus log other → value_text what log ≡ value_text what other
value_same name.StandardEnable log other v = ap decimal v.standards
value_same name.ServiceEnable log other v = ap decimal v.serves
value_same (name.Enable register) log other v = ap decimal (v.enables register)
value_same (name.Rise register) log other v = ap decimal (v.rises register)
value_same (name.Fall register) log other v = ap decimal (v.falls register)
value_same _ log other v = rw v.scanned refl

pub says_same : (asked : Question) (log other : List Act) → SameStatus log other → (bytes : List ℕ) → Says asked log bytes
    → Says asked other bytes
says_same question.StandardEvents log other v bytes h = word_same _ _ bytes v.stands h
says_same question.StatusByte log other v bytes h = word_same _ _ bytes (λ k. master_same k log other v) h
says_same question.Error log other v bytes h = h ∙ ap (λ (l : List QueueAct). oldest_text (oldest l)) v.queued
says_same question.ErrorCount log other v bytes h = h ∙ ap (λ (l : List QueueAct). decimal (length (entries l))) v.queued
says_same (question.Events name) log other v bytes h = word_same _ _ bytes (v.events name) h
says_same (question.Condition name) log other v bytes h = h ∙ ap decimal (status_condition name log other v.parts)
says_same question.Readings log other v bytes h = rw v.scanned at h
says_same (question.Value what) log other v bytes h = h ∙ value_same what log other v
says_same _ log other v bytes h = h

pub question_fault_same : (asked : Question) (log other : List Act) → SameStatus log other
    → question_fault asked log ≡ question_fault asked other
question_fault_same question.Readings log other v = rw v.scanned refl
question_fault_same asked log other v = refl

abbrev pub taken_acts : Question → List Act
taken_acts question.StandardEvents = StatusChanged ReadStandard ∷ []
taken_acts question.Error = EntryTaken ∷ []
taken_acts (question.Events name) = StatusChanged (Register name ReadEvents) ∷ []
taken_acts asked = []

pub after_query_adds_taken : (asked : Question) (log : List Act) → after_query asked log ≡ taken_acts asked ++ log
after_query_adds_taken question.StandardEvents log = refl
after_query_adds_taken question.Error log = refl
after_query_adds_taken (question.Events name) log = refl
after_query_adds_taken asked log = refl

replies_alike : (fault : Option Code) (asked : Question) (log other new : List Act) → SameInstrument log other
    → Replies fault asked log new → AddsAlike log other new (Replies fault asked other)
replies_alike (Some code) asked log other new v is = (Exchanged UnitDone ∷ Reported code ∷ [], is, refl)
replies_alike None asked log other new v (bytes, says, is) =
    let acts = Exchanged UnitDone ∷ taken_acts asked in
    let here = ap (λ (l : List Act). after_answering bytes (Exchanged UnitDone ∷ l)) (after_query_adds_taken asked log) in
    let there = ap (λ (l : List Act). after_answering bytes (Exchanged UnitDone ∷ l)) (after_query_adds_taken asked other) in
    let so = behind_alike acts log other new (λ l. l ≡ after_answering bytes (acts ++ other))
    (answered_alike bytes (acts ++ log) (acts ++ other) new (acts_keep_same_instrument acts log other v) (is ∙ here)) in
    (so.0, so.1, (bytes, says_same asked log other v.status bytes says, so.2 ∙ sym there))

-- ---- orders

abbrev default_acts : List Act
default_acts = Scanned (scan.Configure (setting.Count 1)) ∷ Scanned (scan.Configure (setting.Source Immediate))
    ∷ Scanned (scan.Configure (setting.Range (pos 10000000))) ∷ Scanned scan.Abort ∷ []

abbrev configured_acts : Option (List ℕ) → List Act
configured_acts None = default_acts
configured_acts (Some channels) = Scanned (scan.Configure (setting.List channels)) ∷ default_acts

after_configure_adds : (list : Option (List ℕ)) (log : List Act) → after_configure list log ≡ configured_acts list ++ log
after_configure_adds None log = refl
after_configure_adds (Some channels) log = refl

configures_alike : (front : List Act) (list : Option (List ℕ)) (log other new : List Act) → new ≡ front ++ after_configure list log
    → AddsAlike log other new (λ there. there ≡ front ++ after_configure list other)
configures_alike front list log other new is = (
  front ++ configured_acts list,
  is ∙ ap (λ (l : List Act). front ++ l) (after_configure_adds list log) ∙ sym (append_assoc front (configured_acts list) log),
  append_assoc front (configured_acts list) other ∙ ap (λ (l : List Act). front ++ l) (sym (after_configure_adds list other)),
)

counted_same : (log other : List Act) → SameInstrument log other → effective_acts log ≡ effective_acts other
counted_same log other v = ap (λ (l : List ScanAct). effective l) v.status.scanned

acts_alike : (what : Action) (log other new : List Act) → SameInstrument log other → new ≡ after_action what log
    → AddsAlike log other new (λ there. there ≡ after_action what other)
acts_alike action.ClearStatus log other new v is = (Exchanged UnitDone ∷ Cleared ∷ [], is, refl)
acts_alike action.Reset log other new v is = (Exchanged UnitDone ∷ Scanned scan.Reset ∷ [], is, refl)
acts_alike action.TellComplete log other new v is = (Exchanged UnitDone ∷ OpcAsked ∷ [], is, refl)
acts_alike action.Wait log other new v is = (Held awaited.Nothing ∷ [], is, refl)
acts_alike action.WaitAndTell log other new v is = (Held awaited.One ∷ [], is, refl)
acts_alike action.Trigger log other new v is = unless_alike _ _ (Exchanged UnitDone ∷ Scanned (scan.Trigger Bus) ∷ []) log other new
    (ap (λ (l : List ScanAct). trigger_fault l Bus) (counted_same log other v)) is
acts_alike action.Preset log other new v is = (Exchanged UnitDone ∷ Preset ∷ [], is, refl)
acts_alike action.Initiate log other new v is = unless_alike _ _ (Exchanged UnitDone ∷ Scanned scan.Init ∷ []) log other new
    (ap init_fault (counted_same log other v)) is
acts_alike action.Abort log other new v is = (Exchanged UnitDone ∷ Scanned scan.Abort ∷ [], is, refl)
acts_alike action.Read log other new v is =
    unless_alike _ _ (Held awaited.Readings ∷ Scanned scan.Init ∷ Scanned scan.Abort ∷ []) log other new
    (ap read_fault (counted_same log other v)) is

performs_alike : (what : Order) (log other new : List Act) → SameInstrument log other → Performs what log new
    → AddsAlike log other new (Performs what other)
performs_alike (order.Do what) log other new v is = acts_alike what log other new v is
performs_alike (order.Ask asked) log other new v is =
    subst (λ (f : Option Code). AddsAlike log other new (Replies f asked other)) (question_fault_same asked log other v.status)
    (replies_alike (question_fault asked log) asked log other new v is)
performs_alike (order.Apply change) log other new v is = (Exchanged UnitDone ∷ StatusChanged change ∷ [], is, refl)
performs_alike (order.Set given) log other new v is =
    unless_alike _ _ (Exchanged UnitDone ∷ Scanned (scan.Configure given) ∷ []) log other new
    (ap (λ (l : List ScanAct). setting_fault l given) (counted_same log other v)) is
performs_alike (order.Configure list) log other new v is = configures_alike (Exchanged UnitDone ∷ []) list log other new is
performs_alike (order.Measure list) log other new v is =
    configures_alike (Held awaited.Readings ∷ Scanned scan.Init ∷ []) list log other new is

-- ---- a unit

path_same : (log other : List Act) (path : List (List ℕ)) → SameInstrument log other → IsPath log path → IsPath other path
path_same log other path v h = rw (
  message_same (exchange_acts log) (exchange_acts other) v.status.exchange v.texts,
  v.status.exchange.done,
  v.holds,
) at h

does_alike : (outcome : Result Order Code) (log other new : List Act) → SameInstrument log other → Does outcome log new
    → AddsAlike log other new (Does outcome other)
does_alike (Err code) log other new v is = (Exchanged UnitDone ∷ Reported code ∷ [], is, refl)
does_alike (Ok what) log other new v is = performs_alike what log other new v is

starts_alike : (unit : List ℕ) (log other new : List Act) → SameInstrument log other → Starts unit log new
    → AddsAlike log other new (Starts unit other)
starts_alike unit log other new v (path, behind, outcome, is_path, is_read, does) =
    let so = does_alike outcome log other new v does in
    (so.0, so.1, (path, behind, outcome, path_same log other path v is_path, is_read, so.2))

-- ---- a step

released_alike : (what : Awaited) (log other new : List Act) → SameInstrument log other → new ≡ after_release what log
    → AddsAlike log other new (λ there. there ≡ after_release what other)
released_alike awaited.Nothing log other new v is = (Exchanged UnitDone ∷ [], is, refl)
released_alike awaited.One log other new v is =
    behind_alike (Exchanged UnitDone ∷ []) log other new (λ l. l ≡ after_answering (codes "1") (Exchanged UnitDone ∷ other))
    (answered_alike (codes "1") (Exchanged UnitDone ∷ log) (Exchanged UnitDone ∷ other) new
    (act_keeps_same_instrument (Exchanged UnitDone) log other v) is)
released_alike awaited.Readings log other new v is =
    let same = ap (λ (l : List ScanAct). readings_text (readings l)) (counted_same log other v) in
    let so = behind_alike (Exchanged UnitDone ∷ []) log other new
    (λ l. l ≡ after_answering (readings_text (readings (effective_acts log))) (Exchanged UnitDone ∷ other))
    (answered_alike (readings_text (readings (effective_acts log))) (Exchanged UnitDone ∷ log) (Exchanged UnitDone ∷ other) new
    (act_keeps_same_instrument (Exchanged UnitDone) log other v) is) in
    (so.0, so.1, so.2 ∙ ap (λ (bytes : List ℕ). after_answering bytes (Exchanged UnitDone ∷ other)) same)

step_of_alike : (holding : Option Awaited) (next : Due) (log other new : List Act) → SameInstrument log other
    → StepOf holding next log new → AddsAlike log other new (StepOf holding next other)
step_of_alike (Some what) next log other new v (idle, is) =
    let so = released_alike what log other new v is in
    (so.0, so.1, (sym (idle_same log other v.status.scanned) ∙ idle, so.2))
step_of_alike None NothingDue log other new v none = absurd none
step_of_alike None OverrunDue log other new v is = (Reported InputBufferOverrun ∷ Exchanged Overran ∷ [], is, refl)
step_of_alike None InterruptDue log other new v (unit, next, starts) =
    let acts = Reported QueryInterrupted ∷ Exchanged Interrupted ∷ [] in
    let so = behind_alike acts log other new (Starts unit (acts ++ other))
    (starts_alike unit (acts ++ log) (acts ++ other) new (acts_keep_same_instrument acts log other v) starts) in (
      so.0,
      so.1,
      (unit, sym (next_unit_same (exchange_acts log) (exchange_acts other) v.status.exchange v.texts) ∙ next, so.2),
    )
step_of_alike None (UnitDue unit) log other new v starts = starts_alike unit log other new v starts
step_of_alike None FinishDue log other new v is = (Exchanged Finished ∷ [], is, refl)

pub same_instrument_same_step : (log other new : List Act) → SameInstrument log other → IsStep log new
    → (adds : List Act) × (new ≡ adds ++ log) × IsStep other (adds ++ other)
same_instrument_same_step log other new v step =
    let so = step_of_alike (held_unit log) (due (exchange_acts log)) log other new v step in (
      so.0,
      so.1,
      subst (λ (o : Option Awaited). StepOf o (due (exchange_acts other)) other (so.0 ++ other)) v.holds
          (subst (λ (d : Due). StepOf (held_unit log) d other (so.0 ++ other))
          (due_same (exchange_acts log) (exchange_acts other) v.status.exchange v.texts) so.2),
    )

pub same_instrument_sym : (log other : List Act) → SameInstrument log other → SameInstrument other log
same_instrument_sym log other v =
    record { status = same_status_sym log other v.status; texts = sym v.texts; holds = sym v.holds }
