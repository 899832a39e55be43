-- No unit of a message is executed before the message has ended. Every act of a call or an event
-- keeps this invariant, and so does every step of the instrument.
use Rattle.std.proofs.Common.{◌≡◌, ℕ, ◌+◌, ◌<◌, ◌≤◌, Bool, true, false, cond, List, [], ◌∷◌, ◌++◌, length, map, Option, Some, None, Result, Ok, Err, refl, sym, subst, ◌∙◌, inl, inr, ◌⊎◌, arith, lt-ltb}
use Rattle.std.specs.Prelude.{not, codes, ⊤, ◌&&◌, ◌==◌}
use Rattle.std.specs.List.{onto_first as onto}
use Rattle.std.proofs.lemmas.Bool.{cases_Bool, ltb-true}
use Rattle.sv_errors.specs.declared.code.Code.{Code}
use Rattle.sv_errors.specs.declared.source.Source.TheVariants.{Bus}
use Rattle.sv_scan.specs.Counted.{trigger_fault, init_fault, read_fault, setting_fault}
use Rattle.sv_scan.specs.Scan.{readings}
use Rattle.sv_header.specs.declared.command.Action.{Action}
use Rattle.sv_header.specs.declared.command.Action.TheVariants as action
use Rattle.sv_header.specs.declared.command.Question.{Question}
use Rattle.sv_header.specs.declared.command.Question.TheVariants as question
use Rattle.sv_exchange.specs.Exchange.{ExchangeAct, Accepted, TextDropped, Overran, UnitDone, Answered, AnswersDropped, Finished, Interrupted, ResponseRead, Symbol, Byte, End, end_mark, text, messages, messages_finished, current, units_done, has_overrun, has_dropped, all_answers, answers, has_ended, is_long, next_unit, fits_response, due, due_unit, Due, NothingDue, OverrunDue, InterruptDue, UnitDue, FinishDue}
use Rattle.sv_exchange.specs.Limits.{max_message}
use Rattle.sv_layers.specs.declared.change.Awaited.{Awaited}
use Rattle.sv_layers.specs.declared.change.Awaited.TheVariants as awaited
use Rattle.sv_layers.specs.Act.{Act as InstrumentAct, Exchanged, Purged, Held, exchange_acts}
use Rattle.sv_layers.specs.Condition.{effective_acts}
use Rattle.sv_instrument.specs.declared.command.order.Order.{Order}
use Rattle.sv_instrument.specs.declared.command.order.Order.TheVariants as order
use Rattle.sv_instrument.specs.HeldUnit.{held_unit}
use Rattle.sv_instrument.specs.QueryResponse.{readings_text}
use Rattle.sv_instrument.specs.CommandEffect.{done, after_answering, unless, after_configure, after_query, question_fault, Replies, after_action, Performs}
use Rattle.sv_instrument.specs.Step.{after_release, Does, StepOf, IsStep}
use Rattle.sv_instrument.proofs.Dues.{unit_is_next}
use Rattle.sv_laws.proofs.Cuts.LongerText.{none_longer, onto_keeps_count, messages_are_nonempty, part_length}

-- ---- more text

no_fewer_messages : (old new : List Symbol) → length (messages old) ≤ length (messages (old ++ new))
no_fewer_messages [] new = let some = messages_are_nonempty new in omega (arith, some)
no_fewer_messages (End ∷ old) new = let least = no_fewer_messages old new in omega (arith, least)
no_fewer_messages (Byte b ∷ old) new = at (b == 10) (no_fewer_messages old new)
  where
    at : (t : Bool) → length (messages old) ≤ length (messages (old ++ new))
        → length (cond t ([] ∷ messages old) (onto b (messages old)))
        ≤ length (cond t ([] ∷ messages (old ++ new)) (onto b (messages (old ++ new))))
    at true least = omega (arith, least)
    at false least =
        let one = onto_keeps_count b (messages old) (messages_are_nonempty old) in
        let other = onto_keeps_count b (messages (old ++ new)) (messages_are_nonempty (old ++ new)) in omega (arith, least, one, other)

text_keeps_ended : (bytes : List ℕ) (ended : Bool) (acts : List ExchangeAct) → has_ended acts ≡ true
    → has_ended (Accepted bytes ended ∷ acts) ≡ true
text_keeps_ended bytes ended acts e =
    let was = ltb-true (messages_finished acts + 1) (length (messages (text acts))) e in
    let least = no_fewer_messages (text acts) (map Byte bytes ++ end_mark ended) in
    lt-ltb (messages_finished acts + 1) (length (messages (text acts ++ (map Byte bytes ++ end_mark ended)))) (omega (arith, was, least))

text_keeps_long : (bytes : List ℕ) (ended : Bool) (acts : List ExchangeAct) → is_long acts ≡ true
    → is_long (Accepted bytes ended ∷ acts) ≡ true
text_keeps_long bytes ended acts e =
    let was : max_message < part_length (messages (text acts)) (messages_finished acts) =
    ltb-true max_message (part_length (messages (text acts)) (messages_finished acts)) e in
    let least = none_longer (text acts) (map Byte bytes ++ end_mark ended) (messages_finished acts) in
    lt-ltb max_message (part_length (messages (text acts ++ (map Byte bytes ++ end_mark ended))) (messages_finished acts))
    (omega (arith, was, least))

-- ---- the invariant

abbrev pub IsEnded : List InstrumentAct → Type 0
IsEnded acts = has_ended (exchange_acts acts) ≡ true

-- No unit of the current message was executed, and the message has no answers.
abbrev pub NothingExecuted : List ExchangeAct → Type 0
NothingExecuted acts = (units_done acts ≡ 0) × (has_dropped acts ≡ false) × (all_answers acts ≡ [])

-- If the current message was reported as too long, it is too long.
abbrev pub IsLong : List InstrumentAct → Type 0
IsLong acts = has_overrun (current (exchange_acts acts)) ≡ true → is_long (exchange_acts acts) ≡ true

-- The invariant: the current message has ended; or no unit of it was executed, and no unit is held.
abbrev pub Sound : List InstrumentAct → Type 0
Sound acts = (IsEnded acts ⊎ ((held_unit acts ≡ None) × NothingExecuted (current (exchange_acts acts)))) × IsLong acts

-- The current message has ended.
abbrev Going : List InstrumentAct → Type 0
Going acts = IsEnded acts × IsLong acts

going_is_sound : (acts : List InstrumentAct) → Going acts → Sound acts
going_is_sound acts g = (inl g.0, g.1)

-- An act that a call or an event can add. It doesn't execute or hold a unit, add or drop answers,
-- finish a message, or report a message as too long.
abbrev pub IsTame : InstrumentAct → Type 0
IsTame (Exchanged Overran) = ⊥
IsTame (Exchanged UnitDone) = ⊥
IsTame (Exchanged (Answered answer)) = ⊥
IsTame (Exchanged AnswersDropped) = ⊥
IsTame (Exchanged Finished) = ⊥
IsTame (Held what) = ⊥
IsTame _ = ⊤

pub sound_tame : (act : InstrumentAct) (acts : List InstrumentAct) → IsTame act → Sound acts → Sound (act ∷ acts)
sound_tame (Exchanged (Accepted bytes ended)) acts tame (inl e, long) =
    (inl (text_keeps_ended bytes ended (exchange_acts acts) e), λ h. text_keeps_long bytes ended (exchange_acts acts) (long h))
sound_tame (Exchanged (Accepted bytes ended)) acts tame (inr fresh, long) =
    (inr fresh, λ h. text_keeps_long bytes ended (exchange_acts acts) (long h))
sound_tame (Exchanged TextDropped) acts tame s = (inr (refl, (refl, refl, refl)), λ h. absurd cc)
sound_tame (Exchanged Interrupted) acts tame s = s
sound_tame (Exchanged (ResponseRead count)) acts tame s = s
sound_tame (Exchanged _) acts tame s = absurd tame
sound_tame Purged acts tame s = (inr (refl, (refl, refl, refl)), λ h. absurd cc)
sound_tame (Held what) acts tame s = absurd tame
sound_tame _ acts tame s = s

-- ---- orders

answering_going : (answer : List ℕ) (acts : List InstrumentAct) → Going acts → Going (after_answering answer acts)
answering_going answer acts g = elim (cases_Bool (fits_response (answers (exchange_acts acts)) answer)) [
  | inl e ↦ rw e g
  | inr e ↦ rw e g
]

unless_going : (fault : Option Code) (acts log : List InstrumentAct) → Going acts → Going log → Going (unless fault acts log)
unless_going (Some code) acts log g h = h
unless_going None acts log g h = g

query_going : (asked : Question) (log : List InstrumentAct) → Going log → Going (after_query asked log)
query_going question.StandardEvents log g = g
query_going question.Error log g = g
query_going (question.Events name) log g = g
query_going _ log g = g

replies_going : (fault : Option Code) (asked : Question) (log new : List InstrumentAct) → Going log → Replies fault asked log new
    → Going new
replies_going (Some code) asked log new g is = subst Going (sym is) g
replies_going None asked log new g (answer, says, is) =
    subst Going (sym is) (answering_going answer (done (after_query asked log)) (query_going asked log g))

action_going : (what : Action) (log : List InstrumentAct) → Going log → Going (after_action what log)
action_going action.Trigger log g = unless_going (trigger_fault (effective_acts log) Bus) _ log g g
action_going action.Initiate log g = unless_going (init_fault (effective_acts log)) _ log g g
action_going action.Read log g = unless_going (read_fault (effective_acts log)) _ log g g
action_going _ log g = g

configure_going : (list : Option (List ℕ)) (log : List InstrumentAct) → Going log → Going (after_configure list log)
configure_going None log g = g
configure_going (Some channels) log g = g

performs_going : (what : Order) (log new : List InstrumentAct) → Going log → Performs what log new → Going new
performs_going (order.Do what) log new g is = subst Going (sym is) (action_going what log g)
performs_going (order.Ask asked) log new g replies = replies_going (question_fault asked log) asked log new g replies
performs_going (order.Apply change) log new g is = subst Going (sym is) g
performs_going (order.Set given) log new g is =
    subst Going (sym is) (unless_going (setting_fault (effective_acts log) given) _ log g g)
performs_going (order.Configure list) log new g is = subst Going (sym is) (configure_going list log g)
performs_going (order.Measure list) log new g is = subst Going (sym is) (configure_going list log g)

does_going : (outcome : Result Order Code) (log new : List InstrumentAct) → Going log → Does outcome log new → Going new
does_going (Ok what) log new g does = performs_going what log new g does
does_going (Err code) log new g is = subst Going (sym is) g

-- ---- a step

release_going : (what : Awaited) (log : List InstrumentAct) → Going log → Going (after_release what log)
release_going awaited.Nothing log g = g
release_going awaited.One log g = answering_going (codes "1") (done log) g
release_going awaited.Readings log g = answering_going (readings_text (readings (effective_acts log))) (done log) g

due_unit_is_no_overrun : (next : Option (List ℕ)) (interrupts ended : Bool) → due_unit next interrupts ended ≡ OverrunDue → ⊥
due_unit_is_no_overrun (Some unit) true ended e = absurd cc
due_unit_is_no_overrun (Some unit) false ended e = absurd cc
due_unit_is_no_overrun None interrupts true e = absurd cc
due_unit_is_no_overrun None interrupts false e = absurd cc

overrun_due_is_long : (long told : Bool) (next : Option (List ℕ)) (interrupts ended : Bool)
    → cond (long && not told) OverrunDue (due_unit next interrupts ended) ≡ OverrunDue → long ≡ true
overrun_due_is_long true told next interrupts ended e = refl
overrun_due_is_long false told next interrupts ended e = absurd (due_unit_is_no_overrun next interrupts ended e)

next_ended : (ended rest : Bool) (found : Option (List ℕ)) (unit : List ℕ) → cond (ended && rest) found None ≡ Some unit → ended ≡ true
next_ended true rest found unit e = refl
next_ended false rest found unit e = absurd cc

next_unit_means_ended : (acts : List ExchangeAct) (unit : List ℕ) → next_unit acts ≡ Some unit → has_ended acts ≡ true
next_unit_means_ended acts unit e = next_ended (has_ended acts) _ _ unit e

step_by : (held : Option Awaited) (next : Due) (log new : List InstrumentAct) → held_unit log ≡ held → due (exchange_acts log) ≡ next
    → StepOf held next log new → Sound log → Sound new
step_by (Some what) next log new held is (idle, so) (inl e, long) =
    subst Sound (sym so) (going_is_sound (after_release what log) (release_going what log (e, long)))
step_by (Some what) next log new held is (idle, so) (inr (none, fresh), long) =
    absurd (let z : None ≡ Some what = sym none ∙ held in cc)
step_by None NothingDue log new held is step s = absurd step
step_by None OverrunDue log new held is so s =
    let long = overrun_due_is_long (is_long (exchange_acts log)) (has_overrun (current (exchange_acts log))) _ _ _ is in
    subst Sound (sym so) (s.0, λ h. long)
step_by None InterruptDue log new held is (unit, next, (path, behind, outcome, root, read, does)) s =
    going_is_sound new (does_going outcome _ new (next_unit_means_ended (exchange_acts log) unit next, s.1) does)
step_by None (UnitDue unit) log new held is (path, behind, outcome, root, read, does) s =
    let next = unit_is_next (exchange_acts log) unit (sym is) in
    going_is_sound new (does_going outcome log new (next_unit_means_ended (exchange_acts log) unit next, s.1) does)
step_by None FinishDue log new held is so s = subst Sound (sym so) (inr (held, (refl, refl, refl)), λ h. absurd cc)

pub step_sound : (log new : List InstrumentAct) → IsStep log new → Sound log → Sound new
step_sound log new step s = step_by (held_unit log) (due (exchange_acts log)) log new refl refl step s
