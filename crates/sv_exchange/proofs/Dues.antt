-- The values that message exchange has stored determine which of its steps is due.
use Rattle.std.proofs.Common.{◌≡◌, ℕ, zero, suc, ◌+◌, ◌-◌, ◌==◌, Bool, true, false, not, ◌&&◌, ◌||◌, cond, List, [], ◌∷◌, ◌++◌, length, drop, Option, Some, None, refl, sym, ap, ◌∙◌, nat_lt, slice_get, slice_index_or, get_or, arith}
use Rattle.std.proofs.lemmas.Bool.{lt-ltb, le-ltb}
use Rattle.std.proofs.lemmas.List.{length-drop, get_or-drop}
use Rattle.sv_exchange.specs.Exchange.{ExchangeAct, text, messages, message, messages_finished, current, units, units_done, has_ended, is_long, has_overrun, has_dropped, next_unit, answers, response, is_something, Due, OverrunDue, InterruptDue, UnitDue, FinishDue, due, due_unit}
use Rattle.sv_exchange.specs.Contents.{Contents, StandsFor, IsShown, IsUnitDue, symbols, following, readable_of, shown_by, next_of, unit_of}
use Rattle.sv_exchange.proofs.Cuts.{messages_some}
use Rattle.sv_exchange.specs.Limits.{max_message}

-- The current message has ended exactly if another one follows it.
ended_by : (parts : List (List ℕ)) (k : ℕ) (message : List ℕ) (ended : Bool) (later : List ℕ) (mark : Bool)
    → drop k parts ≡ message ∷ following ended later mark → nat_lt (k + 1) (length parts) ≡ ended
ended_by parts k message true later mark e =
    let some = messages_some (symbols later mark) in
    let size : length parts - k ≡ suc (suc (length some.1)) =
    sym (length-drop k parts) ∙ ap length e ∙ ap (λ (ps : List (List ℕ)). suc (length ps)) some.2 in
    lt-ltb (k + 1) (length parts) (omega arith)
ended_by parts k message false later mark e =
    let size : length parts - k ≡ 1 = sym (length-drop k parts) ∙ ap length e in
    le-ltb (k + 1) (length parts) (omega arith)

pub has_ended_by_contents : (contents : Contents) (acts : List ExchangeAct) → StandsFor contents acts → has_ended acts ≡ contents.ended
has_ended_by_contents contents acts s =
    ended_by (messages (text acts)) (messages_finished acts) s.message contents.ended contents.later contents.end_pending s.text_left

part_at : (parts : List (List ℕ)) (k : ℕ) (message : List ℕ) (others : List (List ℕ)) → drop k parts ≡ message ∷ others
    → slice_index_or parts k [] ≡ message
part_at parts k message others e =
    let place : k + 0 ≡ k = omega arith in
    sym (ap (λ (n : ℕ). get_or parts n []) place) ∙ sym (get_or-drop k parts 0 []) ∙ ap (λ (ps : List (List ℕ)). get_or ps 0 []) e

pub message_by_contents : (contents : Contents) (acts : List ExchangeAct) (s : StandsFor contents acts) → message acts ≡ s.message
message_by_contents contents acts s = part_at (messages (text acts)) (messages_finished acts) s.message _ s.text_left

pub is_long_by_contents : (contents : Contents) (acts : List ExchangeAct) → StandsFor contents acts → is_long acts ≡ contents.overlong
is_long_by_contents contents acts s = ap (λ (m : List ℕ). nat_lt max_message (length m)) (message_by_contents contents acts s) ∙ sym s.size

-- The stored output determines what can be read.
pub shown_is : (answering : Bool) (out : List ℕ) (given : List (List ℕ)) (readable : List ℕ) → IsShown answering out given readable
    → readable ≡ readable_of answering out
shown_is true out given readable said = said.2
shown_is false out given readable said = said.1

pub readable_is : (contents : Contents) (acts : List ExchangeAct) → StandsFor contents acts → response acts ≡ shown_by contents
readable_is contents acts s = shown_is contents.answering contents.output (answers acts) (response acts) s.shows

get_behind : (xs ys : List (List ℕ)) (n : ℕ) → length xs ≡ n → slice_get (xs ++ ys) n ≡ slice_get ys 0
get_behind [] ys zero e = refl
get_behind [] ys (suc n) e = absurd (omega arith)
get_behind (x ∷ xs) ys zero e = absurd (omega arith)
get_behind (x ∷ xs) ys (suc n) e = get_behind xs ys n (omega arith)

-- The units matter only if the message isn't too long.
same_unit : (ended long lost : Bool) (x y : Option (List ℕ)) → (long ≡ false → x ≡ y)
    → cond (ended && (not long && not lost)) x None ≡ cond (ended && (not long && not lost)) y None
same_unit true true lost x y h = refl
same_unit true false true x y h = refl
same_unit true false false x y h = h refl
same_unit false long lost x y h = refl

-- The next unit is the first one in the rest of the message.
pub next_unit_by_contents : (contents : Contents) (acts : List ExchangeAct) → StandsFor contents acts → next_unit acts ≡ unit_of contents
next_unit_by_contents contents acts s =
    let ended = has_ended_by_contents contents acts s in
    let long = is_long_by_contents contents acts s in
    let message_here = message_by_contents contents acts s in
    let found : contents.overlong ≡ false
    → slice_get (units (message acts)) (units_done (current acts)) ≡ slice_get (units contents.rest) 0 =
    λ short. ap (λ (m : List ℕ). slice_get (units m) (units_done (current acts))) message_here
    ∙ ap (λ (us : List (List ℕ)). slice_get us (units_done (current acts))) (s.placed short).units_left
    ∙ get_behind s.executed (units contents.rest) (units_done (current acts)) s.count in
    ap (λ (b : Bool). cond (b && (not (is_long acts) && not (has_dropped (current acts))))
    (slice_get (units (message acts)) (units_done (current acts))) None) ended
    ∙ ap (λ (b : Bool). cond (contents.ended && (not b && not (has_dropped (current acts))))
    (slice_get (units (message acts)) (units_done (current acts))) None) long
    ∙ ap (λ (b : Bool). cond (contents.ended && (not contents.overlong && not b))
    (slice_get (units (message acts)) (units_done (current acts))) None)
    s.answers_dropped
    ∙ same_unit contents.ended contents.overlong contents.answers_dropped _ _ found

-- A response is left only before the first unit of a message, which interrupts it.
interrupts_is : (first : Bool) (readable : List ℕ) → (first ≡ false → readable ≡ [])
    → (first && is_something readable) ≡ is_something readable
interrupts_is true readable quiet = refl
interrupts_is false readable quiet = sym (ap is_something (quiet refl))

-- The step that is due, from what determines it.
abbrev due_by : Bool → Bool → Option (List ℕ) → Bool → Bool → Due
due_by long told unit interrupts ended = cond (long && not told) OverrunDue (due_unit unit interrupts ended)

-- The contents and the acts determine the same step.
pub due_by_contents : (contents : Contents) (acts : List ExchangeAct) → StandsFor contents acts → next_of contents ≡ due acts
due_by_contents contents acts s =
    let interrupts = interrupts_is (units_done (current acts) == 0) (response acts) s.no_response
    ∙ ap is_something (readable_is contents acts s) in
    let told = has_overrun (current acts) in
    let first = (units_done (current acts) == 0) && is_something (response acts) in
    sym (ap (λ (b : Bool). due_by b told (next_unit acts) first (has_ended acts)) (is_long_by_contents contents acts s)
    ∙ ap (λ (b : Bool). due_by contents.overlong b (next_unit acts) first (has_ended acts)) s.overrun_reported
    ∙ ap (λ (u : Option (List ℕ)). due_by contents.overlong contents.overrun_reported u first (has_ended acts))
    (next_unit_by_contents contents acts s)
    ∙ ap (λ (b : Bool). due_by contents.overlong contents.overrun_reported (unit_of contents) b (has_ended acts)) interrupts
    ∙ ap (λ (b : Bool). due_by contents.overlong contents.overrun_reported (unit_of contents) (is_something (shown_by contents)) b)
    (has_ended_by_contents contents acts s))

-- If a unit is due, its message has ended, isn't too long, lost no answers, and no response is
-- left.
pub record IsAtUnit (contents : Contents) : Type 0 where
  pub ended : contents.ended ≡ true
  pub short : contents.overlong ≡ false
  pub kept : contents.answers_dropped ≡ false
  pub no_response : is_something (shown_by contents) ≡ false

pub unit_due_state : (contents : Contents) → IsUnitDue (next_of contents) → IsAtUnit contents
unit_due_state contents due =
    at contents.ended contents.overlong contents.overrun_reported contents.answers_dropped (is_something (shown_by contents))
    (slice_get (units contents.rest) 0) refl refl refl refl due.1
  where
    at : (ended long told lost something : Bool) (found : Option (List ℕ)) → contents.ended ≡ ended → contents.overlong ≡ long
        → contents.answers_dropped ≡ lost
        → is_something (shown_by contents) ≡ something
        → due_by long told (cond (ended && (not long && not lost)) found None) something ended ≡ UnitDue due.0 → IsAtUnit contents
    at true true true lost something found e f g h is = absurd cc
    at true true false lost something found e f g h is = absurd cc
    at false true true lost something found e f g h is = absurd cc
    at false true false lost something found e f g h is = absurd cc
    at false false told lost something found e f g h is = absurd cc
    at true false told true something found e f g h is = absurd cc
    at true false told false true None e f g h is = absurd cc
    at true false told false true (Some unit) e f g h is = absurd cc
    at true false told false false found e f g h is = record { ended = e; short = f; kept = g; no_response = h }

-- A message is finished only after it has ended.
pub finish_due_has_ended : (contents : Contents) → next_of contents ≡ FinishDue → contents.ended ≡ true
finish_due_has_ended contents due =
    at contents.ended contents.overlong contents.overrun_reported (is_something (shown_by contents)) (unit_of contents) refl due
  where
    at : (ended long told something : Bool) (found : Option (List ℕ)) → contents.ended ≡ ended
        → due_by long told found something ended ≡ FinishDue → contents.ended ≡ true
    at true long told something found e is = e
    at false true false something found e is = absurd cc
    at false true true something None e is = absurd cc
    at false true true true (Some unit) e is = absurd cc
    at false true true false (Some unit) e is = absurd cc
    at false false told something None e is = absurd cc
    at false false told true (Some unit) e is = absurd cc
    at false false told false (Some unit) e is = absurd cc

-- After the response is dropped, the unit that interrupted it is due.
pub unit_due_after_interrupt : (contents : Contents) → next_of contents ≡ InterruptDue
    → IsUnitDue (next_of (record contents { output = [] }))
unit_due_after_interrupt contents due =
    at contents.overlong contents.overrun_reported contents.answering (unit_of contents) (is_something (shown_by contents)) contents.ended
    due
  where
    at : (long told answering : Bool) (found : Option (List ℕ)) (something ended : Bool)
        → due_by long told found something ended ≡ InterruptDue
        → IsUnitDue (due_by long told found (is_something (readable_of answering [])) ended)
    at true false answering found something ended is = absurd cc
    at true true answering None something true is = absurd cc
    at true true answering None something false is = absurd cc
    at true true answering (Some unit) false ended is = absurd cc
    at true true true (Some unit) true ended is = (unit, refl)
    at true true false (Some unit) true ended is = (unit, refl)
    at false told answering None something true is = absurd cc
    at false told answering None something false is = absurd cc
    at false told answering (Some unit) false ended is = absurd cc
    at false told true (Some unit) true ended is = (unit, refl)
    at false told false (Some unit) true ended is = (unit, refl)

-- Only a response that can be read is interrupted.
pub interrupt_due_has_response : (contents : Contents) → next_of contents ≡ InterruptDue → is_something (shown_by contents) ≡ true
interrupt_due_has_response contents due =
    at contents.overlong contents.overrun_reported (unit_of contents) (is_something (shown_by contents)) contents.ended due
  where
    at : (long told : Bool) (found : Option (List ℕ)) (something ended : Bool) → due_by long told found something ended ≡ InterruptDue
        → something ≡ true
    at long told found true ended is = refl
    at true false found false ended is = absurd cc
    at true true None false true is = absurd cc
    at true true None false false is = absurd cc
    at true true (Some unit) false ended is = absurd cc
    at false told None false true is = absurd cc
    at false told None false false is = absurd cc
    at false told (Some unit) false ended is = absurd cc

-- How many bytes have come of a message that hasn't ended; `None` if it has ended or is too long.
abbrev pub unended_in : Contents → Option ℕ
unended_in contents = cond (contents.ended || contents.overlong) None (Some (length contents.rest))

same_size : (ended long : Bool) (n m : ℕ) → (ended ≡ false → long ≡ false → n ≡ m)
    → cond (ended || long) None (Some n) ≡ cond (ended || long) None (Some m)
same_size true long n m h = refl
same_size false true n m h = refl
same_size false false n m h = ap Some (h refl refl)

pub unended_is : (contents : Contents) (acts : List ExchangeAct) → StandsFor contents acts
    → cond (has_ended acts || is_long acts) None (Some (length (message acts))) ≡ unended_in contents
unended_is contents acts s =
    ap (λ (b : Bool). cond (b || is_long acts) None (Some (length (message acts)))) (has_ended_by_contents contents acts s)
    ∙ ap (λ (b : Bool). cond (contents.ended || b) None (Some (length (message acts)))) (is_long_by_contents contents acts s)
    ∙ ap (λ (m : List ℕ). cond (contents.ended || contents.overlong) None (Some (length m))) (message_by_contents contents acts s)
    ∙ same_size contents.ended contents.overlong _ _ (λ e l. ap (λ (m : List ℕ). length m) (s.whole e l))
