-- Which step of message exchange is due while the text of one write with END is executed.
use Rattle.std.proofs.Common.{◌≡◌, ℕ, zero, suc, ◌+◌, ◌-◌, ◌<◌, ◌≤◌, Bool, true, false, cond, List, [], ◌∷◌, ◌++◌, length, drop, refl, sym, ap, ◌∙◌, arith, lt-ltb}
use Rattle.std.specs.Prelude.{map, replicate, slice_get, slice_index_or, nat_lt, ◌==◌, ◌&&◌}
use Rattle.std.proofs.lemmas.Bool.{le-ltb}
use Rattle.std.proofs.lemmas.List.{length-drop}
use Rattle.sv_exchange.specs.Exchange.{ExchangeAct, Accepted, UnitDone, Answered, Finished, Byte, End, text, messages, messages_finished, current, units_done, has_overrun, has_dropped, all_answers, answers, message, has_ended, is_long, is_something, units, response, due, due_unit, NothingDue, UnitDue, FinishDue, fits_response}
use Rattle.sv_exchange.specs.Limits.{max_message, max_response}
use Rattle.std.specs.List.{onto_first as onto}
use Rattle.sv_exchange.proofs.Cuts.{messages_some, more_text_continues_last}
use Rattle.sv_exchange.proofs.Responses.{response_finished}

-- ---- parts of a list

first_of_drop : (k : ℕ) (parts : List (List ℕ)) (part : List ℕ) (more : List (List ℕ)) → drop k parts ≡ part ∷ more
    → slice_index_or parts k [] ≡ part
first_of_drop zero [] part more e = absurd cc
first_of_drop zero (first ∷ parts) part more e = cc
first_of_drop (suc k) [] part more e = absurd cc
first_of_drop (suc k) (first ∷ parts) part more e = first_of_drop k parts part more e

rest_of_drop : (k : ℕ) (parts : List (List ℕ)) (part : List ℕ) (more : List (List ℕ)) → drop k parts ≡ part ∷ more
    → drop (suc k) parts ≡ more
rest_of_drop zero [] part more e = absurd cc
rest_of_drop zero (first ∷ parts) part more e = cc
rest_of_drop (suc k) [] part more e = absurd cc
rest_of_drop (suc k) (first ∷ parts) part more e = rest_of_drop k parts part more e

within_if_two_left : (k : ℕ) (parts : List (List ℕ)) (part other : List ℕ) (more : List (List ℕ)) → drop k parts ≡ part ∷ other ∷ more
    → nat_lt (k + 1) (length parts) ≡ true
within_if_two_left k parts part other more e =
    let size : length parts - k ≡ suc (suc (length more)) = sym (length-drop k parts) ∙ ap (λ (l : List (List ℕ)). length l) e in
    lt-ltb (k + 1) (length parts) (omega (arith, size))

last_if_one_left : (k : ℕ) (parts : List (List ℕ)) (part : List ℕ) → drop k parts ≡ part ∷ [] → nat_lt (k + 1) (length parts) ≡ false
last_if_one_left k parts part e =
    let size : length parts - k ≡ 1 = sym (length-drop k parts) ∙ ap (λ (l : List (List ℕ)). length l) e in
    le-ltb (k + 1) (length parts) (omega (arith, size))

-- ---- the first message of a write

onto_extends_first : (b : ℕ) (parts : List (List ℕ)) (first : List ℕ) (others : List (List ℕ)) (part : List ℕ) (more : List (List ℕ))
    → parts ≡ first ∷ others → onto b parts ≡ part ∷ more → b ∷ first ≡ part
onto_extends_first b parts first others part more is e = let same : (b ∷ first) ∷ others ≡ part ∷ more = ap (onto b) (sym is) ∙ e in cc

pub first_short : (sent part : List ℕ) (more : List (List ℕ)) → messages (map Byte sent ++ End ∷ []) ≡ part ∷ more
    → length part ≤ length sent
first_short [] part more e = let none : [] ≡ part = cc in rw (← none) (omega arith)
first_short (b ∷ sent) part more e = at (b == 10) e (first_short sent)
  where
    at : (t : Bool) → cond t ([] ∷ messages (map Byte sent ++ End ∷ [])) (onto b (messages (map Byte sent ++ End ∷ []))) ≡ part ∷ more
        → ((first : List ℕ) (others : List (List ℕ)) → messages (map Byte sent ++ End ∷ []) ≡ first ∷ others → length first ≤ length sent)
        → length part ≤ suc (length sent)
    at true e short = let none : [] ≡ part = cc in rw (← none) (omega arith)
    at false e short =
        let some = messages_some (map Byte sent ++ End ∷ []) in
        let is = onto_extends_first b (messages (map Byte sent ++ End ∷ [])) some.0 some.1 part more some.2 e in
        let least = short some.0 some.1 some.2 in
        let size : suc (length some.0) ≡ length part = ap (λ (l : List ℕ). length l) is in
        omega (arith, size, least)

-- ---- the messages that aren't finished

-- `parts` are the messages that aren't finished yet, the last of which hasn't ended. No unit of the
-- first one was executed, and it has no answers.
pub record Left (parts : List (List ℕ)) (acts : List ExchangeAct) : Type 0 where
  pub left : drop (messages_finished acts) (messages (text acts)) ≡ parts
  pub done : units_done (current acts) ≡ 0
  pub overrun : has_overrun (current acts) ≡ false
  pub dropped : has_dropped (current acts) ≡ false
  pub given : all_answers (current acts) ≡ []

current_message_is_first : (part : List ℕ) (more : List (List ℕ)) (acts : List ExchangeAct) → Left (part ∷ more) acts → message acts ≡ part
current_message_is_first part more acts l = first_of_drop (messages_finished acts) (messages (text acts)) part more l.left

pub ended_if_two_left : (part other : List ℕ) (more : List (List ℕ)) (acts : List ExchangeAct) → Left (part ∷ other ∷ more) acts
    → has_ended acts ≡ true
ended_if_two_left part other more acts l = within_if_two_left (messages_finished acts) (messages (text acts)) part other more l.left

pub unended_if_one_left : (part : List ℕ) (acts : List ExchangeAct) → Left (part ∷ []) acts → has_ended acts ≡ false
unended_if_one_left part acts l = last_if_one_left (messages_finished acts) (messages (text acts)) part l.left

short_is : (part : List ℕ) (more : List (List ℕ)) (acts : List ExchangeAct) → Left (part ∷ more) acts → length part ≤ max_message
    → is_long acts ≡ false
short_is part more acts l short =
    rw (current_message_is_first part more acts l) (le-ltb max_message (length part) short)

-- ---- at rest

pub rest_unended : (acts : List ExchangeAct) → drop (messages_finished acts) (messages (text acts)) ≡ [] ∷ [] → has_ended acts ≡ false
rest_unended acts left = last_if_one_left (messages_finished acts) (messages (text acts)) [] left

pub rest_short : (acts : List ExchangeAct) → drop (messages_finished acts) (messages (text acts)) ≡ [] ∷ [] → is_long acts ≡ false
rest_short acts left = rw (first_of_drop (messages_finished acts) (messages (text acts)) [] [] left) refl

pub nothing_due : (acts : List ExchangeAct) → Left ([] ∷ []) acts → due acts ≡ NothingDue
nothing_due acts l = rw (short_is [] [] acts l (omega arith), unended_if_one_left [] acts l) refl

-- ---- a write with END

pub write_with_end_is_left : (bytes : List ℕ) (parts : List (List ℕ)) (part : List ℕ) (acts : List ExchangeAct) → Left ([] ∷ []) acts
    → messages (map Byte bytes ++ End ∷ []) ≡ part ∷ parts → Left (part ∷ parts) (Accepted bytes true ∷ acts)
write_with_end_is_left bytes parts part acts l cut = record {
  left = more_text_continues_last (text acts) (map Byte bytes ++ End ∷ []) (messages_finished acts) [] part parts l.left cut;
  done = l.done;
  overrun = l.overrun;
  dropped = l.dropped;
  given = l.given;
}

-- The step that is due for a message that has ended and isn't too long, if no answers were dropped.
due_of_ended_message : (part other : List ℕ) (more : List (List ℕ)) (acts : List ExchangeAct)
    → drop (messages_finished acts) (messages (text acts)) ≡ part ∷ other ∷ more → length part ≤ max_message
    → has_dropped (current acts) ≡ false → due acts
    ≡ due_unit (slice_get (units part) (units_done (current acts))) ((units_done (current acts) == 0) && is_something (response acts)) true
due_of_ended_message part other more acts left short kept =
    let is : message acts ≡ part = first_of_drop (messages_finished acts) (messages (text acts)) part (other ∷ more) left in
    let ended : has_ended acts ≡ true = within_if_two_left (messages_finished acts) (messages (text acts)) part other more left in
    let fits : is_long acts ≡ false = rw is (le-ltb max_message (length part) short) in
    rw (fits, ended, kept, is) refl

pub unit_due : (part other unit : List ℕ) (more : List (List ℕ)) (acts : List ExchangeAct) → Left (part ∷ other ∷ more) acts
    → length part ≤ max_message → units part ≡ unit ∷ [] → response acts ≡ [] → due acts ≡ UnitDue unit
unit_due part other unit more acts l short one none =
    due_of_ended_message part other more acts l.left short l.dropped ∙ rw (l.done, one, none) refl

pub short_answer_fits : (answer : List ℕ) (parts : List (List ℕ)) (acts : List ExchangeAct) → Left parts acts → length answer < max_response
    → fits_response (answers (UnitDone ∷ acts)) answer ≡ true
short_answer_fits answer parts acts l fits = rw (l.dropped, l.given) (lt-ltb (length answer) max_response fits)

-- ---- after the unit

abbrev pub answered : List ℕ → List ExchangeAct → List ExchangeAct
answered answer acts = Answered answer ∷ UnitDone ∷ acts

pub finish_due : (part other unit answer : List ℕ) (more : List (List ℕ)) (acts : List ExchangeAct) → Left (part ∷ other ∷ more) acts
    → length part ≤ max_message → units part ≡ unit ∷ [] → due (answered answer acts) ≡ FinishDue
finish_due part other unit answer more acts l short one =
    due_of_ended_message part other more (answered answer acts) l.left short l.dropped ∙ rw (l.done, one) refl

-- ---- once the message is finished

-- The text that isn't finished is `lines` empty messages that have ended. No unit of the current
-- message was executed, and `bytes` is the response.
pub record Over (lines : ℕ) (bytes : List ℕ) (acts : List ExchangeAct) : Type 0 where
  pub left : drop (messages_finished acts) (messages (text acts)) ≡ [] ∷ replicate lines []
  pub fresh : current acts ≡ []
  pub shows : response acts ≡ bytes

pub finishing_shows_response : (lines : ℕ) (part answer : List ℕ) (acts : List ExchangeAct) → Left (part ∷ [] ∷ replicate lines []) acts
    → Over lines (answer ++ 10 ∷ []) (Finished ∷ answered answer acts)
finishing_shows_response lines part answer acts l = record {
  left = rest_of_drop (messages_finished acts) (messages (text acts)) part ([] ∷ replicate lines []) l.left;
  fresh = refl;
  shows = response_finished (answered answer acts) ∙ rw (l.dropped, l.given) refl;
}

pub over_left : (lines : ℕ) (bytes : List ℕ) (acts : List ExchangeAct) → Over lines bytes acts → Left ([] ∷ replicate lines []) acts
over_left lines bytes acts o = record {
  left = o.left;
  done = rw o.fresh refl;
  overrun = rw o.fresh refl;
  dropped = rw o.fresh refl;
  given = rw o.fresh refl;
}

pub left_due : (lines : ℕ) (acts : List ExchangeAct) → Left ([] ∷ [] ∷ replicate lines []) acts → due acts ≡ FinishDue
left_due lines acts l = due_of_ended_message [] [] (replicate lines []) acts l.left (omega arith) l.dropped

pub empty_due : (lines : ℕ) (bytes : List ℕ) (acts : List ExchangeAct) → Over (suc lines) bytes acts → due acts ≡ FinishDue
empty_due lines bytes acts o = left_due lines acts (over_left (suc lines) bytes acts o)

pub finished_empty : (lines : ℕ) (bytes : List ℕ) (acts : List ExchangeAct) → Over (suc lines) bytes acts
    → Over lines bytes (Finished ∷ acts)
finished_empty lines bytes acts o = record {
  left = rest_of_drop (messages_finished acts) (messages (text acts)) [] ([] ∷ replicate lines []) o.left;
  fresh = refl;
  shows = response_finished acts ∙ (rw o.fresh o.shows);
}

pub over_zero_is_at_rest : (bytes : List ℕ) (acts : List ExchangeAct) → Over 0 bytes acts → Left ([] ∷ []) acts
over_zero_is_at_rest bytes acts o = over_left 0 bytes acts o

-- ---- once the response was read

pub left_finished : (lines : ℕ) (acts : List ExchangeAct) → Left ([] ∷ [] ∷ replicate lines []) acts
    → Left ([] ∷ replicate lines []) (Finished ∷ acts)
left_finished lines acts l = record {
  left = rest_of_drop (messages_finished acts) (messages (text acts)) [] ([] ∷ replicate lines []) l.left;
  done = refl;
  overrun = refl;
  dropped = refl;
  given = refl;
}

pub finishing_shows_none : (parts : List (List ℕ)) (acts : List ExchangeAct) → Left parts acts → response acts ≡ []
    → response (Finished ∷ acts) ≡ []
finishing_shows_none parts acts l none = response_finished acts ∙ rw (l.dropped, l.given) none

-- ---- after a unit without an answer

pub done_due : (part other unit : List ℕ) (more : List (List ℕ)) (acts : List ExchangeAct) → Left (part ∷ other ∷ more) acts
    → length part ≤ max_message → units part ≡ unit ∷ [] → due (UnitDone ∷ acts) ≡ FinishDue
done_due part other unit more acts l short one =
    due_of_ended_message part other more (UnitDone ∷ acts) l.left short l.dropped ∙ rw (l.done, one) refl

pub done_left : (lines : ℕ) (part : List ℕ) (acts : List ExchangeAct) → Left (part ∷ [] ∷ replicate lines []) acts
    → Left ([] ∷ replicate lines []) (Finished ∷ UnitDone ∷ acts)
done_left lines part acts l = record {
  left = rest_of_drop (messages_finished acts) (messages (text acts)) part ([] ∷ replicate lines []) l.left;
  done = refl;
  overrun = refl;
  dropped = refl;
  given = refl;
}

pub done_none : (parts : List (List ℕ)) (acts : List ExchangeAct) → Left parts acts → response acts ≡ []
    → response (Finished ∷ UnitDone ∷ acts) ≡ []
done_none parts acts l none = response_finished (UnitDone ∷ acts) ∙ rw (l.dropped, l.given) none
