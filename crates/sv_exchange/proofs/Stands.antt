-- After each act, the values that message exchange has stored agree with the acts.
use Rattle.std.proofs.Common.{◌≡◌, ◌≢◌, ℕ, zero, suc, ◌+◌, ◌≤◌, ◌<◌, ◌==◌, Bool, true, false, not, ◌&&◌, ◌||◌, cond, List, [], ◌∷◌, ◌++◌, length, take, drop, refl, sym, ap, ◌∙◌, nat_lt, append_assoc, IsTrue, arith}
use Rattle.std.proofs.lemmas.Bool.{lt-ltb, le-ltb, ltb-true}
use Rattle.std.proofs.lemmas.List.{length-append, take-append-drop, drop-drop, drop_all, length-take-le}
use Rattle.sv_exchange.specs.Exchange.{ExchangeAct, Accepted, UnitDone, Answered, AnswersDropped, Finished, ResponseRead, TextDropped, Interrupted, text, messages, message, messages_finished, current, units, units_done, has_overrun, has_dropped, answers, response, fits_response, is_something, joined_answers}
use Rattle.sv_exchange.specs.Contents.{Contents, StandsFor, IsPlaced, IsShown, empty, IsUnitDue, symbols, following, readable_of, shown_by, next_of, is_open, may_respond}
use Rattle.sv_exchange.specs.Fields.{first_size, has_line, second_at, after_accept, after_finish, after_answer, with_answer}
use Rattle.sv_exchange.specs.FirstUnit.{IsFirst}
use Rattle.sv_text.proofs.Places.{position_within_length}
use Rattle.sv_exchange.proofs.Cuts.{more_text_continues_last, first_message_is_cut}
use Rattle.sv_exchange.proofs.Responses.{response_after, response_finished, response_read}
use Rattle.sv_exchange.proofs.Dues.{unit_due_state, readable_is}
use Rattle.sv_exchange.specs.Limits.{max_message, max_response}

pub nothing_there : (bytes : List ℕ) → is_something bytes ≡ false → bytes ≡ []
nothing_there [] h = refl
nothing_there (b ∷ bytes) h = absurd cc

-- After a unit is executed, the message goes on with what follows it.
placed_after_unit : (place count : ℕ) (rest message unit : List ℕ) (executed : List (List ℕ)) → IsFirst rest unit count
    → IsPlaced place rest message executed → IsPlaced (place + count) (drop count rest) message (executed ++ unit ∷ [])
placed_after_unit place count rest message unit executed first is =
    let some : rest ≢ [] = λ none. omega (arith, first.within, ap length none) in
    let size : length (take count rest) ≡ count = length-take-le count rest first.within.1 in
    record {
      consumed = is.consumed ++ take count rest;
      joined = is.joined ∙ ap (λ (l : List ℕ). is.consumed ++ l) (sym (take-append-drop count rest))
          ∙ sym (append_assoc is.consumed (take count rest) (drop count rest));
      size = omega (arith, is.size, size, length-append is.consumed (take count rest));
      units_left = is.units_left ∙ ap (λ (us : List (List ℕ)). executed ++ us) first.units
          ∙ sym (append_assoc executed (unit ∷ []) (units (drop count rest)));
      behind = λ left more. ap units (append_assoc is.consumed (take count rest) more) ∙ is.behind some (take count rest ++ more)
          ∙ ap (λ (us : List (List ℕ)). executed ++ us) (first.front left more)
          ∙ sym (append_assoc executed (unit ∷ []) (units more));
    }

pub placed_first : (place : ℕ) (rest message : List ℕ) → message ≡ rest → place ≡ 0 → IsPlaced place rest message []
placed_first place rest message joined size = record {
  consumed = [];
  joined = joined;
  size = size;
  units_left = ap units joined;
  behind = λ left more. refl;
}

-- A unit is executed.
pub done_stands : (contents new : Contents) (acts : List ExchangeAct) (unit : List ℕ) (count : ℕ) → IsUnitDue (next_of contents)
    → IsFirst contents.rest unit count
    → new ≡ record contents { rest = drop count contents.rest; place = contents.place + count } → StandsFor contents acts
    → StandsFor new (UnitDone ∷ acts)
done_stands contents new acts unit count due first is s =
    let at = unit_due_state contents due in
    rw is (record {
      message = s.message;
      executed = s.executed ++ unit ∷ [];
      text_left = s.text_left;
      size = s.size;
      placed = λ short. placed_after_unit contents.place count contents.rest s.message unit s.executed first (s.placed short);
      count = omega (arith, length-append s.executed (unit ∷ []), s.count);
      no_response = λ later. readable_is contents acts s ∙ nothing_there (shown_by contents) at.no_response;
      whole = λ unended. (let z : true ≡ false = sym at.ended ∙ unended in absurd cc);
      unbegun = λ unended. (let z : true ≡ false = sym at.ended ∙ unended in absurd cc);
      no_answers = s.no_answers;
      overrun_reported = s.overrun_reported;
      answers_dropped = s.answers_dropped;
      shows = s.shows;
    })

-- The messages after one that has ended.
following_ended : (ended : Bool) (later : List ℕ) (mark : Bool) → ended ≡ true → following ended later mark ≡ messages (symbols later mark)
following_ended true later mark e = refl
following_ended false later mark e = absurd cc

following_open : (ended : Bool) (later : List ℕ) (mark : Bool) → ended ≡ false → following ended later mark ≡ []
following_open false later mark e = refl
following_open true later mark e = absurd cc

-- When a message is finished, its answers become the response.
response_from_answers : (answering : Bool) (out : List ℕ) (given : List (List ℕ)) (readable : List ℕ) → IsShown answering out given readable
    → response_after given readable ≡ cond answering (out ++ 10 ∷ []) out
response_from_answers true out [] readable said = absurd (said.0 refl)
response_from_answers true out (answer ∷ others) readable said = ap (λ (l : List ℕ). l ++ 10 ∷ []) (sym said.1)
response_from_answers false out given readable said = ap (λ (g : List (List ℕ)). response_after g readable) said.0 ∙ said.1

-- A message is finished.
pub finish_stands : (contents new : Contents) (acts : List ExchangeAct) → contents.ended ≡ true → length contents.later ≤ max_message
    → new ≡ after_finish contents → StandsFor contents acts → StandsFor new (Finished ∷ acts)
finish_stands contents new acts ended few is s =
    let size = position_within_length (λ b. b == 10) contents.later in
    let first : List ℕ = take (first_size contents.later) contents.later in
    let behind : drop 1 (drop (messages_finished acts) (messages (text acts))) ≡ first
    ∷ following (has_line contents.later || contents.end_pending) (drop (second_at contents.later) contents.later)
    (has_line contents.later && contents.end_pending) =
    ap (drop 1) s.text_left ∙ following_ended contents.ended contents.later contents.end_pending ended
    ∙ first_message_is_cut contents.later contents.end_pending in
    let next : suc (messages_finished acts) ≡ messages_finished acts + 1 = omega arith in
    rw is (record {
      message = first;
      executed = [];
      text_left = ap (λ (n : ℕ). drop n (messages (text acts))) next ∙ sym (drop-drop 1 (messages_finished acts) (messages (text acts)))
          ∙ behind;
      size = sym (le-ltb max_message (length first) (omega (arith, length-take-le (first_size contents.later) contents.later size)));
      placed = λ short. placed_first _ _ _ refl refl;
      count = refl;
      no_response = λ later. absurd cc;
      whole = λ unended short. refl;
      unbegun = λ unended. refl;
      no_answers = λ unended. refl;
      overrun_reported = refl;
      answers_dropped = refl;
      shows = (
        refl,
        response_finished acts ∙ response_from_answers contents.answering contents.output (answers acts) (response acts)
            s.shows,
      );
    })

pub may_respond_parts : (ended lost something : Bool) → IsTrue (ended && (not lost && not something))
    → (ended ≡ true) × (lost ≡ false) × (something ≡ false)
may_respond_parts true false false h = (refl, refl, refl)
may_respond_parts true true something h = absurd cc
may_respond_parts true false true h = absurd cc
may_respond_parts false lost something h = absurd cc

joined_push : (given : List (List ℕ)) (answer : List ℕ) → given ≢ []
    → joined_answers (given ++ answer ∷ []) ≡ joined_answers given ++ 59 ∷ answer
joined_push [] answer some = absurd (some refl)
joined_push (first ∷ []) answer some = refl
joined_push (first ∷ second ∷ given) answer some =
    ap (λ (l : List ℕ). first ++ 59 ∷ l) (joined_push (second ∷ given) answer (λ e. cc))
    ∙ sym (append_assoc first (59 ∷ joined_answers (second ∷ given)) (59 ∷ answer))

push_some : (given : List (List ℕ)) (answer : List ℕ) → given ++ answer ∷ [] ≢ []
push_some [] answer e = cc
push_some (first ∷ given) answer e = cc

-- The stored output with one more answer.
joined_with : (answering : Bool) (out : List ℕ) (given : List (List ℕ)) (readable answer : List ℕ) → IsShown answering out given readable
    → joined_answers (given ++ answer ∷ []) ≡ with_answer answering out answer
joined_with true out given readable answer said = joined_push given answer said.0 ∙ ap (λ (l : List ℕ). l ++ 59 ∷ answer) (sym said.1)
joined_with false out given readable answer said = ap (λ (g : List (List ℕ)). joined_answers (g ++ answer ∷ [])) said.0

-- Whether an answer fits, by the stored output.
fits_is : (contents : Contents) (acts : List ExchangeAct) (answer : List ℕ) (size : ℕ)
    → length (with_answer contents.answering contents.output answer) ≡ size → StandsFor contents acts
    → fits_response (answers acts) answer ≡ nat_lt size max_response
fits_is contents acts answer size e s =
    ap (λ (l : List ℕ). nat_lt (length l) max_response)
    (joined_with contents.answering contents.output (answers acts) (response acts) answer s.shows)
    ∙ ap (λ (n : ℕ). nat_lt n max_response) e

-- An act that changes only the output leaves what is known of the text.
output_stands : (contents new : Contents) (acts later : List ExchangeAct) (dropped answering : Bool) (output : List ℕ)
    → new ≡ record contents { answers_dropped = dropped; answering = answering; output = output }
    → text later ≡ text acts → messages_finished later ≡ messages_finished acts
    → units_done (current later) ≡ units_done (current acts) → has_overrun (current later) ≡ has_overrun (current acts)
    → ((units_done (current acts) == 0) ≡ false → response later ≡ []) → (contents.ended ≡ false → answering ≡ false)
    → has_dropped (current later) ≡ dropped → IsShown answering output (answers later) (response later)
    → StandsFor contents acts → StandsFor new later
output_stands contents new acts later dropped answering output is texts finished done overrun no_response no_answers lost shows s =
    rw is (record {
      message = s.message;
      executed = s.executed;
      text_left = rw (texts, finished) s.text_left;
      size = s.size;
      placed = s.placed;
      count = s.count ∙ sym done;
      no_response = rw done no_response;
      whole = s.whole;
      unbegun = s.unbegun;
      no_answers = no_answers;
      overrun_reported = overrun ∙ s.overrun_reported;
      answers_dropped = lost;
      shows = shows;
    })

-- An answer is appended.
answered_stands : (contents new : Contents) (acts : List ExchangeAct) (answer : List ℕ) → IsTrue (may_respond contents)
    → new ≡ record contents { answering = true; output = with_answer contents.answering contents.output answer }
    → StandsFor contents acts → StandsFor new (Answered answer ∷ acts)
answered_stands contents new acts answer may is s =
    let parts = may_respond_parts contents.ended contents.answers_dropped (is_something (shown_by contents)) may in
    let kept : has_dropped (current acts) ≡ false = s.answers_dropped ∙ parts.1 in
    let now : answers (Answered answer ∷ acts) ≡ answers acts ++ answer ∷ [] = rw kept refl in
    output_stands contents new acts (Answered answer ∷ acts) _ _ _ is refl refl refl refl s.no_response
    (λ unended. let z : true ≡ false = sym parts.0 ∙ unended in absurd cc) s.answers_dropped (
      λ none. push_some (answers acts) answer (sym now ∙ none),
      sym (joined_with contents.answering contents.output (answers acts) (response acts) answer s.shows) ∙ ap joined_answers (sym now),
      readable_is contents acts s ∙ nothing_there (shown_by contents) parts.2,
    ) s

-- All answers are dropped.
dropped_stands : (contents new : Contents) (acts : List ExchangeAct) → IsTrue (may_respond contents)
    → new ≡ record contents { answers_dropped = true; answering = false; output = [] }
    → StandsFor contents acts → StandsFor new (AnswersDropped ∷ acts)
dropped_stands contents new acts may is s =
    let parts = may_respond_parts contents.ended contents.answers_dropped (is_something (shown_by contents)) may in
    output_stands contents new acts (AnswersDropped ∷ acts) _ _ _ is refl refl refl refl s.no_response (λ unended. refl) refl
    (refl, readable_is contents acts s ∙ nothing_there (shown_by contents) parts.2) s

-- If an answer comes, it is added if it fits; else all answers are dropped.
pub responded_stands : (contents new : Contents) (answer : List ℕ) (fits : Bool) → IsTrue (may_respond contents)
    → new ≡ after_answer contents answer fits → fits ≡ nat_lt (length (with_answer contents.answering contents.output answer)) max_response
    → (acts : List ExchangeAct) → StandsFor contents acts
    → (fits ≡ fits_response (answers acts) answer) × StandsFor new (cond fits (Answered answer) AnswersDropped ∷ acts)
responded_stands contents new answer true may is fits acts s =
    (fits ∙ sym (fits_is contents acts answer _ refl s), answered_stands contents new acts answer may is s)
responded_stands contents new answer false may is fits acts s =
    (fits ∙ sym (fits_is contents acts answer _ refl s), dropped_stands contents new acts may is s)

pub not_true : (b : Bool) → IsTrue (not b) → b ≡ false
not_true true h = absurd cc
not_true false h = refl

-- A message that is too long stays so.
long_on : (long : Bool) (message first rest : List ℕ) (n : ℕ) → long ≡ nat_lt max_message (length message) → length first ≡ n
    → (long ≡ false → message ≡ rest) → (long || nat_lt max_message (length rest + n)) ≡ nat_lt max_message (length (message ++ first))
long_on true message first rest n e f whole =
    let more : max_message < length (message ++ first) =
    omega (arith, length-append message first, ltb-true max_message (length message) (sym e)) in
    sym (lt-ltb max_message (length (message ++ first)) more)
long_on false message first rest n e f whole =
    let size : length rest + n ≡ length (message ++ first) = omega (arith, length-append message first, ap length (whole refl)) in
    ap (nat_lt max_message) size

-- If the message isn't too long, all its bytes are stored.
grown : (long more : Bool) (message first rest : List ℕ) → (long || more) ≡ false → (long ≡ false → message ≡ rest)
    → message ++ first ≡ cond (long || more) [] (rest ++ first)
grown false false message first rest short whole = ap (λ (l : List ℕ). l ++ first) (whole refl)
grown false true message first rest short whole = absurd cc
grown true more message first rest short whole = absurd cc

-- Text is accepted.
pub accept_stands : (contents new : Contents) (acts : List ExchangeAct) (bytes : List ℕ) (ended : Bool) → IsTrue (is_open contents)
    → new ≡ after_accept contents bytes ended → StandsFor contents acts → StandsFor new (Accepted bytes ended ∷ acts)
accept_stands contents new acts bytes ended open_now is s =
    let unended : contents.ended ≡ false = not_true contents.ended open_now in
    let first : List ℕ = take (first_size bytes) bytes in
    let size : length first ≡ first_size bytes = length-take-le (first_size bytes) bytes (position_within_length (λ b. b == 10) bytes) in
    let alone : drop (messages_finished acts) (messages (text acts)) ≡ s.message ∷ [] =
    s.text_left ∙ ap (λ (ms : List (List ℕ)). s.message ∷ ms) (following_open contents.ended contents.later contents.end_pending unended) in
    let more : Bool = nat_lt max_message (length contents.rest + first_size bytes) in
    let rest : (contents.overlong || more) ≡ false → s.message ++ first ≡ cond (contents.overlong || more) [] (contents.rest ++ first) =
    λ short. grown contents.overlong more s.message first contents.rest short (s.whole unended) in
    rw is (record {
      message = s.message ++ first;
      executed = [];
      text_left = more_text_continues_last (text acts) (symbols bytes ended) (messages_finished acts) s.message first _ alone
          (first_message_is_cut bytes ended);
      size = long_on contents.overlong s.message first contents.rest (first_size bytes) s.size size (s.whole unended);
      placed = λ short. placed_first _ _ _ (rest short) refl;
      count = sym (ap length (s.unbegun unended)) ∙ s.count;
      no_response = s.no_response;
      whole = λ _ short. rest short;
      unbegun = λ _. refl;
      no_answers = λ _. s.no_answers unended;
      overrun_reported = s.overrun_reported;
      answers_dropped = s.answers_dropped;
      shows = s.shows;
    })

-- Bytes that are read are removed from the output.
read_said : (answering : Bool) (out : List ℕ) (given : List (List ℕ)) (readable : List ℕ) (count : ℕ)
    → count ≤ length (readable_of answering out)
    → IsShown answering out given readable → IsShown answering (drop count out) given (drop count readable)
read_said true out given readable zero few said = said
read_said true out given readable (suc count) few said = absurd (omega arith)
read_said false out given readable count few said = (said.0, ap (drop count) said.1)

-- Bytes of the response are read.
pub read_stands : (contents new : Contents) (acts : List ExchangeAct) (count : ℕ) → count ≤ length (shown_by contents)
    → new ≡ record contents { output = drop count contents.output } → StandsFor contents acts → StandsFor new (ResponseRead count ∷ acts)
read_stands contents new acts count few is s =
    let left : response (ResponseRead count ∷ acts) ≡ drop count (response acts) = response_read acts count in
    output_stands contents new acts (ResponseRead count ∷ acts) _ _ _ is refl refl refl refl
    (λ later. left ∙ drop_all count (response acts) (omega (arith, ap length (s.no_response later)))) s.no_answers s.answers_dropped
    (rw left (read_said contents.answering contents.output (answers acts) (response acts) count few s.shows)) s

said_nothing : (answering : Bool) (out : List ℕ) (given : List (List ℕ)) (readable : List ℕ)
    → is_something (readable_of answering out) ≡ true → IsShown answering out given readable → IsShown answering [] given []
said_nothing true out given readable some said = absurd cc
said_nothing false out given readable some said = (said.0, refl)

-- A response is interrupted.
pub interrupted_stands : (contents new : Contents) (acts : List ExchangeAct) → is_something (shown_by contents) ≡ true
    → new ≡ record contents { output = [] } → StandsFor contents acts → StandsFor new (Interrupted ∷ acts)
interrupted_stands contents new acts some is s =
    output_stands contents new acts (Interrupted ∷ acts) _ _ _ is refl refl refl refl (λ later. refl) s.no_answers s.answers_dropped
    (said_nothing contents.answering contents.output (answers acts) (response acts) some s.shows) s

said_alone : (answering : Bool) (out : List ℕ) (given : List (List ℕ)) (readable : List ℕ) → answering ≡ false
    → IsShown answering out given readable → IsShown answering out [] readable
said_alone true out given readable none said = absurd cc
said_alone false out given readable none said = (refl, said.1)

-- The text is dropped while its message hasn't ended.
pub text_dropped_stands : (contents new : Contents) (acts : List ExchangeAct) → IsTrue (is_open contents)
    → new ≡ record empty { answering = contents.answering; output = contents.output } → StandsFor contents acts
    → StandsFor new (TextDropped ∷ acts)
text_dropped_stands contents new acts open_now is s =
    let none = s.no_answers (not_true contents.ended open_now) in
    rw is (record {
      message = [];
      executed = [];
      text_left = refl;
      size = refl;
      placed = λ short. placed_first _ _ _ refl refl;
      count = refl;
      no_response = λ later. absurd cc;
      whole = λ unended short. refl;
      unbegun = λ unended. refl;
      no_answers = λ unended. none;
      overrun_reported = refl;
      answers_dropped = refl;
      shows = said_alone contents.answering contents.output (answers acts) (response acts) none s.shows;
    })

-- A device clear leaves nothing.
pub cleared_stands : (new : Contents) (acts : List ExchangeAct) → new ≡ empty → StandsFor new (Interrupted ∷ TextDropped ∷ acts)
cleared_stands new acts is =
    rw is (record {
      message = [];
      executed = [];
      text_left = refl;
      size = refl;
      placed = λ short. placed_first _ _ _ refl refl;
      count = refl;
      no_response = λ later. refl;
      whole = λ unended short. refl;
      unbegun = λ unended. refl;
      no_answers = λ unended. refl;
      overrun_reported = refl;
      answers_dropped = refl;
      shows = (refl, refl);
    })

-- Before any act, nothing is stored.
pub new_stands : (new : Contents) → new ≡ empty → StandsFor new []
new_stands new is =
    rw is (record {
      message = [];
      executed = [];
      text_left = refl;
      size = refl;
      placed = λ short. placed_first _ _ _ refl refl;
      count = refl;
      no_response = λ later. refl;
      whole = λ unended short. refl;
      unbegun = λ unended. refl;
      no_answers = λ unended. refl;
      overrun_reported = refl;
      answers_dropped = refl;
      shows = (refl, refl);
    })
