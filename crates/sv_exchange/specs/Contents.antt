-- The state of message exchange, and when it stands for a list of acts.
use Rattle.std.specs.Prelude.{◌≡◌, ◌≢◌, ℕ, ◌+◌, ◌*◌, ◌==◌, Bool, true, false, not, ◌&&◌, List, [], ◌∷◌, ◌++◌, length, drop, map, Option, None, nat_lt, slice_get, if◌then◌else◌}
use Rattle.sv_exchange.specs.declared.exchange.Next.{Next}
use Rattle.sv_exchange.specs.declared.exchange.Next.TheVariants as next
use Rattle.sv_exchange.specs.Exchange.{ExchangeAct, Symbol, Byte, end_mark, text, messages, messages_finished, current, units_done, has_overrun, has_dropped, answers, units, is_something, joined_answers, response, Due, NothingDue, OverrunDue, InterruptDue, UnitDue, FinishDue, due_unit}
use Rattle.sv_exchange.specs.Limits.{max_message}

-- the state. First: the part of the current message that wasn't executed yet; how many bytes of the
-- message come before this part; and whether the message has ended. The text after the message, and
-- whether END follows this text. Then: whether the current message is too long, whether it was
-- reported as too long, and whether its answers were dropped. Last: the output, which is the
-- answers of the current message if `answering` is true, else the response.
pub record Contents : Type 0 where
  pub rest : List ℕ
  pub place : ℕ
  pub ended : Bool
  pub later : List ℕ
  pub end_pending : Bool
  pub overlong : Bool
  pub overrun_reported : Bool
  pub answers_dropped : Bool
  pub answering : Bool
  pub output : List ℕ

-- the state in which no bytes of a message are stored, and nothing can be read
abbrev pub empty : Contents
empty = record {
  rest = [];
  place = 0;
  ended = false;
  later = [];
  end_pending = false;
  overlong = false;
  overrun_reported = false;
  answers_dropped = false;
  answering =
      false;
  output = [];
}

-- bytes as symbols of program text, with a mark after them if END follows
abbrev pub symbols : List ℕ → Bool → List Symbol
symbols bytes end_pending = map Byte bytes ++ end_mark end_pending

-- the messages after the current one; no messages if the current one hasn't ended
abbrev pub following : Bool → List ℕ → Bool → List (List ℕ)
following true later end_pending = messages (symbols later end_pending)
following false later end_pending = []

-- Either the current message has answers: the stored output is these answers, joined, and nothing
-- can be read. Or this message has no answers: the stored output is the response, which can be
-- read.
abbrev pub IsShown : Bool → List ℕ → List (List ℕ) → List ℕ → Type 0
IsShown true output given readable = (given ≢ []) × (output ≡ joined_answers given) × (readable ≡ [])
IsShown false output given readable = (given ≡ []) × (readable ≡ output)

-- After its first `place` bytes (`consumed`), the message goes on with `rest`. The message has the
-- units that were executed, and then those of `rest`. If there is a rest, then `consumed` has
-- exactly the units that were executed, whatever follows it (`behind`).
pub record IsPlaced (place : ℕ) (rest message : List ℕ) (executed : List (List ℕ)) : Type 0 where
  pub consumed : List ℕ
  pub joined : message ≡ consumed ++ rest
  pub size : place ≡ length consumed
  pub units_left : units message ≡ executed ++ units rest
  pub behind : rest ≢ [] → (more : List ℕ) → units (consumed ++ more) ≡ executed ++ units more

-- The state stands for the acts. `message` is the current message, and `executed` lists the units
-- of this message that were executed.
pub record StandsFor (contents : Contents) (acts : List ExchangeAct) : Type 0 where
  pub message : List ℕ
  pub executed : List (List ℕ)
  pub text_left : drop (messages_finished acts) (messages (text acts)) ≡ message
      ∷ following contents.ended contents.later contents.end_pending
  pub size : contents.overlong ≡ nat_lt max_message (length message)
  pub placed : contents.overlong ≡ false → IsPlaced contents.place contents.rest message executed
  pub count : length executed ≡ units_done (current acts)
  pub no_response : (units_done (current acts) == 0) ≡ false → response acts ≡ []
  pub whole : contents.ended ≡ false → contents.overlong ≡ false → message ≡ contents.rest
  pub unbegun : contents.ended ≡ false → executed ≡ []
  pub no_answers : contents.ended ≡ false → contents.answering ≡ false
  pub overrun_reported : has_overrun (current acts) ≡ contents.overrun_reported
  pub answers_dropped : has_dropped (current acts) ≡ contents.answers_dropped
  pub shows : IsShown contents.answering contents.output (answers acts) (response acts)

-- whether the current message hasn't ended yet
abbrev pub is_open : Contents → Bool
is_open contents = not contents.ended

-- what a read can return of the stored output. If the flag is true, the output is the answers of
-- the current message so far, and nothing can be read; else all bytes can be read.
abbrev pub readable_of : Bool → List ℕ → List ℕ
readable_of true output = []
readable_of false output = output

-- the bytes of the response that a read can return in this state
abbrev pub shown_by : Contents → List ℕ
shown_by contents = readable_of contents.answering contents.output

-- the next unit of the current message; `None` if no unit remains, the message hasn't ended, it is
-- too long, or its answers were dropped
abbrev pub unit_of : Contents → Option (List ℕ)
unit_of contents = if contents.ended && (not contents.overlong && not contents.answers_dropped) then slice_get (units contents.rest) 0
    else None

-- the step that is due in this state
abbrev pub next_of : Contents → Due
next_of contents = if contents.overlong && not contents.overrun_reported then OverrunDue else due_unit (unit_of contents)
    (is_something (shown_by contents)) contents.ended

-- The step that is due is the execution of a unit.
abbrev pub IsUnitDue : Due → Type 0
IsUnitDue due = (unit : List ℕ) × (due ≡ UnitDue unit)

-- whether a unit is allowed to give an answer: the current message has ended, its answers weren't
-- dropped, and there is no response to read
abbrev pub may_respond : Contents → Bool
may_respond contents = contents.ended && (not contents.answers_dropped && not (is_something (shown_by contents)))

-- 1 for true, 0 for false
abbrev pub bit : Bool → ℕ
bit true = 1
bit false = 0

-- how much text is left: the number of bytes of the current message that weren't executed yet. If
-- this message has ended (`true`), add 1 for its end, the number of bytes after it, and 1 if END
-- follows these bytes.
abbrev pub text_size : Bool → ℕ → ℕ → Bool → ℕ
text_size true rest later end_pending = rest + (1 + (later + bit end_pending))
text_size false rest later end_pending = rest

-- a measure of the work that remains: each step that is due lowers the measure, so repeated
-- stepping terminates
abbrev pub exchange_measure : Contents → ℕ
exchange_measure contents = 3 * text_size contents.ended (length contents.rest) (length contents.later) contents.end_pending +
    (bit (contents.overlong && not contents.overrun_reported) + bit (is_something (shown_by contents)))

-- the step that is due, as plain data
abbrev pub plain_next : Next → Due
plain_next next.Nothing = NothingDue
plain_next next.Overrun = OverrunDue
plain_next next.Interrupt = InterruptDue
plain_next (next.Unit unit) = UnitDue unit.now
plain_next next.Finish = FinishDue
