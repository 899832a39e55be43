-- Message exchange (IEEE 488.2, 6.1 and 6.3): program text, its messages and units, and the
-- response. Each is defined by a search of the acts, the newest first.
use Rattle.std.specs.Prelude.{ℕ, ◌+◌, ◌==◌, Bool, true, false, not, ◌&&◌, List, [], ◌∷◌, ◌++◌, length, drop, map, filter, Option, Some, None, nat_lt, slice_get, slice_index_or, if◌then◌else◌}
use Rattle.std.specs.List.{list_any, join_with_byte, onto_first}
use Rattle.sv_logs.specs.Since.{since, newest}
use Rattle.sv_text.specs.Cut.{cut_at}
use Rattle.sv_text.specs.White.{trim}
use Rattle.sv_exchange.specs.Limits.{max_message, max_response}

-- what happens to program text and responses: bytes of a write are accepted; the text is dropped; a
-- message that is too long is reported; a unit is done; an answer is given; the answers are
-- dropped; a message is finished; the response is interrupted; or bytes of the response are read
pub data ExchangeAct : Type 0 where
  Accepted : (bytes : List ℕ) (ended : Bool) → ExchangeAct
  TextDropped : ExchangeAct
  Overran : ExchangeAct
  UnitDone : ExchangeAct
  Answered : (text : List ℕ) → ExchangeAct
  AnswersDropped : ExchangeAct
  Finished : ExchangeAct
  Interrupted : ExchangeAct
  ResponseRead : (count : ℕ) → ExchangeAct

-- a symbol of program text: a byte, or the mark after the last byte of a write with END
pub data Symbol : Type 0 where
  Byte : ℕ → Symbol
  End : Symbol

-- the mark after a write that had END; empty if the write had no END
abbrev pub end_mark : Bool → List Symbol
end_mark ended = if ended then End ∷ [] else []

-- whether the newest act drops the program text
abbrev pub drops_text : List ExchangeAct → Bool
drops_text = elim [ TextDropped ∷ acts ↦ true | _ ↦ false ]

-- the text of all writes that were accepted in these acts, the oldest write first
abbrev pub symbols_of : List ExchangeAct → List Symbol
symbols_of [] = []
symbols_of (Accepted bytes ended ∷ acts) = symbols_of acts ++ (map Byte bytes ++ end_mark ended)
symbols_of (_ ∷ acts) = symbols_of acts

-- the text that was accepted since text was last dropped
abbrev pub text : List ExchangeAct → List Symbol
text acts = symbols_of (since drops_text acts)

-- The text, cut at each new line and each END mark. Each part but the last is a message that has
-- ended. The last part is a message that hasn't ended yet.
abbrev pub messages : List Symbol → List (List ℕ)
messages [] = [] ∷ []
messages (End ∷ symbols) = [] ∷ messages symbols
messages (Byte b ∷ symbols) = if b == 10 then [] ∷ messages symbols else onto_first b (messages symbols)

-- how many messages were finished since text was last dropped
abbrev pub messages_finished : List ExchangeAct → ℕ
messages_finished acts = length (filter (elim [ Finished ↦ true | _ ↦ false ]) (since drops_text acts))

-- the acts since the current message began: since the newest act that finished a message or dropped
-- the text
abbrev pub current : List ExchangeAct → List ExchangeAct
current acts = since (elim [ Finished ∷ older ↦ true | TextDropped ∷ older ↦ true | _ ↦ false ]) acts

-- how many units were executed in these acts
abbrev pub units_done : List ExchangeAct → ℕ
units_done acts = length (filter (elim [ UnitDone ↦ true | _ ↦ false ]) acts)

-- whether one of these acts reported a message as too long
abbrev pub has_overrun : List ExchangeAct → Bool
has_overrun acts = list_any (elim [ Overran ↦ true | _ ↦ false ]) acts

-- whether one of these acts dropped answers
abbrev pub has_dropped : List ExchangeAct → Bool
has_dropped acts = list_any (elim [ AnswersDropped ↦ true | _ ↦ false ]) acts

-- the answers that units gave in these acts, the oldest first
abbrev pub all_answers : List ExchangeAct → List (List ℕ)
all_answers [] = []
all_answers (Answered answer ∷ acts) = all_answers acts ++ answer ∷ []
all_answers (_ ∷ acts) = all_answers acts

-- the answers of the current message; none if the answers were dropped
abbrev pub answers : List ExchangeAct → List (List ℕ)
answers acts = if has_dropped (current acts) then [] else all_answers (current acts)

-- the current message: the first message in the text that isn't finished yet
abbrev pub message : List ExchangeAct → List ℕ
message acts = slice_index_or (messages (text acts)) (messages_finished acts) []

-- whether the current message has ended
abbrev pub has_ended : List ExchangeAct → Bool
has_ended acts = nat_lt (messages_finished acts + 1) (length (messages (text acts)))

-- whether the current message is too long: more than 4,096 bytes
abbrev pub is_long : List ExchangeAct → Bool
is_long acts = nat_lt max_message (length (message acts))

-- whether a list isn't empty
abbrev pub is_something : {A : Type 0} → List A → Bool
is_something [] = false
is_something (x ∷ xs) = true

-- the units of a message: the parts between semicolons, without white space around them; empty
-- parts are left out
abbrev pub units : List ℕ → List (List ℕ)
units bytes = filter is_something (map trim (cut_at 59 bytes))

-- the unit of the current message to execute next; `None` if no unit remains, the message hasn't
-- ended, it is too long, or its answers were dropped
abbrev pub next_unit : List ExchangeAct → Option (List ℕ)
next_unit acts =
    if has_ended acts && (not (is_long acts) && not (has_dropped (current acts))) then slice_get (units (message acts))
    (units_done (current acts)) else None

-- answers joined by semicolons
abbrev pub joined_answers : List (List ℕ) → List ℕ
joined_answers = join_with_byte 59

-- whether the newest act replaces the response: it finishes a message that has answers, which
-- become the response; or it interrupts the response, which becomes empty
abbrev pub renews : List ExchangeAct → Bool
renews (Finished ∷ acts) = is_something (answers acts)
renews (Interrupted ∷ acts) = true
renews _ = false

-- the new response, if the newest act replaces the response: the joined answers of the message that
-- the act finishes, and a new line; empty if the act interrupts the response
abbrev pub new_response : List ExchangeAct → List ℕ
new_response (Finished ∷ acts) = joined_answers (answers acts) ++ 10 ∷ []
new_response _ = []

-- how many bytes of responses were read in these acts
abbrev pub bytes_read : List ExchangeAct → ℕ
bytes_read [] = 0
bytes_read (ResponseRead count ∷ acts) = bytes_read acts + count
bytes_read (_ ∷ acts) = bytes_read acts

-- what can be read: the newest response, without those of its bytes that were read already
abbrev pub response : List ExchangeAct → List ℕ
response acts = drop (bytes_read (since renews acts)) (new_response (newest renews acts))

-- What is due: nothing; to report, once, a message that is too long; to interrupt a response that
-- wasn't read to its end, because a unit of a new message is to start; to start a unit; or to
-- finish a message that has ended.
pub data Due : Type 0 where
  NothingDue : Due
  OverrunDue : Due
  InterruptDue : Due
  UnitDue : (text : List ℕ) → Due
  FinishDue : Due

-- The step that is due. With a next unit (`Some`): the response is interrupted if `interrupts` is
-- true; else the unit starts. Without a next unit (`None`): the message is finished if it has
-- ended; else nothing is due.
abbrev pub due_unit : Option (List ℕ) → Bool → Bool → Due
due_unit (Some unit) interrupts ended = if interrupts then InterruptDue else UnitDue unit
due_unit None interrupts ended = if ended then FinishDue else NothingDue

-- the step that is due after these acts
abbrev pub due : List ExchangeAct → Due
due acts =
    if is_long acts && not (has_overrun (current acts)) then OverrunDue
    else due_unit (next_unit acts) ((units_done (current acts) == 0) && is_something (response acts)) (has_ended acts)

-- whether a response has room for the answers `before`, for `answer` after them, and for the new
-- line
abbrev pub fits_response : List (List ℕ) → List ℕ → Bool
fits_response before answer = nat_lt (length (joined_answers (before ++ answer ∷ []))) max_response
