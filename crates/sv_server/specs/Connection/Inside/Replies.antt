-- The reply to a call, in terms of the code's types.
use Rattle.std.specs.Prelude.{ℕ, ◌≤◌, List, [], ◌∷◌, ◌++◌, length, map, ⊤}
use Rattle.std.specs.List.{concat}
use Rattle.sv_xdr.specs.Spelling.{Unsigned, Field, spelling}
use Rattle.sv_rpc.specs.Reply.{reply_fields}
use Rattle.sv_rpc.specs.declared.reply.Reply.{Reply}
use Rattle.sv_rpc.specs.declared.reply.Reply.TheVariants.{Success}
use Rattle.sv_vxi.specs.Results.{plain_result, result_fields, data_of}
use Rattle.sv_exchange.specs.Limits.{max_read}
use Rattle.sv_history.specs.Reply.{reply_record}
use Rattle.sv_server.specs.declared.outcome.Answer.{Answer}
use Rattle.sv_server.specs.declared.outcome.Answer.TheVariants as answers

-- the kind of reply by which an answer is sent
abbrev pub reply_of : Answer → Reply
reply_of (answers.Header reply) = reply
reply_of (answers.Port port) = Success
reply_of (answers.Result outcome) = Success

-- the fields of an answer, which come after the header of its reply
abbrev pub fields_of : Answer → List Field
fields_of (answers.Header reply) = []
fields_of (answers.Port port) = Unsigned port ∷ []
fields_of (answers.Result outcome) = result_fields (plain_result outcome)

-- the bytes of the reply by which an answer is sent: the header and the fields
abbrev pub answer_text : ℕ → Answer → List ℕ
answer_text xid answer = concat (map spelling (reply_fields xid (reply_of answer) ++ fields_of answer))

-- the bytes of the reply by which an answer is sent, as a record
abbrev pub answer_bytes : ℕ → Answer → List ℕ
answer_bytes xid answer = reply_record xid (reply_of answer) (fields_of answer)

-- The answer has at most `most` bytes of data.
abbrev pub HasAtMost : ℕ → Answer → Type 0
HasAtMost most (answers.Header reply) = ⊤
HasAtMost most (answers.Port port) = ⊤
HasAtMost most (answers.Result outcome) = length (data_of (plain_result outcome)) ≤ most

-- The answer's data fit in one reply.
abbrev pub IsShort : Answer → Type 0
IsShort answer = HasAtMost max_read answer
