-- A reply fits in the buffer into which it is written.
use Rattle.std.proofs.Common.{◌≡◌, ℕ, ◌+◌, ◌*◌, ◌≤◌, List, [], ◌∷◌, ◌++◌, length, Result, refl, sym, ap, ◌∙◌, arith}
use Rattle.std.specs.Prelude.{map, replicate}
use Rattle.std.specs.List.{concat}
use Rattle.std.proofs.lemmas.List.{length-append, length-replicate, append-nil}
use Rattle.std.proofs.lemmas.List.Folds.{concat-append}
use Rattle.sv_xdr.specs.declared.fault.XdrFault.{XdrFault}
use Rattle.sv_xdr.specs.declared.writer.Writer.{Writer}
use Rattle.sv_xdr.specs.Spelling.{Field, Unsigned, Opaque, spelling, pad_len}
use Rattle.sv_xdr.specs.Writer.{text_of, rest_of, WritesEach}
use Rattle.sv_xdr.proofs.Whole.{room_left, whole_is_written}
use Rattle.sv_rpc.specs.declared.reply.Reply.{Reply}
use Rattle.sv_rpc.specs.declared.reply.Reply.TheVariants.{Success}
use Rattle.sv_rpc.specs.Reply.{reply_fields}
use Rattle.sv_server.specs.declared.outcome.Answer.{Answer}
use Rattle.sv_server.specs.declared.outcome.Answer.TheVariants as answers
use Rattle.sv_server.specs.Connection.Inside.Replies.{HasAtMost, answer_text}
use Rattle.sv_vxi.specs.Results.{Outcome, plain_result, Read, Data, result_fields, data_of}

-- The header of a reply has at most eight words.
pub reply_is_short : (xid : ℕ) (reply : Reply) → length (concat (map spelling (reply_fields xid reply))) ≤ 32
reply_is_short xid Success = omega arith
reply_is_short xid _ = omega arith

-- The header of a reply with a result has six words.
pub success_is_short : (xid : ℕ) → length (concat (map spelling (reply_fields xid Success))) ≡ 24
success_is_short xid = refl

-- Opaque data are spelled as one word with the length, and the data padded to whole words.
opaque_is_short : (words : ℕ) (bytes : List ℕ) → length bytes ≤ 4 * words + 4 → length (spelling (Opaque bytes)) ≤ 4 * words + 8
opaque_is_short words bytes h = omega (
  arith,
  length-append bytes (replicate (pad_len (length bytes)) 0),
  length-replicate {A = ℕ} (pad_len (length bytes)) 0,
)

-- A result with data has error, reason, length and the data's words; one without data has at most
-- four words.
result_is_short : (words : ℕ) (outcome : Outcome) → length (data_of outcome) ≤ 4 * words + 4
    → length (concat (map spelling (result_fields outcome))) ≤ 4 * words + 16
result_is_short words (Read error reason bytes) h =
    let text = data_of (Read error reason bytes) in
    omega (arith, opaque_is_short words text h, length-append (spelling (Opaque text)) [])
result_is_short words (Data error bytes) h =
    let text = data_of (Data error bytes) in
    omega (arith, opaque_is_short words text h, length-append (spelling (Opaque text)) [])
result_is_short words _ h = omega arith

-- The header of a reply and its fields are both written completely if they fit.
pub both_are_written : (xid : ℕ) (fields : List Field) (r s : Result Unit XdrFault) (old mid new : Writer) → text_of old ≡ []
    → length (concat (map spelling (reply_fields xid Success ++ fields))) ≤ length (rest_of old)
    → WritesEach (map spelling (reply_fields xid Success)) r old mid → WritesEach (map spelling fields) s mid new
    → text_of new ≡ concat (map spelling (reply_fields xid Success ++ fields))
both_are_written xid fields r s old mid new empty room first second =
    let header = map spelling (reply_fields xid Success) in
    let body = map spelling fields in
    let whole = ap length (concat-append header body) in
    let parts = length-append (concat header) (concat body) in
    let one = whole_is_written header r old mid first (omega (arith, whole, parts, room)) in
    let left = room_left (concat header) old mid one in
    let two = whole_is_written body s mid new second (omega (arith, whole, parts, room, left)) in
    let text : text_of new ≡ ([] ++ concat header) ++ concat body =
    two.text ∙ ap (λ (t : List ℕ). t ++ concat body) (one.text ∙ ap (λ (t : List ℕ). t ++ concat header) empty) in
    text ∙ sym (concat-append header body)

reply_fits : (xid most : ℕ) (fields : List Field) → length (concat (map spelling fields)) ≤ most
    → length (concat (map spelling (reply_fields xid Success ++ fields))) ≤ most + 24
reply_fits xid most fields short =
    let header = map spelling (reply_fields xid Success) in
    let body = map spelling fields in
    omega (arith, ap length (concat-append header body), length-append (concat header) (concat body), success_is_short xid)

-- The writer has exactly the reply with this answer.
abbrev pub Written : ℕ → Writer → Answer → Type 0
Written xid writer answer = text_of writer ≡ answer_text xid answer

-- The reply with this answer fits in the rest of the buffer.
abbrev pub HasRoom : ℕ → Writer → Answer → Type 0
HasRoom xid writer answer = length (answer_text xid answer) ≤ length (rest_of writer)

-- A reply is at most 36 bytes longer than the limit for its data.
pub answer_is_short : (words xid : ℕ) (answer : Answer) → HasAtMost (4 * words + 4) answer
    → length (answer_text xid answer) ≤ 4 * words + 40
answer_is_short words xid (answers.Header reply) short =
    omega (
      arith,
      reply_is_short xid reply,
      ap (λ (fs : List Field). length (concat (map spelling fs)))
          (append-nil (reply_fields xid reply)),
    )
answer_is_short words xid (answers.Port port) short =
    let fits = reply_fits xid 4 (Unsigned port ∷ []) (omega arith) in omega (arith, fits)
answer_is_short words xid (answers.Result outcome) short =
    let fits = reply_fits xid (4 * words + 16) (result_fields (plain_result outcome)) (result_is_short words _ short) in
    omega (arith, fits)
