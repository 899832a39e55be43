use Rattle.std.proofs.Common.{◌≡◌, ◌∷◌, ◌++◌, List, ℕ, [], ap, length, sym, subst, ◌∙◌, arith}
use Rattle.std.specs.Prelude.{map}
use Rattle.std.specs.List.{concat}
use Rattle.std.proofs.lemmas.List.{append-nil}
use Rattle.sv_xdr.specs.Spelling.{Field, Unsigned, spelling}
use Rattle.sv_xdr.specs.Writer.{text_of}
use Rattle.sv_xdr.proofs.Appended.{each_last}
use Rattle.sv_xdr.proofs.Whole.{whole_is_written}
use Rattle.sv_vxi.specs.Results.{plain_result, result_fields}
use Rattle.sv_rpc.specs.Reply.{reply_fields}
use Rattle.sv_server.specs.Connection.Inside.Replies.{IsShort}
use Rattle.sv_server.proofs.OnConnection.Replies.{Written, HasRoom, both_are_written}
use Rattle.sv_server.proofs.connection.reply.write_answer.Goals as goal

pub returns-in-Header-clause-written : goal.returns-in-Header-clause-written
returns-in-Header-clause-written c =
    let fields = reply_fields c.args.xid c.in-Header.reply in
    let room = subst (HasRoom c.args.xid c.args.writer.now) c.in-Header.is c.requires.room in
    let whole = ap (λ (fs : List Field). length (concat (map spelling fs))) (append-nil fields) in
    let written = whole_is_written (map spelling fields) _ _ _ c.write_reply.ensures.writes (omega (arith, whole, room)) in
    let text : text_of c.write_reply.new.writer ≡ concat (map spelling (fields ++ [])) =
    written.text ∙ ap (λ (t : List ℕ). t ++ concat (map spelling fields)) c.requires.empty
    ∙ ap (λ (fs : List Field). concat (map spelling fs)) (sym (append-nil fields)) in
    subst (Written c.args.xid c.write_reply.new.writer) (sym c.in-Header.is) text

pub returns-in-Port-clause-written : goal.returns-in-Port-clause-written
returns-in-Port-clause-written c =
    let fields : List Field = Unsigned c.in-Port.port ∷ [] in
    let word = spelling (Unsigned c.in-Port.port) in
    let written = each_last word c.u32.result c.write_reply-in-Port.new.writer c.u32.new.self c.u32.ensures.exact in
    let text = both_are_written c.args.xid fields c.write_reply-in-Port.result c.u32.result c.args.writer.now
    c.write_reply-in-Port.new.writer c.u32.new.self c.requires.empty
    (subst (HasRoom c.args.xid c.args.writer.now) c.in-Port.is c.requires.room)
    c.write_reply-in-Port.ensures.writes written in
    subst (Written c.args.xid c.u32.new.self) (sym c.in-Port.is) text

pub returns-in-Result-clause-written : goal.returns-in-Result-clause-written
returns-in-Result-clause-written c =
    let brief = subst IsShort c.in-Result.is c.requires.short in
    let text = both_are_written c.args.xid (result_fields (plain_result c.in-Result.outcome)) c.write_reply-in-Result.result
    c.write_result.result c.args.writer.now c.write_reply-in-Result.new.writer c.write_result.new.writer c.requires.empty
    (subst (HasRoom c.args.xid c.args.writer.now) c.in-Result.is c.requires.room)
    c.write_reply-in-Result.ensures.writes (c.write_result.ensures.writes (omega (arith, brief))) in
    subst (Written c.args.xid c.write_result.new.writer) (sym c.in-Result.is) text
