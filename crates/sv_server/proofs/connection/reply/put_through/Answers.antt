use Rattle.std.proofs.Common.{List, ℕ, ◌++◌, length, ap, ◌∙◌, arith}
use Rattle.std.specs.Prelude.{true}
use Rattle.sv_rpc.specs.Record.{fragment}
use Rattle.sv_server.proofs.OnConnection.Replies.{answer_is_short}
use Rattle.sv_server.proofs.connection.reply.put_through.Goals as goal

pub put_record-requires-clause-fits : goal.put_record-requires-clause-fits
put_record-requires-clause-fits g c =
    omega (
      arith,
      ap length (c.text.ensures ∙ c.write_answer.ensures.written),
      answer_is_short 2047 c.args.xid c.args.answer.now c.requires.short,
      c.requires.room,
    )

pub put_record-requires-clause-short : goal.put_record-requires-clause-short
put_record-requires-clause-short g c =
    let text = c.text.ensures ∙ c.write_answer.ensures.written in
    omega (arith, ap length text, answer_is_short 2047 c.args.xid c.args.answer.now c.requires.short)

pub returns-clause-sent : goal.returns-clause-sent
returns-clause-sent g c =
    c.put_record.ensures.sent ∙ ap (λ (t : List ℕ). c.args.out.now.items ++ fragment true t)
    (c.text.ensures ∙ c.write_answer.ensures.written)

pub returns-clause-bounded : goal.returns-clause-bounded
returns-clause-bounded g c =
    omega (
      arith,
      c.put_record.ensures.bounded,
      ap length (c.text.ensures ∙ c.write_answer.ensures.written),
      answer_is_short 2047 c.args.xid c.args.answer.now c.requires.short,
    )
