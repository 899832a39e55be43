use Rattle.std.proofs.Common.{arith}
use Rattle.sv_server.proofs.OnConnection.Replies.{answer_is_short}
use Rattle.sv_server.proofs.connection.reply.put_reply.Goals as goal

pub put_through-requires-clause-fits : goal.put_through-requires-clause-fits
put_through-requires-clause-fits g c =
    let brief = c.is_brief.ensures c.if-is_brief.true in
    omega (arith, answer_is_short 63 c.args.xid c.args.answer.now brief)

pub put_through-requires-else-is_brief-clause-fits : goal.put_through-requires-else-is_brief-clause-fits
put_through-requires-else-is_brief-clause-fits g c =
    omega (arith, answer_is_short 2047 c.args.xid c.args.answer.now c.requires.short)
