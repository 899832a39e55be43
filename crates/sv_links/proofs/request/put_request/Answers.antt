use Rattle.std.proofs.Common.{◌≡◌, ◌++◌, List, ℕ, ap, length, ◌∙◌, arith}
use Rattle.std.specs.Prelude.{true}
use Rattle.sv_rpc.specs.Record.{fragment}
use Rattle.sv_links.proofs.Requests.{text, text_is_written, text_is_short}
use Rattle.sv_links.proofs.request.put_request.Goals as goal
use Rattle.sv_links.proofs.request.put_request.Given as given

-- The header and the handle are written.
text_is : (g : given.Over) (c : goal.After-text g) → c.text.result.now ≡ text c.args.xid c.args.peer c.args.handle.now
text_is g c =
    c.text.ensures
    ∙ text_is_written c.args.xid c.args.peer c.args.handle.now c.write_call.result c.opaque.result c.new-writer.result
    c.write_call.new.writer c.opaque.new.self c.new-writer.ensures.text c.requires.short
    (omega (arith, ap length c.new-writer.ensures.rest)) c.write_call.ensures.writes c.opaque.ensures.exact

pub put_record-requires-clause-fits : goal.put_record-requires-clause-fits
put_record-requires-clause-fits g c =
    omega (
      arith,
      ap length (text_is g c),
      text_is_short c.args.xid c.args.peer c.args.handle.now c.requires.short,
      c.requires.room,
    )

pub put_record-requires-clause-short : goal.put_record-requires-clause-short
put_record-requires-clause-short g c =
    omega (arith, ap length (text_is g c), text_is_short c.args.xid c.args.peer c.args.handle.now c.requires.short)

pub returns-clause-sent : goal.returns-clause-sent
returns-clause-sent g c =
    let text = text_is_written c.args.xid c.args.peer c.args.handle.now c.write_call.result c.opaque.result c.new-writer.result
    c.write_call.new.writer c.opaque.new.self c.new-writer.ensures.text c.requires.short
    (omega (arith, ap length c.new-writer.ensures.rest)) c.write_call.ensures.writes c.opaque.ensures.exact in
    c.put_record.ensures.sent ∙ ap (λ (t : List ℕ). c.args.out.now.items ++ fragment true t) (c.text.ensures ∙ text)
