use Rattle.std.proofs.Common.{arith, length-drop}
use Rattle.sv_xdr.proofs.Buffer.{text_placed, rest_placed}
use Rattle.sv_xdr.proofs.writer.Writer.put.Goals as goal

pub returns-clause-appends : goal.returns-clause-appends
returns-clause-appends c =
    let writer = c.args.self.now in
    let bytes = c.args.bytes.now in
    record {
      text = text_placed writer.written _ writer.out.now c.copy_from_slice.new.self bytes writer.within c.copy_from_slice.ensures.after;
      rest = rest_placed writer.written _ writer.out.now c.copy_from_slice.new.self bytes writer.within
          (omega arith) c.copy_from_slice.ensures.after;
      fits = omega (arith, length-drop writer.written writer.out.now);
    }
