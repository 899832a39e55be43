use Rattle.std.proofs.Common.{arith}
use Rattle.sv_rpc.proofs.Steps.{header_of_word}
use Rattle.sv_rpc.proofs.record_buf.word_of.Goals as goal

pub returns-clause-header : goal.returns-clause-header
returns-clause-header c = header_of_word c.args.header.now c.from_be_bytes.result c.requires
    (λ i. omega (arith, c.type_inv.header i)) c.from_be_bytes.ensures (omega arith)
