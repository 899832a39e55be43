use Rattle.std.proofs.Common.{rules}
use Rattle.sv_xdr.specs.Spelling.{Opaque, spelling}
use Rattle.sv_xdr.proofs.Spelled.{opaque_spelled}
use Rattle.sv_xdr.proofs.Appended.{opaque_appended}
use Rattle.sv_xdr.proofs.writer.Writer.opaque.Goals as goal

pub returns-clause-spelled : goal.returns-clause-spelled
returns-clause-spelled c =
    let text = c.args.text.now in (
      spelling (Opaque text),
      opaque_spelled text (search rules),
      opaque_appended c.to_be_bytes.result text c.pad_len-pad.result c.args.self.now c.put.new.self c.put-2.new.self c.put-3.new.self
          (search rules) (search rules) c.put.ensures.appends c.put-2.ensures.appends c.put-3.ensures.appends,
    )

pub returns-clause-exact : goal.returns-clause-exact
returns-clause-exact c =
    λ _. opaque_appended c.to_be_bytes.result c.args.text.now c.pad_len-pad.result c.args.self.now c.put.new.self c.put-2.new.self
    c.put-3.new.self (search rules) (search rules) c.put.ensures.appends c.put-2.ensures.appends c.put-3.ensures.appends

pub returns-in_default-clause-too_long : goal.returns-in_default-clause-too_long
returns-in_default-clause-too_long c = search rules

pub returns-clause-same_buffer : goal.returns-clause-same_buffer
returns-clause-same_buffer c = search rules
