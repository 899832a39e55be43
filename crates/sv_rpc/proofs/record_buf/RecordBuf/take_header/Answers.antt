use Rattle.std.proofs.Common.{arith}
use Rattle.std.proofs.lemmas.List.{length-take-le}
use Rattle.sv_rpc.proofs.Goes.{header_goes_on, header_byte_stored, header_byte_opens_fragment, completed_header_word, three_header_bytes_came}
use Rattle.sv_rpc.proofs.Records.{header_keeps}
use Rattle.sv_rpc.proofs.Rooms.{header_fits}
use Rattle.sv_rpc.proofs.record_buf.RecordBuf.take_header.Goals as goal

pub invariant_of-self : goal.invariant_of-self
invariant_of-self g c =
    let header = rw (← c.self.view_is) at c.requires.header in
    header_keeps _ _ _ _ _ _ _ c.args.byte _ c.self.invariant header c.if-self-lt3.true

pub returns-then-self-lt3-clause-value : goal.returns-then-self-lt3-clause-value
returns-then-self-lt3-clause-value g c =
    header_byte_stored _ _ c.self.inside.header c.self.inside.header_len c.args.byte _ c.args.self.now c.self.view_is c.requires.header
    c.if-self-lt3.true c.self.told

pub returns-then-self-lt3-clause-stands : goal.returns-then-self-lt3-clause-stands
returns-then-self-lt3-clause-stands g c =
    header_goes_on _ _ _ _ c.args.self.now _ c.args.byte c.self.view_is c.requires.header (returns-then-self-lt3-clause-value g c)
    (λ three. absurd (omega (
      arith,
      three,
      c.if-self-lt3.true,
      c.self.told,
      length-take-le c.self.inside.header_len c.self.inside.header (omega (arith, c.if-self-lt3.true, c.self.told)),
    )))

pub open-requires-clause-fits : goal.open-requires-clause-fits
open-requires-clause-fits g c =
    let header = rw (← c.self.view_is) at c.requires.header in
    let three = three_header_bytes_came _ _ _ _ _ c.self.invariant.at header c.if-self-lt3.false in
    let came = length-take-le c.self.inside.header_len c.self.inside.header (omega (arith, three, c.self.told)) in
    header_fits _ _ _ _ c.args.self.now c.self.view_is c.requires.header (omega (arith, came, three)) c.requires.fits

pub returns-clause-value : goal.returns-clause-value
returns-clause-value g c =
    let header = rw (← c.self.view_is) at c.requires.header in
    header_byte_opens_fragment _ _ c.self.inside.header c.self.inside.header_len c.args.byte c.word_of-word.result _ c.args.self.now _
    c.self.view_is
    c.requires.header c.self.told (three_header_bytes_came _ _ _ _ _ c.self.invariant.at header c.if-self-lt3.false)
    c.word_of-word.ensures.value
    c.open.ensures

pub returns-clause-stands : goal.returns-clause-stands
returns-clause-stands g c =
    let header = rw (← c.self.view_is) at c.requires.header in
    header_goes_on _ _ _ _ c.args.self.now _ c.args.byte c.self.view_is c.requires.header (returns-clause-value g c)
    (λ _. completed_header_word c.self.inside.header c.self.inside.header_len c.args.byte c.word_of-word.result c.self.told
    (three_header_bytes_came _ _ _ _ _ c.self.invariant.at header c.if-self-lt3.false) c.word_of-word.ensures.value
    c.word_of-word.ensures.header)
