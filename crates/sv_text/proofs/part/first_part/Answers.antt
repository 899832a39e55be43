use Rattle.std.proofs.Common.{◌+◌}
use Rattle.std.proofs.lemmas.List.{take_rest}
use Rattle.sv_text.proofs.Parts.{first_part_is_cut, whole_text_is_part, first_part_rejoins}
use Rattle.sv_text.proofs.part.first_part.Goals as goal

pub returns-then-size-bytes-clause-parts : goal.returns-then-size-bytes-clause-parts
returns-then-size-bytes-clause-parts c =
    rw (take_rest c.args.bytes.now (c.place_of-size.result + 1))
    (first_part_is_cut c.args.separator _ c.args.bytes.now c.place_of-size.ensures.value c.if-size-bytes.true)

pub returns-then-size-bytes-clause-whole : goal.returns-then-size-bytes-clause-whole
returns-then-size-bytes-clause-whole c =
    rw (take_rest c.args.bytes.now (c.place_of-size.result + 1))
    (first_part_rejoins c.args.separator _ c.args.bytes.now c.place_of-size.ensures.value c.if-size-bytes.true)

pub returns-else-size-bytes-clause-parts : goal.returns-else-size-bytes-clause-parts
returns-else-size-bytes-clause-parts c = whole_text_is_part c.args.separator _ c.args.bytes.now c.place_of-size.ensures.value
    c.if-size-bytes.false
