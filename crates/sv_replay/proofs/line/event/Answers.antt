-- The first word is compared as bytes, which decides which event the line can describe.
use Rattle.std.proofs.Common.{◌≡◌, rules, arith}
use Rattle.std.specs.Prelude.{codes}
use Rattle.std.proofs.lemmas.Slice.Eq.{text_from_reads}
use Rattle.sv_replay.specs.Reading.{event_at}
use Rattle.sv_replay.proofs.line.event.Goals as goal

pub returns-in-dialed : goal.returns-in-dialed
unfolding event_at
returns-in-dialed c =
    let word : c.args.word.now ≡ codes "dialed" = text_from_reads c.args.word.now (codes "dialed") (omega arith) (search rules) in
    rw word c.dialed.ensures
