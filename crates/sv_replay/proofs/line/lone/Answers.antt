-- The line is compared as bytes with each line of one word.
use Rattle.std.proofs.Common.{refl, ◌≡◌, rules, arith}
use Rattle.std.specs.Prelude.{codes}
use Rattle.std.proofs.lemmas.Slice.Eq.{text_from_reads}
use Rattle.sv_replay.specs.Reading.{lone_at}
use Rattle.sv_replay.proofs.line.lone.Goals as goal

pub returns-in-external : goal.returns-in-external
unfolding lone_at
returns-in-external c =
    let word : c.args.word.now ≡ codes "external" = text_from_reads c.args.word.now (codes "external") (omega arith) (search rules) in
    rw word refl
