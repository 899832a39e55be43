-- The word is compared as bytes with `ok` and `failed`.
use Rattle.std.proofs.Common.{refl, ◌≡◌, rules, arith}
use Rattle.std.specs.Prelude.{codes}
use Rattle.std.proofs.lemmas.Slice.Eq.{text_from_reads}
use Rattle.sv_replay.specs.Reading.{ok_at}
use Rattle.sv_replay.proofs.line.outcome.Goals as goal

pub returns-in-failed : goal.returns-in-failed
unfolding ok_at
returns-in-failed c =
    let word : c.args.word.now ≡ codes "failed" = text_from_reads c.args.word.now (codes "failed") (omega arith) (search rules) in
    rw word refl
