-- The word is compared as bytes with the word of each role.
use Rattle.std.proofs.Common.{refl, ◌≡◌, rules, arith}
use Rattle.std.specs.Prelude.{codes}
use Rattle.std.proofs.lemmas.Slice.Eq.{text_from_reads}
use Rattle.sv_replay.specs.Reading.{role_at}
use Rattle.sv_replay.proofs.line.role.Goals as goal

pub returns-in-portmap : goal.returns-in-portmap
unfolding role_at
returns-in-portmap c =
    let word : c.args.word.now ≡ codes "portmap" = text_from_reads c.args.word.now (codes "portmap") (omega arith) (search rules) in
    rw word refl
