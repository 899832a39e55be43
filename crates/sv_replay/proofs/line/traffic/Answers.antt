-- The first word is compared as bytes with `bytes`, `turn` and `refuse`.
use Rattle.std.proofs.Common.{◌≡◌, rules, ap, option_map, arith}
use Rattle.std.specs.Prelude.{codes}
use Rattle.std.proofs.lemmas.Slice.Eq.{text_from_reads}
use Rattle.sv_history.specs.Event.{Refuse}
use Rattle.sv_replay.specs.Reading.{traffic_at}
use Rattle.sv_replay.proofs.line.traffic.Goals as goal

pub returns-in_ok-byte-in-refuse : goal.returns-in_ok-byte-in-refuse
unfolding traffic_at
returns-in_ok-byte-in-refuse c =
    let word : c.args.word.now ≡ codes "refuse" = text_from_reads c.args.word.now (codes "refuse") (omega arith) (search rules) in
    rw word (ap (option_map Refuse) c.in_ok-byte-in-refuse.ensures)
