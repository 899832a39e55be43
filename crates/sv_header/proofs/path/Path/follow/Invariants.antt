use Rattle.std.proofs.Common.{◌≡◌, ◌≤◌, ◌+◌, ◌++◌, ◌∷◌, length, true}
use Rattle.std.specs.List.{list_all}
use Rattle.sv_header.specs.Plain.{is_short, sent_of}
use Rattle.sv_header.specs.Resolve.{full}
use Rattle.sv_header.proofs.path.Path.follow.Given as goal

-- The path so far and the mnemonics that remain are together those that were looked up.
abbrev pub invariant-loop-behind : goal.invariant-loop-behind
invariant-loop-behind l = record {
  same : l.self-inside.mnemonics.items ++ l.first ∷ sent_of l.behind ≡ full l.fn.self l.fn.header;
  few : length l.self-inside.mnemonics.items + 1 + length (sent_of l.behind) ≤ 5;
  short : list_all is_short (l.first ∷ sent_of l.behind) ≡ true;
}

abbrev pub decreases-loop-behind : goal.decreases-loop-behind
decreases-loop-behind l = length (sent_of l.behind)
