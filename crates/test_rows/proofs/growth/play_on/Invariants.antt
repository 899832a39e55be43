use denote.Shadow.{shadow}
use denote.Text.{Utf8}
use Rattle.test_rows.proofs.growth.play_on.Given as goal

abbrev pub invariant-loop-line : goal.invariant-loop-line
invariant-loop-line l = shadow (Utf8 l.brought)
