use Rattle.std.proofs.Common.{◌+◌, ◌≤◌, length}
use Rattle.sv_replay.specs.ScenarioStage.{IsRead}
use Rattle.sv_replay.proofs.scenario.read_scenario.Given as goal

-- The lines before the remaining text were read; they describe the entries so far.
abbrev pub invariant-loop-line : goal.invariant-loop-line
invariant-loop-line g l =
    IsRead l.text l.number l.entries.items l.least l.rest × (l.number + length l.rest ≤ length l.text)

-- Each turn takes a line off the remaining text.
abbrev pub decreases-loop-line : goal.decreases-loop-line
decreases-loop-line g l = length l.rest
