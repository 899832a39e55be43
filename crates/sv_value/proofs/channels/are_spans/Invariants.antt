use Rattle.std.proofs.Common.{◌≡◌, length}
use Rattle.std.specs.Prelude.{is_some}
use Rattle.std.specs.List.{list_all}
use Rattle.sv_text.specs.Cut.{cut_at}
use Rattle.sv_value.specs.Channels.{span}
use Rattle.sv_value.proofs.channels.are_spans.Given as goal

-- All items so far have the right form.
abbrev pub invariant-loop-item : goal.invariant-loop-item
invariant-loop-item l = list_all (λ item. is_some (span item)) (cut_at 44 l.items)
    ≡ list_all (λ item. is_some (span item)) (cut_at 44 l.rest)

abbrev pub decreases-loop-item : goal.decreases-loop-item
decreases-loop-item l = length l.rest
