use Rattle.std.proofs.Common.{[], ◌++◌}
use base.Fml.{Lft}
use contract.BorrowLft.{◌⊑◌, ⊑_meet, ⊑_static}
use Rattle.sv_net.proofs.Running.{reports_before_sweep, sweep_before_reports}
use Rattle.sv_net.proofs.serving.sweep.Goals as goal

-- The borrow of a driver ends before each of its parts does. This is a lemma because the prover's
-- search takes long to split the list.
ends_first : (κ network memory socket stream listener : Lft) → κ ⊑ network → κ ⊑ memory → κ ⊑ socket → κ ⊑ stream → κ ⊑ listener
    → κ ⊑ (network ++ (memory ++ (socket ++ (stream ++ (listener ++ [])))))
    ++ (network ++ ((((((((socket ++ []) ++ (socket ++ [])) ++ []) ++ ((((socket ++ []) ++ (socket ++ [])) ++ []) ++ []))
    ++ (memory ++ [])) ++ (memory ++ [])) ++ [])))
ends_first κ network memory socket stream listener n m s t l =
    let none : κ ⊑ [] = ⊑_static κ in
    let one : κ ⊑ socket ++ [] = ⊑_meet κ _ _ s none in
    let two : κ ⊑ ((socket ++ []) ++ (socket ++ [])) ++ [] = ⊑_meet κ _ _ (⊑_meet κ _ _ one one) none in
    let owned : κ ⊑ memory ++ [] = ⊑_meet κ _ _ m none in
    ⊑_meet κ _ _ (⊑_meet κ _ _ n (⊑_meet κ _ _ m (⊑_meet κ _ _ s (⊑_meet κ _ _ t (⊑_meet κ _ _ l none)))))
    (⊑_meet κ _ _ n (⊑_meet κ _ _ (⊑_meet κ _ _ (⊑_meet κ _ _ (⊑_meet κ _ _ two (⊑_meet κ _ _ two none)) owned) owned) none))

pub wire-requires : goal.wire-requires
wire-requires g c κs h = (ends_first _ _ _ _ _ _ h.0 h.1.0 h.1.1.0 h.1.1.1.0 h.1.1.1.1.0, h.1.1.1.1.1)

pub wire-requires-else-ticks-eq0 : goal.wire-requires-else-ticks-eq0
wire-requires-else-ticks-eq0 g c κs h = (ends_first _ _ _ _ _ _ h.0 h.1.0 h.1.1.0 h.1.1.1.0 h.1.1.1.1.0, h.1.1.1.1.1)

pub sweep-requires : goal.sweep-requires
sweep-requires g c κs h = (ends_first _ _ _ _ _ _ h.0 h.1.0 h.1.1.0 h.1.1.1.0 h.1.1.1.1.0, h.1.1.1.1.1)

pub sweep-requires-else-ticks-eq0 : goal.sweep-requires-else-ticks-eq0
sweep-requires-else-ticks-eq0 g c κs h = (ends_first _ _ _ _ _ _ h.0 h.1.0 h.1.1.0 h.1.1.1.0 h.1.1.1.1.0, h.1.1.1.1.1)

pub report-requires : goal.report-requires
report-requires g c κs h = h

pub report-requires-else-ticks-eq0 : goal.report-requires-else-ticks-eq0
report-requires-else-ticks-eq0 g c κs h = h

pub returns-then-ticks-eq0 : goal.returns-then-ticks-eq0
returns-then-ticks-eq0 g c =
    reports_before_sweep _ _ _ _ _ _ _ _ c.if-ticks-eq0.true (rw c.wire.ensures at c.report.ensures)
    (rw c.if-ticks-eq0.true c.sweep.ensures)

pub returns-else-ticks-eq0 : goal.returns-else-ticks-eq0
returns-else-ticks-eq0 g c =
    sweep_before_reports _ _ _ _ _ _ _ _ (rw c.wire-else-ticks-eq0.ensures at c.report-else-ticks-eq0.ensures)
    c.sweep-else-ticks-eq0.ensures
