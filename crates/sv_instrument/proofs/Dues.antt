-- In a message, the first unit that isn't done is the unit that is due.
use Rattle.std.proofs.Common.{◌≡◌, ℕ, ◌==◌, Bool, true, false, not, ◌&&◌, List}
use Rattle.std.specs.Prelude.{Option, Some, None, if◌then◌else◌}
use Rattle.sv_exchange.specs.Exchange.{ExchangeAct, current, units_done, has_ended, is_long, has_overrun, next_unit, response, is_something, OverrunDue, UnitDue, due, due_unit}

found : (long : Bool) (unit : Option (List ℕ)) (interrupts ended : Bool) (text : List ℕ)
    → UnitDue text ≡ (if long then OverrunDue else due_unit unit interrupts ended) → unit ≡ Some text
found true unit interrupts ended text same = absurd cc
found false None interrupts true text same = absurd cc
found false None interrupts false text same = absurd cc
found false (Some unit) true ended text same = absurd cc
found false (Some unit) false ended text same = cc

pub unit_is_next : (acts : List ExchangeAct) (text : List ℕ) → UnitDue text ≡ due acts → next_unit acts ≡ Some text
unit_is_next acts text =
    found (is_long acts && not (has_overrun (current acts))) (next_unit acts)
    ((units_done (current acts) == 0) && is_something (response acts)) (has_ended acts) text
