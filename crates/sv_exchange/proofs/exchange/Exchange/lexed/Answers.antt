use Rattle.std.proofs.Common.{◌≡◌, Some, slice_get, slice_range, sym, subst, rules}
use Rattle.sv_lexer.specs.Unit.{IsLexed}
use Rattle.sv_lexer.specs.Partial.{Reads}
use Rattle.sv_exchange.specs.Exchange.{units}
use Rattle.sv_exchange.proofs.Looking.{unit_slice, found_unit_is_first}
use Rattle.sv_exchange.proofs.exchange.Exchange.lexed.Goals as goal

pub finish-requires : goal.finish-requires
finish-requires g c =
    let seen = c.self.invariant.1.begun.seen in
    rw c.deref.ensures.value (subst (Reads c.self.inside.ahead.partial) (sym (unit_slice c.self.inside.ahead _ seen)) seen.reads)

pub returns : goal.returns
returns g c = λ unit is.
    let due = rw (← c.self.view_is) at is in
    let first : slice_get (units (slice_range c.self.inside.text.items c.self.inside.cursor c.self.inside.end)) 0 ≡ Some unit =
    search rules in
    subst (IsLexed c.finish.result)
    (rw c.deref.ensures.value (found_unit_is_first c.self.inside.ahead _ unit c.self.invariant.1 first)) c.finish.ensures
