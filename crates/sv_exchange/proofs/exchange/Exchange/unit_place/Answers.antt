use Rattle.std.proofs.Common.{arith}
use Rattle.sv_exchange.proofs.Fields.{rest_size}
use Rattle.sv_exchange.proofs.Looking.{unit_within}
use Rattle.sv_exchange.proofs.Placed.{place_is}
use Rattle.sv_exchange.proofs.exchange.Exchange.unit_place.Goals as goal

pub overflow_cast-result : goal.overflow_cast-result
overflow_cast-result g c =
    let order = c.self.invariant.0.order in
    let size = rest_size c.self.inside.text.items c.self.inside.cursor c.self.inside.end order.0 (omega (arith, order)) in
    let within = unit_within c.self.inside.ahead _ c.self.invariant.1.begun in
    omega (arith, within, size, order, c.self.invariant.2)

pub returns : goal.returns
returns g c = rw (← c.self.view_is)
    (λ acts unit s next. place_is _ acts unit c.self.inside.ahead c.self.invariant.1 s next)
