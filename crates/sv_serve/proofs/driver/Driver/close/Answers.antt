use Rattle.std.proofs.Common.{ap, ◌∙◌}
use Rattle.sv_history.specs.declared.event.Port.TheVariants.{Conn}
use Rattle.sv_history.specs.Event.{Close}
use Rattle.sv_serve.specs.DriverView.{driver_view}
use Rattle.sv_serve.proofs.Suited.{close_suits, closes_channel_same_history, still_suited}
use Rattle.sv_serve.proofs.driver.Driver.close.Goals as goal

pub returns : goal.returns
returns g c = λ first config history stands is_open.
    let (h0, s0, p0) = c.close_socket.ensures _ config history stands in
    let (h1, s1, p1) = c.close_channel.ensures _ config h0 s0 in
    let hung = closes_channel_same_history g.W.Wire.hears c.args.conn config (driver_view c.close_socket.new.self h0)
    (driver_view c.close_channel.new.self h1) p1 in
    let suits = close_suits (Conn c.args.conn) config (driver_view c.args.self.now history) is_open in
    let still = still_suited (Close (Conn c.args.conn)) config (driver_view c.args.self.now history)
    (driver_view c.close_channel.new.self h1)
    (hung ∙ ap (λ m. m.history) p0.2) suits in
    let (h2, s2, p2) = c.apply.ensures _ config h1 s1 still in
    (h2, s2, (driver_view c.close_socket.new.self h0, p0, (driver_view c.close_channel.new.self h1, p1, p2)))
