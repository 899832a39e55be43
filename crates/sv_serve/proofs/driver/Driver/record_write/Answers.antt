use Rattle.sv_history.specs.declared.event.Port.TheVariants.{Conn, Intr}
use Rattle.sv_history.specs.Event.{Close}
use Rattle.sv_serve.specs.DriverView.{driver_view}
use Rattle.sv_serve.proofs.Suited.{took_suits, channel_suits, handed_means_open, closes_channel_same_history, still_suited}
use Rattle.sv_serve.proofs.Branches.{write_failed}
use Rattle.sv_serve.proofs.driver.Driver.record_write.Goals as goal

pub returns-in-Got-default : goal.returns-in-Got-default
returns-in-Got-default g c = λ first config history stands handed.
    let suits = took_suits c.args.port _ config (driver_view c.args.self.now history) c.requires.number
    (rw c.in-Got-default.is-0 at handed) in
    let (h0, s0, p0) = c.apply.ensures _ config history stands suits in
    (h0, s0, rw c.in-Got-default.is-0 p0)

pub returns-in-Failed-Conn : goal.returns-in-Failed-Conn
returns-in-Failed-Conn g c = λ first config history stands handed.
    let is_open = handed_means_open c.args.port c.in-Failed-Conn.conn c.args.answer config
    (driver_view c.args.self.now history) c.in-Failed-Conn.is-1
    c.requires.number handed in
    let (h0, s0, p0) = c.close.ensures _ config history stands is_open in (
      h0,
      s0,
      write_failed g.W.Wire.hears c.args.port (Conn c.in-Failed-Conn.conn) c.args.answer config (driver_view c.args.self.now history)
          (driver_view c.close.new.self h0) c.in-Failed-Conn.is-0 c.in-Failed-Conn.is-1 p0,
    )

pub returns-in-Failed-Intr : goal.returns-in-Failed-Intr
returns-in-Failed-Intr g c = λ first config history stands handed.
    let (h0, s0, p0) = c.close_channel.ensures _ config history stands in
    let suits = channel_suits c.args.port c.in-Failed-Intr.conn c.args.answer config
    (driver_view c.args.self.now history) c.in-Failed-Intr.is-1
    c.requires.number handed in
    let same = closes_channel_same_history g.W.Wire.hears c.in-Failed-Intr.conn config (driver_view c.args.self.now history)
    (driver_view c.close_channel.new.self h0) p0 in
    let still = still_suited (Close (Intr c.in-Failed-Intr.conn)) config (driver_view c.args.self.now history)
    (driver_view c.close_channel.new.self h0) same suits in
    let (h1, s1, p1) = c.apply-in-Failed-Intr.ensures _ config h0 s0 still in (
      h1,
      s1,
      write_failed g.W.Wire.hears c.args.port (Intr c.in-Failed-Intr.conn) c.args.answer config (driver_view c.args.self.now history)
          (driver_view c.apply-in-Failed-Intr.new.self h1) c.in-Failed-Intr.is-0 c.in-Failed-Intr.is-1
          (driver_view c.close_channel.new.self h0, p0, p1),
    )
