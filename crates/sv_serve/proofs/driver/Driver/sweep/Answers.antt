use Rattle.sv_serve.specs.DriverView.{driver_view}
use Rattle.sv_serve.proofs.driver.Driver.sweep.Goals as goal

pub returns : goal.returns
returns g c = λ first config history stands.
    let (h0, s0, p0) = c.accept.ensures _ config history stands in
    let (h1, s1, p1) = c.accept-2.ensures _ config h0 s0 in
    let (h2, s2, p2) = c.accept-3.ensures _ config h1 s1 in
    let (h3, s3, p3) = c.read_each.ensures _ config h2 s2 in
    let (h4, s4, p4) = c.turn_each.ensures _ config h3 s3 in
    let (h5, s5, p5) = c.dial_each.ensures _ config h4 s4 in
    let (h6, s6, p6) = c.pass.ensures _ config h5 s5 in
    let (h7, s7, p7) = c.write_connections.ensures _ config h6 s6 in
    let (h8, s8, p8) = c.write_channels.ensures _ config h7 s7 in
    let (h9, s9, p9) = c.end_each.ensures _ config h8 s8 in
    let (h10, s10, p10) = c.flush.ensures _ config h9 s9 in (
      h10,
      s10,
      (
        driver_view c.accept.new.self h0,
        p0,
        (
          driver_view c.accept-2.new.self h1,
          p1,
          (
            driver_view c.accept-3.new.self h2,
            p2,
            (
              driver_view c.read_each.new.self h3,
              p3,
              (
                driver_view c.turn_each.new.self h4,
                p4,
                (
                  driver_view c.dial_each.new.self h5,
                  p5,
                  (
                    driver_view c.pass.new.self h6,
                    p6,
                    (
                      driver_view c.write_connections.new.self h7,
                      p7,
                      (driver_view c.write_channels.new.self h8, p8, rw p10 p9),
                    ),
                  ),
                ),
              ),
            ),
          ),
        ),
      ),
    )
