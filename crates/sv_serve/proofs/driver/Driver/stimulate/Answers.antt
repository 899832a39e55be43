use Rattle.sv_history.specs.Act.{device_acts}
use Rattle.sv_history.proofs.AlwaysTold.{channel_log_exists}
use Rattle.sv_serve.specs.DriverView.{driver_view}
use Rattle.sv_serve.proofs.Suited.{stimulus_suits}
use Rattle.sv_serve.proofs.driver.Driver.stimulate.Goals as goal

pub returns : goal.returns
returns g c = λ first config history stands.
    let (h0, s0, p0) = c.play.ensures _ config history stands in
    let channel_log = channel_log_exists (device_acts s0.0.log) in
    let (h1, s1, p1) = c.apply.ensures _ config h0 s0 (
      s0.0.log,
      channel_log.0,
      s0.0.is_log,
      channel_log.1,
      rw c.event.ensures
          (stimulus_suits c.args.stimulus channel_log.0 s0.0.log c.requires),
    ) in
    (h1, s1, (driver_view c.play.new.self h0, p0, rw c.event.ensures at p1))
