use Rattle.std.proofs.Common.{refl, inr}
use Rattle.sv_history.specs.Act.{wait_acts}
use Rattle.sv_server.proofs.OnDevice.Parts.{device_again}
use Rattle.sv_server.proofs.OnDevice.Granted.{measure_one_is_not_lock}
use Rattle.sv_server.proofs.device.Device.resume_after_lock.Goals as goal

pub returns-in-Some-clause-resumes : goal.returns-in-Some-clause-resumes
returns-in-Some-clause-resumes g c = λ config polled acts known waits may.
    let is = rw (← c.self.view_is) at known.0 in
    rw (← (c.in-Some.ensures.answer config acts known.0), ← (c.deadline-deadline.ensures config acts known.0)) (
      refl,
      device_again _ c.again.new.self config acts c.args.conn.number c.in-Some.wait c.deadline-deadline.result is
          (c.again.ensures.stands (wait_acts acts) is.4)
          (c.again.ensures.fewer (measure_one_is_not_lock c.in-Some.wait c.in-Some.ensures.measure)) c.in-Some.ensures.plain,
    )

pub returns-in-Some-clause-waiting : goal.returns-in-Some-clause-waiting
returns-in-Some-clause-waiting g c =
    inr (refl, c.in-Some.wait, c.deadline-deadline.result, rw (← c.self.view_is) c.again.ensures.value, c.in-Some.ensures.other)

pub returns-clause-resumes : goal.returns-clause-resumes
returns-clause-resumes g c = λ config polled acts known waits may.
    rw (← (c.in_default.ensures.answer config acts known.0)) (c.finish_wait.ensures.ends config polled acts known may)
