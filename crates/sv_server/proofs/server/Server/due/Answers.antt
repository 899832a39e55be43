use Rattle.std.proofs.Common.{sym}
use Rattle.sv_history.specs.Act.{device_acts}
use Rattle.sv_server.proofs.server.Server.due.Goals as goal

pub returns-then-is_fire_due : goal.returns-then-is_fire_due
returns-then-is_fire_due g c = λ config log rep.
    let held = rw (← c.self.view_is) at rep in sym (c.if-is_fire_due.ensures config (device_acts log) held.device)

pub returns-in-Some : goal.returns-in-Some
returns-in-Some g c = λ config log rep.
    let held = rw (← c.self.view_is) at rep in
    (sym (c.if-is_fire_due.ensures config (device_acts log) held.device), c.in-Some.ensures.answer config (device_acts log) held.device)

pub returns-in-Some-expired : goal.returns-in-Some-expired
returns-in-Some-expired g c = λ config log rep.
    let held = rw (← c.self.view_is) at rep in (
      sym (c.if-is_fire_due.ensures config (device_acts log) held.device),
      c.in-None.ensures.answer config (device_acts log) held.device,
      c.in-None-step_due.ensures config (device_acts log) held.device,
      c.in-Some-expired.ensures.answer config (device_acts log) held.device,
    )

pub returns-in-None-expired : goal.returns-in-None-expired
returns-in-None-expired g c = λ config log rep.
    let held = rw (← c.self.view_is) at rep in (
      sym (c.if-is_fire_due.ensures config (device_acts log) held.device),
      c.in-None.ensures.answer config (device_acts log) held.device,
      c.in-None-step_due.ensures config (device_acts log) held.device,
      c.in-None-expired.ensures.answer config (device_acts log) held.device,
    )

pub returns-in-Some-step_due : goal.returns-in-Some-step_due
returns-in-Some-step_due g c = λ config log rep.
    let held = rw (← c.self.view_is) at rep in (
      sym (c.if-is_fire_due.ensures config (device_acts log) held.device),
      c.in-None.ensures.answer config (device_acts log) held.device,
      c.in-Some-step_due.ensures config (device_acts log) held.device,
    )
