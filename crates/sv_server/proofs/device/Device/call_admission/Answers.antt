use Rattle.std.proofs.Common.{rules, ◌≡◌, true, false, refl, sym}
use Rattle.std.specs.Prelude.{Some, None}
use Rattle.sv_vxi.specs.Reading.{plain_call}
use Rattle.sv_vxi.specs.declared.error_code.ErrorCode.TheVariants.{InvalidLink, ParameterError}
use Rattle.sv_history.specs.CoreCall.{lid_of, is_too_long}
use Rattle.sv_history.specs.CoreChannel.{owns}
use Rattle.sv_server.proofs.OnDevice.Granted.{stops_locked, stops_unlocked}
use Rattle.sv_server.proofs.device.Device.call_admission.Goals as goal

pub returns-in_default-clause-stops : goal.returns-in_default-clause-stops
returns-in_default-clause-stops g c = λ config acts is.
    let none : None ≡ lid_of (Some c.args.lid) = search (rules, c.in_default.ensures) in
    (InvalidLink, rw (← none) refl, c.call_failure.ensures.result_is c.args.lid)

pub returns-then-not-owns-clause-stops : goal.returns-then-not-owns-clause-stops
returns-then-not-owns-clause-stops g c = λ config acts is.
    let named : Some c.in-Some.lid ≡ lid_of (Some c.args.lid) = search (rules, c.in-Some.ensures) in
    let another : owns c.args.conn.number (Some c.in-Some.lid) acts ≡ false = sym (c.if-not-owns.ensures config acts is) in
    (InvalidLink, rw (← named, another) refl, c.call_failure-then-not-owns.ensures.result_is c.args.lid)

pub returns-then-is_too_long-clause-stops : goal.returns-then-is_too_long-clause-stops
returns-then-is_too_long-clause-stops g c = λ config acts is.
    let named : Some c.in-Some.lid ≡ lid_of (Some c.args.lid) = search (rules, c.in-Some.ensures) in
    let own : owns c.args.conn.number (Some c.in-Some.lid) acts ≡ true = sym (c.if-not-owns.ensures config acts is) in
    let long : is_too_long (plain_call c.args.call.now) ≡ true = sym c.if-is_too_long.ensures in
    (ParameterError, rw (← named, own, long) refl, c.call_failure-then-is_too_long.ensures.result_is c.args.lid)

pub returns-in-Some-awaited_lock-clause-stops : goal.returns-in-Some-awaited_lock-clause-stops
returns-in-Some-awaited_lock-clause-stops g c = λ config acts is.
    let named : Some c.in-Some.lid ≡ lid_of (Some c.args.lid) = search (rules, c.in-Some.ensures) in
    let own : owns c.args.conn.number (Some c.in-Some.lid) acts ≡ true = sym (c.if-not-owns.ensures config acts is) in
    let short : is_too_long (plain_call c.args.call.now) ≡ false = sym c.if-is_too_long.ensures in
    rw (← named, own, short, stops_locked _ _ _ _ (c.in-Some-awaited_lock.ensures config acts is))
    (c.lock_admission.ensures.stops c.args.lid)

pub returns-in-Some-device_wait-clause-stops : goal.returns-in-Some-device_wait-clause-stops
returns-in-Some-device_wait-clause-stops g c = λ config acts is.
    let named : Some c.in-Some.lid ≡ lid_of (Some c.args.lid) = search (rules, c.in-Some.ensures) in
    let own : owns c.args.conn.number (Some c.in-Some.lid) acts ≡ true = sym (c.if-not-owns.ensures config acts is) in
    let short : is_too_long (plain_call c.args.call.now) ≡ false = sym c.if-is_too_long.ensures in
    rw (
      ← named,
      own,
      short,
      stops_unlocked _ _ _ _ (c.in_default-awaited_lock.ensures config acts is),
      ← (c.in-Some-device_wait.ensures.answer config acts is),
    ) refl

pub returns-clause-stops : goal.returns-clause-stops
returns-clause-stops g c = λ config acts is.
    let named : Some c.in-Some.lid ≡ lid_of (Some c.args.lid) = search (rules, c.in-Some.ensures) in
    let own : owns c.args.conn.number (Some c.in-Some.lid) acts ≡ true = sym (c.if-not-owns.ensures config acts is) in
    let short : is_too_long (plain_call c.args.call.now) ≡ false = sym c.if-is_too_long.ensures in
    rw (
      ← named,
      own,
      short,
      stops_unlocked _ _ _ _ (c.in_default-awaited_lock.ensures config acts is),
      ← (c.in_default-device_wait.ensures.answer config acts is),
    ) refl
