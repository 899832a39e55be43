use Rattle.std.proofs.Common.{None, sym, ap, ◌∙◌}
use Rattle.sv_history.specs.Act.{of, device_acts, ConnAct}
use Rattle.sv_history.specs.Connection.{pending_call}
use Rattle.sv_history.specs.Request.{core_call_in}
use Rattle.std.specs.Prelude.{List}
use Rattle.sv_server.proofs.OnDevice.Channels.{dial_is, no_dial}
use Rattle.sv_server.proofs.server.Server.dial.Goals as goal

pub returns-then-not-is_dialing : goal.returns-then-not-is_dialing
returns-then-not-is_dialing g c = λ config history s.
    let state = rw (← c.self.view_is) at s.represents in
    (s.log, s.is_log, sym (no_dial c.args.conn s.log (sym (c.if-not-is_dialing.ensures config (device_acts s.log) state.device))))

pub returns-in_err-connection : goal.returns-in_err-connection
returns-in_err-connection g c = λ config history s.
    let state = rw (← c.self.view_is) at s.represents in
    let dialing = sym (c.if-not-is_dialing.ensures config (device_acts s.log) state.device) in
    let none = ap (λ (acts : List ConnAct). core_call_in (pending_call acts)) (c.in_err-connection.ensures config s.log s.represents) in
    (s.log, s.is_log, c.from_residual.ensures ∙ sym (dial_is c.args.conn s.log None dialing none))

pub returns-in_err-call : goal.returns-in_err-call
returns-in_err-call g c = λ config history s.
    let state = rw (← c.self.view_is) at s.represents in
    let dialing = sym (c.if-not-is_dialing.ensures config (device_acts s.log) state.device) in
    let is = c.in_ok-connection.ensures config s.log s.represents in
    let none = sym (c.in_err-call.ensures (of c.args.conn s.log) is) in
    (s.log, s.is_log, c.from_residual-in_err-call.ensures ∙ sym (dial_is c.args.conn s.log None dialing none))

pub returns : goal.returns
returns g c = λ config history s.
    let state = rw (← c.self.view_is) at s.represents in
    let dialing = sym (c.if-not-is_dialing.ensures config (device_acts s.log) state.device) in
    let is = c.in_ok-connection.ensures config s.log s.represents in
    let known = sym (c.in_ok-call.ensures (of c.args.conn s.log) is) in
    (s.log, s.is_log, c.dial_by.ensures ∙ sym (dial_is c.args.conn s.log _ dialing known))
