use Rattle.std.proofs.Common.{◌∙◌, ℕ, List, length, ap, refl}
use Rattle.sv_history.specs.Act.{of, device_acts, wait_acts}
use Rattle.sv_history.proofs.Unrecorded.{nothing_faulted}
use Rattle.sv_explain.specs.Shown.{role_word}
use Rattle.sv_server.proofs.OnShown.Calls.{call_told}
use Rattle.sv_server.proofs.server.Server.conn_shown.Goals as goal

pub returns-in-Some : goal.returns-in-Some
returns-in-Some g c = λ config log rep.
    let held = rw (← c.self.view_is) at rep in
    let own = c.in-Some.ensures config log rep in
    let n = c.args.conn.number in
    let acts = device_acts log in
    record {
      role_is = c.role_word.ensures ∙ ap role_word (c.role.ensures ∙ own.role);
      faulted_is = c.is_faulted.ensures (of n log) own;
      call_is = call_told (wait_acts acts) n c.waiting_call.result c.call_shown-call.result (c.waiting_call.ensures config acts held.device)
          c.call_shown-call.ensures;
      output_is = ap (λ (bytes : List ℕ). length bytes) (c.waiting.ensures.answer (of n log) own);
      channel_is = c.has_channel-has_channel.ensures config acts held.device;
      requests_are = λ channel_log tells.
          ap (λ (bytes : List ℕ). length bytes) (c.outgoing.ensures.exact config log channel_log rep tells);
    }

pub returns-in-None : goal.returns-in-None
returns-in-None g c = λ config log rep.
    let held = rw (← c.self.view_is) at rep in
    let none = c.in-None.ensures config log rep in
    let n = c.args.conn.number in
    let acts = device_acts log in
    record {
      role_is = rw none refl;
      faulted_is = nothing_faulted (of n log) none;
      call_is = call_told (wait_acts acts) n c.waiting_call.result c.call_shown-call.result (c.waiting_call.ensures config acts held.device)
          c.call_shown-call.ensures;
      output_is = rw none refl;
      channel_is = c.has_channel-has_channel.ensures config acts held.device;
      requests_are = λ channel_log tells.
          ap (λ (bytes : List ℕ). length bytes) (c.outgoing.ensures.exact config log channel_log rep tells);
    }
