-- `explain` shows a connection without acts as one that was never opened.
use Rattle.std.proofs.Common.{◌≡◌, ℕ, eqb, nat_lt, Bool, true, false, List, [], ◌∷◌, Some, None, refl, sym, arith, inl, inr, ◌<◌}
use Rattle.std.specs.Prelude.{not}
use Rattle.std.specs.List.{AllByRecursion}
use Rattle.std.proofs.lemmas.Bool.{cases_Bool, eqb-true, le-ltb}
use Rattle.sv_links.specs.declared.waiting.Entry.{Entry}
use Rattle.sv_links.specs.Queue.{entry_of}
use Rattle.sv_history.specs.declared.event.Config.{Config}
use Rattle.sv_history.specs.Act.{Act, of, device_acts}
use Rattle.sv_history.specs.Interrupts.{has_channel}
use Rattle.sv_history.specs.History.{is_channel_shut}
use Rattle.sv_history.proofs.Telling.{channel_open_by_channel_log}
use Rattle.sv_history.proofs.Unrecorded.{nothing_faulted}
use Rattle.sv_explain.specs.Shown.{IsConn, never_opened}
use Rattle.sv_server.specs.Server.State.{State, Represents, IsTaken}

-- A connection without acts has no suspended call.
no_entry : (log : List Act) (c : ℕ) (entries : List Entry) → of c log ≡ [] → AllByRecursion (IsTaken log) entries
    → entry_of c entries ≡ None
no_entry log c [] none taken = refl
no_entry log c (entry ∷ entries) none (own, others) = elim (cases_Bool (eqb entry.conn c)) [
  | inl e ↦ absurd (
      let (call, pending, creating) = own in
      let z : None ≡ Some call = rw (eqb-true entry.conn c e, none) at pending in cc)
  | inr e ↦ rw e (no_entry log c entries none others)
]

-- A connection whose channel is shut has no channel.
pub no_channel : (c : ℕ) (log : List Act) → c < 16 → false ≡ not (is_channel_shut c log) → has_channel c (device_acts log) ≡ false
no_channel c log lt shut =
    let le : nat_lt 15 c ≡ false = le-ltb 15 c (omega (arith, lt)) in
    shut_is (has_channel c (device_acts log)) (rw le at shut)
  where
    shut_is : (b : Bool) → false ≡ not (not b) → b ≡ false
    shut_is true e = absurd cc
    shut_is false e = refl

pub never_opened_is_shown : (state : State) (config : Config) (log : List Act) (c : ℕ) → Represents state config log → of c log ≡ []
    → has_channel c (device_acts log) ≡ false → IsConn c never_opened log
never_opened_is_shown state config log c rep none shut = record {
  role_is = rw none refl;
  faulted_is = nothing_faulted (of c log) none;
  call_is = rw (rep.device.4.all c, no_entry log c state.device.waiting none rep.taken) refl;
  output_is = rw none refl;
  channel_is = sym shut;
  requests_are = λ channel_log tells. rw (channel_open_by_channel_log c (device_acts log) channel_log tells, shut) refl;
}
