-- Each call that is taken on a connection is answered exactly once, or is suspended: the law
-- `EachAnswered`.
use Rattle.std.proofs.Common.{◌≡◌, ℕ, suc, ◌+◌, Bool, true, false, List, [], ◌∷◌, Option, Some, None, refl, ap, ◌∙◌, arith}
use Rattle.std.specs.Prelude.{is_some}
use Rattle.sv_links.specs.declared.waiting.Wait.{Wait}
use Rattle.sv_links.specs.Waiting.{waits}
use Rattle.sv_history.specs.declared.event.Config.{Config}
use Rattle.sv_history.specs.Event.{PlainEvent}
use Rattle.sv_history.specs.Act.{Act, ConnAct, Opened, Piece, CallTaken, Faulted, Replied, BytesTaken, PortClosed, of, device_acts, wait_acts}
use Rattle.sv_history.specs.CoreCall.{CoreCall}
use Rattle.sv_history.specs.Request.{core_call_in}
use Rattle.sv_history.specs.History.{IsLogOf}
use Rattle.sv_laws.proofs.EveryLog.BusyWaits.{unsuspended_has_no_pending}
use Rattle.sv_laws.proofs.EveryLog.EachEvent.{fit_log}
use Rattle.sv_history.specs.Connection.{is_busy, records_ended, pending_call}
use Rattle.sv_laws.specs.Laws.{calls_taken, one_if, EachAnswered}
use Rattle.sv_laws.proofs.EveryLog.Taken.{next_call_means_none_pending}
use Rattle.sv_laws.proofs.EveryLog.EachAct.{WerePossible, acts_were_possible}

paid_ends : (calls_taken done : ℕ) (busy : Bool) → busy ≡ true → calls_taken ≡ done + one_if busy → calls_taken ≡ suc done + 0
paid_ends n m true e h = omega (arith, h)
paid_ends n m false e h = absurd cc

paid_begins : (calls_taken done : ℕ) (busy : Bool) → busy ≡ false → calls_taken ≡ done + one_if busy → suc calls_taken ≡ done + 1
paid_begins n m false e h = omega (arith, h)
paid_begins n m true e h = absurd cc

calls_taken_are_paid : (acts : List ConnAct) → WerePossible acts → calls_taken acts ≡ records_ended acts + one_if (is_busy acts)
calls_taken_are_paid [] all = refl
calls_taken_are_paid (Opened role ∷ acts) all = refl
calls_taken_are_paid (PortClosed ∷ acts) all = refl
calls_taken_are_paid (Piece bytes ∷ acts) all = calls_taken_are_paid acts all.1
calls_taken_are_paid (BytesTaken count ∷ acts) all = calls_taken_are_paid acts all.1
calls_taken_are_paid (CallTaken call ∷ acts) all =
    paid_begins (calls_taken acts) (records_ended acts) (is_busy acts) (ap is_some (next_call_means_none_pending acts call all.0.1))
    (calls_taken_are_paid acts all.1)
calls_taken_are_paid (Faulted ∷ acts) all = paid_ends (calls_taken acts) (records_ended acts) (is_busy acts) (ap is_some all.0.1)
    (calls_taken_are_paid acts all.1)
calls_taken_are_paid (Replied reply ∷ acts) all = paid_ends (calls_taken acts) (records_ended acts) (is_busy acts) (ap is_some all.0.1)
    (calls_taken_are_paid acts all.1)

-- A call is pending exactly if it is suspended.
busy_iff_suspended : (config : Config) (history : List PlainEvent) (log : List Act) (c : ℕ) → IsLogOf config history log
    → (found : Option Wait) → waits c (wait_acts (device_acts log)) ≡ found → is_busy (of c log) ≡ is_some found
busy_iff_suspended config history log c was None none = ap is_some (unsuspended_has_no_pending config history log was c none)
busy_iff_suspended config history log c was (Some wait) is =
    let held = (fit_log config history log was).held c wait is in
    some_call (pending_call (of c log)) held.1.0 held.1.1
  where
    some_call : (found : Option (List ℕ)) (call : CoreCall) → core_call_in found ≡ Some call → is_some found ≡ true
    some_call (Some bytes) call e = refl
    some_call None call e = absurd cc

pub each_answered : EachAnswered
each_answered config history log c was =
    calls_taken_are_paid (of c log) (acts_were_possible config history log c was)
    ∙ ap (λ (b : Bool). records_ended (of c log) + one_if b)
    (busy_iff_suspended config history log c was (waits c (wait_acts (device_acts log))) refl)
