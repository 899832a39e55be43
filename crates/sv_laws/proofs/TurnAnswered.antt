-- A record that a Turn takes isn't a call; or it is a call that is answered, or suspended and can't
-- resume.
use Rattle.std.proofs.Common.{◌≡◌, ℕ, true, List, ◌∷◌, ◌++◌, Option, Some, None, refl, sym, ap, subst, ◌∙◌, inl, inr, ◌⊎◌}
use Rattle.std.specs.Prelude.{map, is_some, Result, Err}
use Rattle.sv_rpc.specs.declared.call.CallFault.{CallFault}
use Rattle.sv_rpc.specs.declared.call.CallFault.TheVariants.{BadHeader}
use Rattle.sv_rpc.specs.Call.{PlainCall, call_at}
use Rattle.sv_vxi.specs.Arguments.{Arguments}
use Rattle.sv_vxi.specs.Results.{Outcome}
use Rattle.sv_links.specs.declared.waiting.Wait.{Wait}
use Rattle.sv_links.specs.Waiting.{waits}
use Rattle.sv_history.specs.declared.event.Config.{Config}
use Rattle.sv_history.specs.declared.event.Role.{Role}
use Rattle.sv_history.specs.Event.{PlainEvent, Turn}
use Rattle.sv_history.specs.Act.{Act, ConnAct, DeviceAct, CallTaken, Faulted, Replied, Applied, On, OnDevice, of, device_acts, wait_acts}
use Rattle.sv_history.specs.Connection.{is_open, next_call, open_role, pending_call}
use Rattle.sv_history.specs.CallOutcome.{CallOutcome}
use Rattle.sv_history.specs.CoreCall.{CoreCall}
use Rattle.sv_history.specs.Effect.{acts_of, replies, result_reply}
use Rattle.sv_history.specs.Request.{Request, NoCall, Decided, CoreRequest, AbortRequest, PortRequest, core_call_in, request_of, request_for, next_request}
use Rattle.sv_history.specs.Execution.{request_effect, aborts}
use Rattle.sv_history.specs.Resuming.{effect_of}
use Rattle.sv_history.specs.History.{turn_acts, own_acts, IsLogOf}
use Rattle.sv_laws.specs.Laws.{TurnAnswered}
use Rattle.sv_history.proofs.Projections.{of_own_act, of_device_acts, of_effect}
use Rattle.sv_laws.proofs.OneLog.{one_log}
use Rattle.sv_laws.proofs.NoneLate.{none_late}
use Rattle.sv_laws.proofs.EveryLog.EachEvent.{settling_keeps, StepsKeep, steps_keep_by_effects, step_keeps, abort_keeps, turn_acts_in_order}
use Rattle.sv_laws.proofs.EveryLog.EachAct.{no_xid_is_no_call, request_has_xid_of_call, unrefused_is_open}
use Rattle.sv_laws.proofs.EveryLog.Taken.{xid_of, xid_in}
use Rattle.sv_laws.proofs.EveryLog.BusyWaits.{unsuspended_has_no_pending}
use Rattle.sv_laws.proofs.EveryLog.Fit.{each_after_effect}

-- ---- the acts of the call's connection

-- The record isn't a call; or it is a call, and is answered or not answered yet.
abbrev IsTaken : List ℕ → List ConnAct → List ConnAct → Type 0
IsTaken call before acts = ((call_at call ≡ Err BadHeader) × (acts ≡ Faulted ∷ CallTaken call ∷ before))
    ⊎ ((call_at call ≡ Err BadHeader → ⊥) × (((reply : List ℕ) × (acts ≡ Replied reply ∷ CallTaken call ∷ before))
    ⊎ (acts ≡ CallTaken call ∷ before)))

-- A result answers the call; without a result it isn't answered yet.
stands_replies : (xid : ℕ) (result : Option Outcome) (call : List ℕ) (before acts : List ConnAct) → (call_at call ≡ Err BadHeader → ⊥)
    → acts ≡ CallTaken call ∷ before → IsTaken call before (replies xid result ++ acts)
stands_replies xid (Some result) call before acts some is =
    inr (some, inl (result_reply xid result, ap (λ (l : List ConnAct). Replied (result_reply xid result) ∷ l) is))
stands_replies xid None call before acts some is = inr (some, inr is)

stands_ended : (c : ℕ) (does : Arguments → CallOutcome) (call : List ℕ) (before acts : List ConnAct) → IsTaken call before acts
    → IsTaken call before ((effect_of c does (core_call_in (pending_call acts))).own ++ acts)
stands_ended c does call before acts (inl (none, is)) =
    subst (λ (l : List ConnAct). IsTaken call before ((effect_of c does (core_call_in (pending_call l))).own ++ l)) (sym is)
    (inl (none, refl))
stands_ended c does call before acts (inr (some, inl (reply, is))) =
    subst (λ (l : List ConnAct). IsTaken call before ((effect_of c does (core_call_in (pending_call l))).own ++ l)) (sym is)
    (inr (some, inl (reply, refl)))
stands_ended c does call before acts (inr (some, inr is)) = by (core_call_in (pending_call acts))
  where
    by : (found : Option CoreCall) → IsTaken call before ((effect_of c does found).own ++ acts)
    by (Some found) = stands_replies found.xid (does found.arguments).result call before acts some is
    by None = inr (some, inr is)

-- ---- the same in a log

abbrev IsTakenIn : ℕ → List ℕ → List ConnAct → List Act → Type 0
IsTakenIn c call before log = IsTaken call before (of c log)

in_shared : (c : ℕ) (call : List ℕ) (before : List ConnAct) (adds : List DeviceAct) (log : List Act) → IsTakenIn c call before log
    → IsTakenIn c call before (map OnDevice adds ++ log)
in_shared c call before adds log h = subst (IsTaken call before) (sym (of_device_acts c adds log)) h

in_ended : (c : ℕ) (call : List ℕ) (before : List ConnAct) (d : ℕ) (does : Arguments → CallOutcome) (log : List Act)
    → IsTakenIn c call before log → IsTakenIn c call before (acts_of d (effect_of d does (core_call_in (pending_call (of d log)))) ++ log)
in_ended c call before d does log h =
    each_after_effect (λ n acts. c ≡ n → IsTaken call before acts) d (effect_of d does (core_call_in (pending_call (of d log)))) log
    (λ e. stands_ended d does call before (of d log) (subst (λ (n : ℕ). IsTaken call before (of n log)) e h))
    (λ n ne e. subst (λ (m : ℕ). IsTaken call before (of m log)) e h) c refl

steps_keep : (c : ℕ) (call : List ℕ) (before : List ConnAct) (config : Config) → StepsKeep config (IsTakenIn c call before)
steps_keep c call before config =
    steps_keep_by_effects config (IsTakenIn c call before) (λ adds log. in_shared c call before (map Applied adds) log)
    (in_ended c call before)

-- ---- the Turn

xid_means_call : {xid : ℕ} (found : Result PlainCall CallFault) → xid_of found ≡ Some xid → found ≡ Err BadHeader → ⊥
xid_means_call {xid = xid} found is bad = let z : None ≡ Some xid = rw bad at is in absurd cc

-- The request of a record answers it, suspends it, or shows that it isn't a call.
stands_request : (config : Config) (polled c : ℕ) (call : List ℕ) (before : List ConnAct) (request : Request) (acts : List DeviceAct)
    → xid_of (call_at call) ≡ xid_in request
    → IsTaken call before ((request_effect config polled c request acts).own ++ CallTaken call ∷ before)
stands_request config polled c call before NoCall acts is = inl (no_xid_is_no_call (call_at call) is, refl)
stands_request config polled c call before (CoreRequest request_for) acts is =
    stands_replies request_for.xid _ call before (CallTaken call ∷ before) (xid_means_call (call_at call) is) refl
stands_request config polled c call before (Decided xid reply) acts is = inr (xid_means_call (call_at call) is, inl (_, refl))
stands_request config polled c call before (AbortRequest xid lid) acts is = inr (xid_means_call (call_at call) is, inl (_, refl))
stands_request config polled c call before (PortRequest xid args) acts is = inr (xid_means_call (call_at call) is, inl (_, refl))

in_turn : (config : Config) (polled c : ℕ) (call : List ℕ) (request : Request) (log : List Act) → next_call (of c log) ≡ Some call
    → next_request (of c log) ≡ Some request → IsTakenIn c call (of c log) (turn_acts config polled c (Some call) (Some request) log ++ log)
in_turn config polled c call request log next asks =
    let effect = request_effect config polled c request (device_acts log) in
    let own : of c (acts_of c effect ++ On c (CallTaken call) ∷ log) ≡ effect.own ++ CallTaken call ∷ of c log =
    of_effect c effect (On c (CallTaken call) ∷ log) ∙ ap (λ (l : List ConnAct). effect.own ++ l) (of_own_act c (CallTaken call) log) in
    subst (IsTakenIn c call (of c log)) (sym (turn_acts_in_order c call effect (aborts request (device_acts log)) log))
    (abort_keeps config _ (steps_keep c call (of c log) config) (aborts request (device_acts log)) _
    (subst (IsTaken call (of c log)) (sym own)
    (stands_request config polled c call (of c log) request (device_acts log) (request_has_xid_of_call (of c log) call request next asks))))

pub next_call_has_request : (acts : List ConnAct) (call : List ℕ) → is_open acts ≡ true → next_call acts ≡ Some call
    → (request : Request) × (next_request acts ≡ Some request)
next_call_has_request acts call opened next = by (open_role acts) (next_call acts) opened next
  where
    by : (role : Option Role) (found : Option (List ℕ)) → is_some role ≡ true → found ≡ Some call
        → (request : Request) × (request_for role found ≡ Some request)
    by (Some role) (Some bytes) o e = (request_of role (call_at bytes), refl)
    by (Some role) None o e = absurd cc
    by None found o e = absurd cc

-- An unanswered call is suspended.
unanswered_call_waits : (config : Config) (history : List PlainEvent) (log : List Act) (c : ℕ) (call : List ℕ) → IsLogOf config history log
    → pending_call (of c log) ≡ Some call → (wait : Wait) × (waits c (wait_acts (device_acts log)) ≡ Some wait)
unanswered_call_waits config history log c call was busy = by (waits c (wait_acts (device_acts log))) refl
  where
    by : (found : Option Wait) → waits c (wait_acts (device_acts log)) ≡ found → (wait : Wait) × (found ≡ Some wait)
    by (Some wait) e = (wait, refl)
    by None e = absurd (let z : None ≡ Some call = sym (unsuspended_has_no_pending config history log was c e) ∙ busy in cc)

pub turn_answered : TurnAnswered
turn_answered config history before log c call was now next =
    let same = one_log config history now.0 before now.4 was in
    let first : next_call (of c now.0) ≡ Some call = ap (λ (l : List Act). next_call (of c l)) same ∙ next in
    let request = next_call_has_request (of c now.0) call (unrefused_is_open c now.0 _ now.6) first in
    let asks : request_for (open_role (of c now.0)) (Some call) ≡ Some request.0 = ap (request_for (open_role (of c now.0))) (sym first)
    ∙ request.1 in
    let begins : IsTakenIn c call (of c now.0) (own_acts config now.1 (Turn c) now.0 ++ now.0) =
    rw (first, asks) (in_turn config now.1 c call request.0 now.0 first request.1) in
    let ends = settling_keeps config (IsTakenIn c call (of c now.0)) (step_keeps config _ (steps_keep c call (of c now.0) config)) now.8.0
    (own_acts config now.1 (Turn c) now.0 ++ now.0) log begins now.8.1 in
    elim (subst (λ (l : List Act). IsTaken call (of c l) (of c log)) same ends) [
      | inl faulted ↦ inl faulted
      | inr (some, inl answered) ↦ inr (some, inl answered)
      | inr (some, inr is) ↦
          let wait = unanswered_call_waits config (Turn c ∷ history) log c call now (ap pending_call is) in
          inr (some, inr (is, wait.0, wait.1, (none_late config (Turn c ∷ history) log c now).1))
    ]
