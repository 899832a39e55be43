-- After an event took a call, neither the effect of this call nor the steps that are then due take
-- another call.
use Rattle.std.proofs.Common.{◌≡◌, ℕ, true, false, List, [], ◌∷◌, ◌++◌, Option, Some, None, refl, sym, ap, subst, ◌∙◌, inl, inr, append_assoc}
use Rattle.std.specs.Prelude.{map, ⊤, ◌==◌}
use Rattle.std.specs.List.{AllByRecursion}
use Rattle.std.proofs.lemmas.Bool.{cases_Bool}
use Rattle.std.proofs.lemmas.List.Elements.{filter-append}
use Rattle.sv_vxi.specs.Arguments.{Arguments}
use Rattle.sv_vxi.specs.Results.{Outcome}
use Rattle.sv_history.specs.declared.event.Config.{Config}
use Rattle.sv_history.specs.Act.{Act, ConnAct, DeviceAct, Piece, CallTaken, Replied, Applied, On, OnDevice, of, device_acts}
use Rattle.sv_history.specs.Connection.{pending_call}
use Rattle.sv_history.specs.CallOutcome.{CallOutcome}
use Rattle.sv_history.specs.CoreCall.{CoreCall}
use Rattle.sv_history.specs.Request.{Request, CoreRequest, core_call_in}
use Rattle.sv_history.specs.Effect.{Effect, acts_of, replies}
use Rattle.sv_history.specs.Admission.{stop_of, admission}
use Rattle.sv_history.specs.Execution.{request_effect}
use Rattle.sv_history.specs.Resuming.{effect_of}
use Rattle.sv_history.specs.Settling.{SettlesIn}
use Rattle.sv_history.specs.History.{taken_acts}
use Rattle.sv_laws.specs.Cuts.{without_pieces}
use Rattle.sv_history.proofs.Projections.{of_own_act, of_append}
use Rattle.sv_laws.proofs.Facts.{all_append}
use Rattle.sv_laws.proofs.EveryLog.EachEvent.{settling_keeps, StepsKeep, steps_keep_by_effects, step_keeps, abort_keeps, turn_acts_in_order}

-- ---- acts that take no call

abbrev pub TakesNoCall : ConnAct → Type 0
TakesNoCall (CallTaken call) = ⊥
TakesNoCall _ = ⊤

abbrev pub ActTakesNoCall : Act → Type 0
ActTakesNoCall (On c act) = TakesNoCall act
ActTakesNoCall (OnDevice act) = ⊤

none_shared : (adds : List DeviceAct) → AllByRecursion ActTakesNoCall (map OnDevice adds)
none_shared [] = tt
none_shared (act ∷ adds) = (tt, none_shared adds)

none_own : (c : ℕ) (own : List ConnAct) → AllByRecursion TakesNoCall own → AllByRecursion ActTakesNoCall (map (On c) own)
none_own c [] h = tt
none_own c (act ∷ own) h = (h.0, none_own c own h.1)

none_effect : (c : ℕ) (effect : Effect) → AllByRecursion TakesNoCall effect.own → AllByRecursion ActTakesNoCall (acts_of c effect)
none_effect c effect h =
    all_append ActTakesNoCall (map (On c) effect.own) (map OnDevice effect.adds) (none_own c effect.own h) (none_shared effect.adds)

none_replies : (xid : ℕ) (result : Option Outcome) → AllByRecursion TakesNoCall (replies xid result)
none_replies xid (Some result) = (tt, tt)
none_replies xid None = tt

none_ended : (c : ℕ) (does : Arguments → CallOutcome) (call : Option CoreCall) → AllByRecursion TakesNoCall (effect_of c does call).own
none_ended c does (Some call) = none_replies call.xid (does call.arguments).result
none_ended c does None = tt

-- ---- steps

-- The log `new` continues `log` with acts that take no call.
abbrev pub AddsNoCall : List Act → List Act → Type 0
AddsNoCall log new = (adds : List Act) × (new ≡ adds ++ log) × AllByRecursion ActTakesNoCall adds

pub adds_then : (log mid new : List Act) → AddsNoCall log mid → AddsNoCall mid new → AddsNoCall log new
adds_then log mid new one other = (
  other.0 ++ one.0,
  other.1 ∙ ap (λ (l : List Act). other.0 ++ l) one.1 ∙ sym (append_assoc other.0 one.0 log),
  all_append ActTakesNoCall other.0 one.0 other.2 one.2,
)

-- If acts that take no call are added to such a log, it still is such a log.
adds_more : (base adds log : List Act) → AllByRecursion ActTakesNoCall adds → AddsNoCall base log → AddsNoCall base (adds ++ log)
adds_more base adds log none so = adds_then base log (adds ++ log) so (adds, refl, none)

steps_keep : (config : Config) (base : List Act) → StepsKeep config (AddsNoCall base)
steps_keep config base = steps_keep_by_effects config (AddsNoCall base)
    (λ adds log. adds_more base (map OnDevice (map Applied adds)) log (none_shared (map Applied adds)))
    (λ c does log. adds_more base (acts_of c (effect_of c does (core_call_in (pending_call (of c log))))) log
    (none_effect c _ (none_ended c does (core_call_in (pending_call (of c log))))))

pub steps_take_no_call : (n : ℕ) (config : Config) (log new : List Act) → SettlesIn n config log new → AddsNoCall log new
steps_take_no_call n config log new =
    settling_keeps config (AddsNoCall log) (step_keeps config _ (steps_keep config log)) n log new ([], refl, tt)

-- ---- the effect of a call

none_request : (config : Config) (polled c : ℕ) (request : Request) (acts : List DeviceAct)
    → AllByRecursion TakesNoCall (request_effect config polled c request acts).own
none_request config polled c (CoreRequest call) acts =
    none_replies call.xid (admission config polled c call.arguments (stop_of c call.arguments acts) acts).result
none_request config polled c _ acts = (tt, tt)

pub taken_acts_take_no_other : (config : Config) (polled c : ℕ) (bytes : List ℕ) (request : Request) (found : Option ℕ) (log : List Act)
    → AddsNoCall (On c (CallTaken bytes) ∷ log)
    (taken_acts c bytes (request_effect config polled c request (device_acts log)) found log ++ log)
taken_acts_take_no_other config polled c bytes request found log =
    let effect = request_effect config polled c request (device_acts log) in
    let taken = On c (CallTaken bytes) ∷ log in
    subst (AddsNoCall taken) (sym (turn_acts_in_order c bytes effect found log)) (abort_keeps config _ (steps_keep config taken) found _
    (acts_of c effect, refl, none_effect c effect (none_request config polled c request (device_acts log))))

-- ---- the acts of a connection

none_of : (c : ℕ) (adds : List Act) → AllByRecursion ActTakesNoCall adds → AllByRecursion TakesNoCall (of c adds)
none_of c [] h = tt
none_of c (OnDevice act ∷ adds) h = none_of c adds h.1
none_of c (On d act ∷ adds) h = elim (cases_Bool (d == c)) [
  | inl e ↦ rw e (h.0, none_of c adds h.1)
  | inr e ↦ rw e (none_of c adds h.1)
]

none_bare : (acts : List ConnAct) → AllByRecursion TakesNoCall acts → AllByRecursion TakesNoCall (without_pieces acts)
none_bare [] h = tt
none_bare (Piece bytes ∷ acts) h = none_bare acts h.1
none_bare (CallTaken call ∷ acts) h = absurd h.0
none_bare (_ ∷ acts) h = (tt, none_bare acts h.1)

pub without_pieces_append : (a b : List ConnAct) → without_pieces (a ++ b) ≡ without_pieces a ++ without_pieces b
without_pieces_append a b = filter-append (elim [ Piece bytes ↦ false | _ ↦ true ]) a b

-- The connection's acts in `log` are those in `base`, then the taking of this call, and then acts
-- that take no call.
abbrev pub FollowsCall : ℕ → List ℕ → List Act → List Act → Type 0
FollowsCall c bytes base log = (acts : List ConnAct) × AllByRecursion TakesNoCall (without_pieces acts)
    × (of c log ≡ acts ++ CallTaken bytes ∷ of c base)

pub follows_call : (c : ℕ) (bytes : List ℕ) (base log : List Act) → AddsNoCall (On c (CallTaken bytes) ∷ base) log
    → FollowsCall c bytes base log
follows_call c bytes base log (adds, is, none) = (
  of c adds,
  none_bare (of c adds) (none_of c adds none),
  ap (of c) is ∙ of_append c adds (On c (CallTaken bytes) ∷ base)
      ∙ ap (λ (l : List ConnAct). of c adds ++ l) (of_own_act c (CallTaken bytes) base),
)

-- If no call was taken after the call `bytes`, and the newest two acts are the taking of a call and
-- then a reply, that call is `bytes`, and the reply is the only act since.
pub taken_once : (acts : List ConnAct) (bytes reply call : List ℕ) (base rest : List ConnAct) → AllByRecursion TakesNoCall acts
    → acts ++ CallTaken bytes ∷ base ≡ Replied reply ∷ CallTaken call ∷ rest → (acts ≡ Replied reply ∷ []) × (bytes ≡ call) × (base ≡ rest)
taken_once [] bytes reply call base rest none same = absurd cc
taken_once (act ∷ []) bytes reply call base rest none same =
    let first : act ≡ Replied reply = cc in
    (ap (λ (a : ConnAct). a ∷ []) first, cc, cc)
taken_once (act ∷ CallTaken other ∷ acts) bytes reply call base rest none same = absurd none.1.0
taken_once (act ∷ _ ∷ acts) bytes reply call base rest none same = absurd cc

pub without_pieces_of_append : (c : ℕ) (adds log : List Act)
    → without_pieces (of c (adds ++ log)) ≡ without_pieces (of c adds) ++ without_pieces (of c log)
without_pieces_of_append c adds log = ap without_pieces (of_append c adds log) ∙ without_pieces_append (of c adds) (of c log)
