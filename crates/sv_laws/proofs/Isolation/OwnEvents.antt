-- An event of the connection whose link holds the lock, or of no connection: it is refused in both
-- logs or in neither, and adds the same acts to both.
use Rattle.std.proofs.Common.{◌≡◌, ℕ, Bool, true, false, eqb, List, [], ◌∷◌, ◌++◌, Option, Some, None, refl, sym, ap, subst, ◌∙◌, inl, append_assoc}
use Rattle.std.specs.Prelude.{map, not, ℤ}
use Rattle.std.proofs.lemmas.Bool.{eqb-true, not-false}
use Rattle.sv_logs.proofs.Each.{Each, each_join}
use Rattle.sv_vxi.specs.declared.error_code.ErrorCode.{ErrorCode}
use Rattle.sv_vxi.specs.Arguments.{Arguments, is_create_link}
use Rattle.sv_links.specs.declared.request.Peer.{Peer}
use Rattle.sv_links.specs.Links.{Made, owner, holder, closing}
use Rattle.sv_links.specs.Waiting.{Left}
use Rattle.sv_links.specs.Channels.{ChannelAct, ChannelOpened, waiting as channel_waiting}
use Rattle.sv_laws.proofs.ChannelsAlike.{SameChannel}
use Rattle.sv_laws.proofs.Closed.{closed_link_holds_no_lock}
use Rattle.sv_layers.specs.Act.{Act as InstrumentAct}
use Rattle.sv_instrument.specs.Stimulus.{external_acts, tick_acts}
use Rattle.sv_history.specs.declared.event.Config.{Config}
use Rattle.sv_history.specs.declared.event.Port.TheVariants.{Conn, Intr}
use Rattle.sv_history.specs.declared.event.Role.TheVariants.{Core}
use Rattle.sv_history.specs.Event.{PlainEvent, Open, Bytes, Turn, Refuse, Took, Close, Dialed, External, Tick}
use Rattle.sv_history.specs.Act.{Act, ConnAct, DeviceAct, CallTaken, Replied, PortClosed, Linked, Waited, Channel, Applied, Ticked, On, OnDevice, of, device_acts, link_acts, instrument_acts}
use Rattle.sv_history.specs.Connection.{next_call, open_role, pending_call}
use Rattle.sv_history.specs.CallOutcome.{CallOutcome}
use Rattle.sv_history.specs.CoreCall.{CoreCall}
use Rattle.sv_history.specs.Effect.{Effect, acts_of, call_effect}
use Rattle.sv_history.specs.Request.{Request, CoreRequest, AbortRequest, core_call_in, next_request}
use Rattle.sv_history.proofs.Dialing.{peer_named_by, connect_outcome_for, connect_outcome_by_peer}
use Rattle.sv_history.specs.Admission.{Stop, Fails, Awaits, stop_of, admission}
use Rattle.sv_history.specs.Refusing.{refusable, refused_reply}
use Rattle.sv_history.specs.Resuming.{leaving, failure_effect, connect_effect}
use Rattle.sv_history.specs.History.{turn_acts, refuse_acts, own_acts, refusal, taken_acts}
use Rattle.sv_laws.specs.Isolation.{is_foreign, makes_link, LeavesLinksAlone}
use Rattle.sv_history.proofs.Projections.{device_acts_append, link_acts_links}
use Rattle.sv_laws.proofs.EveryLog.Fit.{Fit}
use Rattle.sv_laws.proofs.EveryLog.EachEvent.{close_acts, device_acts_of_close}
use Rattle.sv_laws.proofs.EveryLog.Taken.{core_role_takes_no_abort}
use Rattle.sv_laws.proofs.EveryLog.Done.{IsActOfCall, each_act_is_of_call}
use Rattle.sv_laws.proofs.Isolation.Alike.{View, Pair, IsOwn, IsOwnAct, HoldsAfter}
use Rattle.sv_laws.proofs.SameOutcomes.{SameGround, admitted_same}

own_number : (d c : ℕ) → not (eqb d c) ≡ false → d ≡ c
own_number d c h = eqb-true d c (not-false (eqb d c) h)

-- ---- the check that it fails

channel_same : (c : ℕ) (channel_log also : List ChannelAct) → SameChannel c channel_log also
    → channel_waiting c channel_log ≡ channel_waiting c also
channel_same c channel_log also same = rw (same.opened, same.took, same.sent) refl

pub refusal_same : (config : Config) (c lid : ℕ) (channel_log also : List ChannelAct) (log other : List Act) (event : PlainEvent)
    → Pair c lid log other → SameChannel c channel_log also → is_foreign c event ≡ false
    → refusal config channel_log event log ≡ refusal config also event other
refusal_same config c lid channel_log also log other (Open d role) pair same own = rw (own_number d c own, pair.own) refl
refusal_same config c lid channel_log also log other (Bytes d piece) pair same own = rw (own_number d c own, pair.own) refl
refusal_same config c lid channel_log also log other (Turn d) pair same own = rw (own_number d c own, pair.own) refl
refusal_same config c lid channel_log also log other (Refuse d) pair same own = rw (own_number d c own, pair.own) refl
refusal_same config c lid channel_log also log other (Took (Conn d) count) pair same own = rw (own_number d c own, pair.own) refl
refusal_same config c lid channel_log also log other (Took (Intr d) count) pair same own =
    rw (own_number d c own, pair.view.opened, channel_same c channel_log also same) refl
refusal_same config c lid channel_log also log other (Close (Conn d)) pair same own = rw (own_number d c own, pair.own) refl
refusal_same config c lid channel_log also log other (Close (Intr d)) pair same own = rw (own_number d c own, pair.view.opened) refl
refusal_same config c lid channel_log also log other (Dialed d ok) pair same own =
    rw (own_number d c own, pair.own, pair.view.call.wait) refl
refusal_same config c lid channel_log also log other Tick pair same own = rw pair.view.clock refl
refusal_same config c lid channel_log also log other _ pair same own = refl

-- ---- the effects of a call

-- `IsSuch` holds of all acts of connection `d`, and of the acts of the device of which `IsShared`
-- holds. `IsShared` holds of the acts by which the connection's suspended call leaves the queue,
-- and its interrupt channel opens.
pub record IsOf (d : ℕ) (IsSuch : List Act → Act → Type 0) (IsShared : List DeviceAct → DeviceAct → Type 0) : Type 0 where
  pub own : (log : List Act) (act : ConnAct) → IsSuch log (On d act)
  pub shared : (log : List Act) (act : DeviceAct) → IsShared (device_acts log) act → IsSuch log (OnDevice act)
  pub left : (acts : List DeviceAct) → IsShared acts (Waited (Left d))
  pub opened : (acts : List DeviceAct) (peer : Peer) → IsShared acts (Channel (ChannelOpened d peer))

module _ (d : ℕ) {IsSuch : List Act → Act → Type 0} {IsShared : List DeviceAct → DeviceAct → Type 0} (is : IsOf d IsSuch IsShared) where
  each_own : (own : List ConnAct) (log : List Act) → Each IsSuch (map (On d) own) log
  each_own [] log = tt
  each_own (act ∷ own) log = (is.own (map (On d) own ++ log) act, each_own own log)

  pub each_shared : (adds : List DeviceAct) (log : List Act) → Each IsShared adds (device_acts log) → Each IsSuch (map OnDevice adds) log
  each_shared [] log h = tt
  each_shared (act ∷ adds) log h =
      (is.shared (map OnDevice adds ++ log) act (rw (device_acts_append adds log) h.0), each_shared adds log h.1)

  pub each_effect : (effect : Effect) (log : List Act) → Each IsShared effect.adds (device_acts log) → Each IsSuch (acts_of d effect) log
  each_effect effect log h = each_join IsSuch (map (On d) effect.own) (map OnDevice effect.adds) log
      (each_own effect.own (map OnDevice effect.adds ++ log)) (each_shared effect.adds log h)

  pub each_failed : (error : ErrorCode) (call : Option CoreCall) (log : List Act)
      → Each IsSuch (acts_of d (failure_effect error d call)) log
  each_failed error (Some call) log = each_effect (failure_effect error d (Some call)) log (is.left (device_acts log), tt)
  each_failed error None log = each_effect (failure_effect error d None) log (is.left (device_acts log), tt)

  pub each_connected : (ok : Bool) (call : Option CoreCall) (log : List Act) → Each IsSuch (acts_of d (connect_effect d ok call)) log
  each_connected ok None log = each_effect (connect_effect d ok None) log (is.left (device_acts log), tt)
  each_connected ok (Some call) log = rw (connect_outcome_by_peer d ok call.arguments) (each_effect
      (call_effect call.xid (leaving d (connect_outcome_for d ok call.arguments (peer_named_by call.arguments)))) log
      (by ok (peer_named_by call.arguments)))
    where
      by : (ok : Bool) (found : Option Peer) → Each IsShared (leaving d (connect_outcome_for d ok call.arguments found)).adds
          (device_acts log)
      by true (Some peer) = (is.opened (Waited (Left d) ∷ device_acts log) peer, (is.left (device_acts log), tt))
      by false (Some peer) = (is.left (device_acts log), tt)
      by true None = (is.left (device_acts log), tt)
      by false None = (is.left (device_acts log), tt)

  pub each_refused : (found : Option (List ℕ)) (call : Option CoreCall) (log : List Act) → Each IsSuch (refuse_acts d found call) log
  each_refused (Some bytes) (Some call) log =
      (is.own (On d (CallTaken bytes) ∷ log) (Replied (refused_reply call)), (is.own log (CallTaken bytes), tt))
  each_refused _ _ log = tt

pub own_acts_are_own : (c : ℕ) → IsOf c (IsOwnAct c) (λ before act. IsOwn c act)
own_acts_are_own c = record { own = λ log act. tt; shared = λ log act own. own; left = λ acts. refl; opened = λ acts peer. tt }

pub own_happened : (c : ℕ) (adds : List InstrumentAct) (log : List Act) → Each (IsOwnAct c) (map OnDevice (map Applied adds)) log
own_happened c [] log = tt
own_happened c (act ∷ adds) log = (tt, own_happened c adds log)

-- ---- a call of the connection

-- All that the effect of a call of the connection depends on is the same in both logs.
pub same_ground : (c lid : ℕ) (acts other : List DeviceAct) → View c lid acts other → SameGround c acts other
same_ground c lid acts other view = record {
  ended = rw view.instrument refl;
  answerable = rw view.instrument refl;
  responds = rw view.instrument refl;
  scanned = rw view.instrument refl;
  owned = view.owns;
  held = view.held ∙ sym view.also;
  opened = view.opened;
  clock = view.clock;
}

-- A call that isn't create_link makes no link when it is executed.
pub call_acts_are_own : (c : ℕ) (arguments : Arguments) (adds acts : List DeviceAct) → is_create_link arguments ≡ false
    → Each (IsActOfCall c arguments) adds acts → Each (λ before act. IsOwn c act) adds acts
call_acts_are_own c arguments [] acts makes h = tt
call_acts_are_own c arguments (act ∷ adds) acts makes h = (one act (adds ++ acts) h.0, call_acts_are_own c arguments adds acts makes h.1)
  where
    one : (act : DeviceAct) (acts : List DeviceAct) → IsActOfCall c arguments acts act → IsOwn c act
    one (Linked (Made lid conn)) acts h = let z : true ≡ false = sym h.2 ∙ makes in cc
    one (Waited act) acts h = absurd h
    one _ acts h = tt

-- ---- a Turn

abbrev OwnActs : Config → ℕ → ℕ → List Act → List Act → PlainEvent → Type 0
OwnActs config polled c log other event = (own_acts config polled event log ≡ own_acts config polled event other)
    × Each (IsOwnAct c) (own_acts config polled event log) log

own_admitted : (config : Config) (polled c : ℕ) (arguments : Arguments) (stop : Option Stop) (acts : List DeviceAct)
    → is_create_link arguments ≡ false → Each (λ before act. IsOwn c act) (admission config polled c arguments stop acts).adds acts
own_admitted config polled c arguments None acts makes =
    call_acts_are_own c arguments _ acts makes (each_act_is_of_call config polled c arguments acts)
own_admitted config polled c arguments (Some (Fails error)) acts makes = tt
own_admitted config polled c arguments (Some (Awaits wait until)) acts makes = (refl, tt)

abbrev OwnTurn : Config → ℕ → ℕ → Option (List ℕ) → Option Request → List Act → List Act → Type 0
OwnTurn config polled c found request log other =
    (turn_acts config polled c found request log ≡ turn_acts config polled c found request other)
    × Each (IsOwnAct c) (turn_acts config polled c found request log) log

own_turn_by : (config : Config) (polled c lid : ℕ) (found : Option (List ℕ)) (request : Option Request) (log other : List Act)
    → Pair c lid log other → makes_link request ≡ false → ((xid : ℕ) (named : ℤ) → request ≡ Some (AbortRequest xid named) → ⊥)
    → OwnTurn config polled c found request log other
own_turn_by config polled c lid (Some bytes) (Some (CoreRequest call)) log other pair makes aborts =
    let stop = stop_of c call.arguments (device_acts log) in
    let what = admission config polled c call.arguments stop (device_acts log) in
    let same = admitted_same config polled c call.arguments (device_acts log) (device_acts other) (inl makes)
    (same_ground c lid (device_acts log) (device_acts other) pair.view) in (
      ap (λ (outcome : CallOutcome). taken_acts c bytes (call_effect call.xid outcome) None log) same,
      each_join (IsOwnAct c) (acts_of c (call_effect call.xid what)) (On c (CallTaken bytes) ∷ []) log
          (each_effect c (own_acts_are_own c) (call_effect call.xid what) (On c (CallTaken bytes) ∷ log)
          (own_admitted config polled c call.arguments stop (device_acts log) makes)) (tt, tt),
    )
own_turn_by config polled c lid (Some bytes) (Some (AbortRequest xid named)) log other pair makes aborts = absurd (aborts xid named refl)
own_turn_by config polled c lid (Some bytes) (Some _) log other pair makes aborts = (refl, (tt, (tt, tt)))
own_turn_by config polled c lid _ _ log other pair makes aborts = (refl, tt)

own_turn : (config : Config) (polled c lid : ℕ) (log other : List Act) → Fit log → Pair c lid log other
    → makes_link (next_request (of c log)) ≡ false → OwnActs config polled c log other (Turn c)
own_turn config polled c lid log other fit pair makes =
    let core : open_role (of c log) ≡ Some Core = fit.core lid c pair.view.mine in
    let so = own_turn_by config polled c lid (next_call (of c log)) (next_request (of c log)) log other pair makes
    (λ xid named is. core_role_takes_no_abort (of c log) xid named core is) in
    (so.0 ∙ ap (λ (l : List ConnAct). turn_acts config polled c (next_call l) (next_request l) other) pair.own, so.1)

-- ---- the connection isn't closed

holder_is_not_closed : (c lid : ℕ) (log : List Act) → owner lid (link_acts (device_acts log)) ≡ Some c
    → Each (HoldsAfter lid) (map OnDevice (close_acts c (device_acts log)) ++ On c PortClosed ∷ []) log → ⊥
holder_is_not_closed c lid log mine locks =
    let acts = device_acts log in
    let now : holder (link_acts (device_acts ((map OnDevice (close_acts c acts) ++ On c PortClosed ∷ []) ++ log))) ≡ Some lid = locks.0 in
    let there = append_assoc (map OnDevice (close_acts c acts)) (On c PortClosed ∷ []) log in
    let links = ap (λ (l : List Act). link_acts (device_acts l)) there ∙ ap link_acts (device_acts_of_close c log)
    ∙ link_acts_links (closing c (link_acts acts)) (Waited (Left c) ∷ acts) in
    closed_link_holds_no_lock c lid (link_acts acts) mine (ap holder (sym links) ∙ now)

-- ---- an event

pub own_event : (config : Config) (polled c lid : ℕ) (log other : List Act) (event : PlainEvent) → Fit log → Pair c lid log other
    → is_foreign c event ≡ false → LeavesLinksAlone c event log → Each (HoldsAfter lid) (own_acts config polled event log) log
    → OwnActs config polled c log other event
own_event config polled c lid log other (Turn d) fit pair own left_alone locks =
    let same = own_number d c own in
    subst (λ (n : ℕ). OwnActs config polled c log other (Turn n)) (sym same)
    (own_turn config polled c lid log other fit pair
    (ap (λ (n : ℕ). makes_link (next_request (of n log))) (sym same) ∙ left_alone.1 same))
own_event config polled c lid log other (Refuse d) fit pair own left_alone locks =
    subst (λ (n : ℕ). OwnActs config polled c log other (Refuse n)) (sym (own_number d c own)) (
      ap (λ (l : List ConnAct). refuse_acts c (next_call l) (refusable l)) pair.own,
      each_refused c (own_acts_are_own c) (next_call (of c log)) (refusable (of c log)) log,
    )
own_event config polled c lid log other (Close (Conn d)) fit pair own left_alone locks =
    let same = own_number d c own in
    absurd (holder_is_not_closed c lid log pair.view.mine
    (subst (λ (n : ℕ). Each (HoldsAfter lid) (map OnDevice (close_acts n (device_acts log)) ++ On n PortClosed ∷ []) log) same locks))
own_event config polled c lid log other (Dialed d ok) fit pair own left_alone locks =
    subst (λ (n : ℕ). OwnActs config polled c log other (Dialed n ok)) (sym (own_number d c own)) (
      ap (λ (l : List ConnAct). acts_of c (connect_effect c ok (core_call_in (pending_call l)))) pair.own,
      each_connected c (own_acts_are_own c) ok (core_call_in (pending_call (of c log))) log,
    )
own_event config polled c lid log other External fit pair own left_alone locks = (
  ap (λ (l : List InstrumentAct). map OnDevice (map Applied (external_acts l))) pair.view.instrument,
  own_happened c (external_acts (instrument_acts (device_acts log))) log,
)
own_event config polled c lid log other Tick fit pair own left_alone locks =
    let adds = map OnDevice (map Applied (tick_acts (instrument_acts (device_acts log)))) in (
      ap (λ (l : List InstrumentAct). map OnDevice (map Applied (tick_acts l)) ++ OnDevice Ticked ∷ []) pair.view.instrument,
      each_join (IsOwnAct c) adds (OnDevice Ticked ∷ []) log
          (own_happened c (tick_acts (instrument_acts (device_acts log))) (OnDevice Ticked ∷ log)) (tt, tt),
    )
own_event config polled c lid log other (Took (Conn d) count) fit pair own left_alone locks = (refl, (tt, tt))
own_event config polled c lid log other _ fit pair own left_alone locks = (refl, (tt, tt))
