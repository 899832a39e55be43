-- In a connection's log, an event's acts after its first one are about calls: a call is taken, has
-- a fault, or is replied to.
use Rattle.std.proofs.Common.{◌≡◌, ℕ, eqb, true, false, List, [], ◌∷◌, ◌++◌, Option, Some, None, refl, sym, ap, subst, ◌∙◌, inl, inr, append_assoc}
use Rattle.std.specs.Prelude.{map}
use Rattle.std.proofs.lemmas.Bool.{cases_Bool}
use Rattle.sv_vxi.specs.Arguments.{Arguments}
use Rattle.sv_vxi.specs.Results.{Outcome}
use Rattle.sv_links.specs.Links.{closing}
use Rattle.sv_links.specs.Waiting.{Left}
use Rattle.sv_links.specs.Channels.{ChannelClosed, ChannelTaken}
use Rattle.sv_scan.specs.declared.acts.ScanAct.TheVariants.{Input as InputTo}
use Rattle.sv_layers.specs.Act.{Scanned}
use Rattle.sv_instrument.specs.Stimulus.{external_acts, tick_acts}
use Rattle.sv_history.specs.declared.event.Config.{Config}
use Rattle.sv_history.specs.declared.event.Port.TheVariants.{Conn, Intr}
use Rattle.sv_history.specs.Event.{PlainEvent, Open, Bytes, Turn, Refuse, Took, Close, Dialed, Input, External, Tick}
use Rattle.sv_history.specs.Act.{Act, ConnAct, DeviceAct, Opened, Piece, CallTaken, Faulted, Replied, BytesTaken, PortClosed, Linked, Waited, Channel, Applied, Ticked, On, OnDevice, of, device_acts, link_acts, instrument_acts}
use Rattle.sv_history.specs.Connection.{next_call, pending_call}
use Rattle.sv_history.specs.CallOutcome.{CallOutcome}
use Rattle.sv_history.specs.CoreCall.{CoreCall}
use Rattle.sv_history.specs.Effect.{Effect, acts_of, replies}
use Rattle.sv_history.specs.Request.{Request, CoreRequest, core_call_in, next_request}
use Rattle.sv_history.specs.Execution.{request_effect}
use Rattle.sv_history.specs.Interrupts.{connect_outcome}
use Rattle.sv_history.specs.Resuming.{effect_of, leaving}
use Rattle.sv_history.specs.Refusing.{refusable}
use Rattle.sv_history.specs.History.{own_acts}
use Rattle.sv_laws.proofs.Brought.{brings, AreCallActs, OnlyCalls}
use Rattle.sv_history.proofs.Projections.{of_device_acts}
use Rattle.sv_laws.proofs.OneLog.{one_log}
use Rattle.sv_laws.proofs.EveryLog.EachEvent.{settling_keeps, StepsKeep, steps_keep_by_effects, step_keeps, turn_keeps, refuse_keeps}
use Rattle.sv_laws.proofs.EveryLog.Fit.{each_after_effect}

pub append_of_calls : (one other : List ConnAct) → AreCallActs one → AreCallActs other → AreCallActs (one ++ other)
append_of_calls [] other h k = k
append_of_calls (CallTaken call ∷ one) other h k = append_of_calls one other h k
append_of_calls (Faulted ∷ one) other h k = append_of_calls one other h k
append_of_calls (Replied bytes ∷ one) other h k = append_of_calls one other h k
append_of_calls (_ ∷ one) other h k = absurd h

replies_are_calls : (xid : ℕ) (result : Option Outcome) → AreCallActs (replies xid result)
replies_are_calls xid (Some result) = tt
replies_are_calls xid None = tt

-- ---- acts of calls that follow a log

abbrev FollowedByCalls : (ℕ → List ConnAct) → List Act → Type 0
FollowedByCalls base log = (c : ℕ) → (calls : List ConnAct) × AreCallActs calls × (of c log ≡ calls ++ base c)

more_calls_follow : (base acts : List ConnAct) (adds : List ConnAct) → AreCallActs adds
    → (calls : List ConnAct) × AreCallActs calls × (acts ≡ calls ++ base)
    → (calls : List ConnAct) × AreCallActs calls × (adds ++ acts ≡ calls ++ base)
more_calls_follow base acts adds h (calls, k, is) =
    (adds ++ calls, append_of_calls adds calls h k, ap (λ (l : List ConnAct). adds ++ l) is ∙ sym (append_assoc adds calls base))

behind_effect : (base : ℕ → List ConnAct) (c : ℕ) (effect : Effect) (log : List Act) → AreCallActs effect.own → FollowedByCalls base log
    → FollowedByCalls base (acts_of c effect ++ log)
behind_effect base c effect log h all =
    each_after_effect (λ d acts. (calls : List ConnAct) × AreCallActs calls × (acts ≡ calls ++ base d)) c effect log
    (more_calls_follow (base c) (of c log) effect.own h (all c)) (λ d ne. all d)

behind_call : (base : ℕ → List ConnAct) (c : ℕ) (act : ConnAct) (log : List Act) → AreCallActs (act ∷ []) → FollowedByCalls base log
    → FollowedByCalls base (On c act ∷ log)
behind_call base c act log h all = behind_effect base c (record { own = act ∷ []; adds = [] }) log h all

behind_shared : (base : ℕ → List ConnAct) (adds : List DeviceAct) (log : List Act) → FollowedByCalls base log
    → FollowedByCalls base (map OnDevice adds ++ log)
behind_shared base adds log all d =
    subst (λ (l : List ConnAct). (calls : List ConnAct) × AreCallActs calls × (l ≡ calls ++ base d)) (sym (of_device_acts d adds log))
    (all d)

-- ---- a suspended call ends or is suspended again

behind_ended : (base : ℕ → List ConnAct) (c : ℕ) (does : Arguments → CallOutcome) (log : List Act) → FollowedByCalls base log
    → FollowedByCalls base (acts_of c (effect_of c does (core_call_in (pending_call (of c log)))) ++ log)
behind_ended base c does log = by (core_call_in (pending_call (of c log)))
  where
    by : (call : Option CoreCall) → FollowedByCalls base log → FollowedByCalls base (acts_of c (effect_of c does call) ++ log)
    by (Some call) = behind_effect base c (effect_of c does (Some call)) log (replies_are_calls call.xid (does call.arguments).result)
    by None = behind_effect base c (effect_of c does None) log tt

steps_keep : (base : ℕ → List ConnAct) (config : Config) → StepsKeep config (FollowedByCalls base)
steps_keep base config =
    steps_keep_by_effects config (FollowedByCalls base) (λ adds log. behind_shared base (map Applied adds) log) (behind_ended base)

-- ---- an event's own acts

pub request_calls : (config : Config) (polled c : ℕ) (request : Request) (acts : List DeviceAct)
    → AreCallActs (request_effect config polled c request acts).own
request_calls config polled c (CoreRequest call) acts = replies_are_calls call.xid _
request_calls config polled c _ acts = tt

-- An event's own act is added to its own connection only.
own_act_on_conn : (c d : ℕ) (act : ConnAct) (log : List Act) (brought : List ConnAct) → (eqb c d ≡ true → brought ≡ act ∷ [])
    → (eqb c d ≡ false → brought ≡ []) → of d (On c act ∷ log) ≡ brought ++ of d log
own_act_on_conn c d act log brought mine other = elim (cases_Bool (eqb c d)) [
  | inl e ↦ rw (e, mine e) refl
  | inr e ↦ rw (e, other e) refl
]

behind_none : (log : List Act) → FollowedByCalls (λ c. of c log) log
behind_none log c = ([], tt, refl)

pub behind_event : (config : Config) (event : PlainEvent) (polled : ℕ) (log : List Act)
    → FollowedByCalls (λ c. brings c event ++ of c log) (own_acts config polled event log ++ log)
behind_event config (Open c role) polled log = λ d. ([], tt, own_act_on_conn c d (Opened role) log _ (λ e. rw e refl) (λ e. rw e refl))
behind_event config (Bytes c piece) polled log = λ d. ([], tt, own_act_on_conn c d (Piece piece) log _ (λ e. rw e refl) (λ e. rw e refl))
behind_event config (Turn c) polled log =
    turn_keeps config (FollowedByCalls (λ d. of d log)) (steps_keep (λ d. of d log) config) polled c (next_call (of c log))
    (next_request (of c log))
    log (behind_none log) (λ bytes request next asks.
    behind_effect (λ d. of d log) c (request_effect config polled c request (device_acts log)) (On c (CallTaken bytes) ∷ log)
    (request_calls config polled c request (device_acts log))
    (behind_call (λ d. of d log) c (CallTaken bytes) log tt (behind_none log)))
behind_event config (Refuse c) polled log =
    refuse_keeps (FollowedByCalls (λ d. of d log)) c (next_call (of c log)) (refusable (of c log)) log (behind_none log)
    (λ bytes call next can.
    behind_call (λ d. of d log) c (Replied _) (On c (CallTaken bytes) ∷ log) tt
    (behind_call (λ d. of d log) c (CallTaken bytes) log tt (behind_none log)))
behind_event config (Took (Conn c) count) polled log = λ d.
    ([], tt, own_act_on_conn c d (BytesTaken count) log _ (λ e. rw e refl) (λ e. rw e refl))
behind_event config (Took (Intr c) count) polled log =
    behind_shared (λ c. of c log) (Channel (ChannelTaken c count) ∷ []) log (behind_none log)
behind_event config (Close (Conn c)) polled log = λ d.
    let adds = Channel (ChannelClosed c) ∷ (map Linked (closing c (link_acts (device_acts log))) ++ Waited (Left c) ∷ []) in (
      [],
      tt,
      ap (of d) (append_assoc (map OnDevice adds) (On c PortClosed ∷ []) log) ∙ of_device_acts d adds (On c PortClosed ∷ log)
          ∙ own_act_on_conn c d PortClosed log _ (λ e. rw e refl) (λ e. rw e refl),
    )
behind_event config (Close (Intr c)) polled log = behind_shared (λ c. of c log) (Channel (ChannelClosed c) ∷ []) log (behind_none log)
behind_event config (Dialed c ok) polled log =
    behind_ended (λ c. of c log) c (λ arguments. leaving c (connect_outcome c ok arguments)) log (behind_none log)
behind_event config (Input channel microvolts) polled log =
    behind_shared (λ c. of c log) (Applied (Scanned (InputTo channel microvolts)) ∷ []) log (behind_none log)
behind_event config External polled log =
    behind_shared (λ c. of c log) (map Applied (external_acts (instrument_acts (device_acts log)))) log (behind_none log)
behind_event config Tick polled log =
    let adds = map Applied (tick_acts (instrument_acts (device_acts log))) in
    subst (FollowedByCalls (λ c. of c log)) (sym (append_assoc (map OnDevice adds) (OnDevice Ticked ∷ []) log))
    (behind_shared (λ c. of c log) adds (OnDevice Ticked ∷ log) (behind_shared (λ c. of c log) (Ticked ∷ []) log (behind_none log)))

pub only_calls : OnlyCalls
only_calls config event history before log c was is =
    let same = one_log config history is.0 before is.4 was in
    let grown = settling_keeps config (FollowedByCalls (λ d. brings d event ++ of d is.0))
    (step_keeps config _ (steps_keep (λ d. brings d event ++ of d is.0) config))
    is.8.0 (own_acts config is.1 event is.0 ++ is.0) log (behind_event config event is.1 is.0) is.8.1 in
    subst (λ (l : List Act). (calls : List ConnAct) × AreCallActs calls × (of c log ≡ calls ++ (brings c event ++ of c l))) same (grown c)
