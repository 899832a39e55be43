-- In the log of the interrupt channels, an event's acts after its first one only close a channel or
-- append calls to a channel.
use Rattle.std.proofs.Common.{◌≡◌, ℕ, Bool, true, false, eqb, cond, List, [], ◌∷◌, ◌++◌, Option, Some, None, refl, sym, ap, subst, ◌∙◌, inl, inr, append_assoc, append-nil, add-zero, ◌+◌}
use Rattle.std.specs.Prelude.{map, ⊤}
use Rattle.std.specs.List.{fold, AllByRecursion}
use Rattle.std.proofs.lemmas.Bool.{cases_Bool}
use Rattle.sv_vxi.specs.Arguments.{Arguments}
use Rattle.sv_links.specs.declared.request.Peer.{Peer}
use Rattle.sv_links.specs.declared.waiting.Wait.{Wait}
use Rattle.sv_links.specs.Links.{LinkAct, Destroyed, closing}
use Rattle.sv_links.specs.Waiting.{Left}
use Rattle.sv_links.specs.Channels.{ChannelAct, ChannelOpened, ChannelClosed, Requested, ChannelTaken, peer, bytes_taken, may_call, add_call, calls, handles_of, enabled_links}
use Rattle.sv_scan.specs.declared.acts.ScanAct.TheVariants.{Input as InputTo}
use Rattle.sv_layers.specs.Act.{Act as InstrumentAct, Scanned}
use Rattle.sv_instrument.specs.Stimulus.{external_acts, tick_acts}
use Rattle.sv_history.specs.declared.event.Config.{Config}
use Rattle.sv_history.specs.declared.event.Port.TheVariants.{Conn, Intr}
use Rattle.sv_history.specs.Event.{PlainEvent, Open, Bytes, Turn, Refuse, Took, Close, Dialed, Input, External, Tick}
use Rattle.sv_history.specs.Act.{Act, DeviceAct, CallTaken, PortClosed, Linked, Waited, Channel, Applied, Ticked, On, OnDevice, of, device_acts, link_acts, instrument_acts, ticks}
use Rattle.sv_history.specs.Connection.{next_call, pending_call}
use Rattle.sv_history.specs.CallOutcome.{CallOutcome, only}
use Rattle.sv_history.specs.CoreCall.{CoreCall, failure}
use Rattle.sv_history.specs.CoreChannel.{own_call}
use Rattle.sv_history.specs.Effect.{Effect, acts_of}
use Rattle.sv_history.specs.Request.{Request, CoreRequest, core_call_in, next_request}
use Rattle.sv_history.specs.Requests.{HearsOf, link_told, request_told}
use Rattle.sv_history.specs.Admission.{Stop, Fails, Awaits, stop_of, admission}
use Rattle.sv_history.specs.Execution.{request_effect}
use Rattle.sv_history.proofs.Dialing.{peer_named_by, connect_outcome_for, connect_outcome_by_peer}
use Rattle.sv_history.specs.Resuming.{effect_of, leaving, next_wait, resume_outcome, connect_effect}
use Rattle.sv_history.specs.Refusing.{refusable}
use Rattle.sv_history.specs.Settling.{SettlesIn}
use Rattle.sv_history.specs.History.{own_acts}
use Rattle.sv_laws.proofs.Brought.{opened_to, peer_in, tells, OnlyAdds, OnlyRequests, is_tick}
use Rattle.sv_scan.specs.Condition.{bit}
use Rattle.sv_history.proofs.Projections.{device_effect, device_acts_append}
use Rattle.sv_history.proofs.Telling.{channel_log_unique}
use Rattle.sv_laws.proofs.OneLog.{one_log}
use Rattle.sv_laws.proofs.Facts.{all_append}
use Rattle.sv_laws.proofs.EveryLog.Done.{IsActOfCall, each_act_is_of_call}
use Rattle.sv_logs.proofs.Each.{Each}
use Rattle.sv_laws.proofs.EveryLog.EachEvent.{settling_keeps, StepsKeep, step_keeps, turn_keeps, refuse_keeps}

-- ---- acts that open no channel, take no bytes and let no time pass

abbrev IsPlain : DeviceAct → Type 0
IsPlain (Channel (ChannelOpened conn what)) = ⊥
IsPlain (Channel (ChannelTaken conn count)) = ⊥
IsPlain Ticked = ⊥
IsPlain act = ⊤

abbrev ArePlain : List DeviceAct → Type 0
ArePlain = AllByRecursion IsPlain

plain_happened : (adds : List InstrumentAct) → ArePlain (map Applied adds)
plain_happened [] = tt
plain_happened (act ∷ adds) = (tt, plain_happened adds)

plain_links : (links : List LinkAct) → ArePlain (map Linked links)
plain_links [] = tt
plain_links (act ∷ links) = (tt, plain_links links)

-- ---- what these acts add to the log of the interrupt channels

fold_appends_calls : (p : Option Peer) (t : ℕ) (cs handles : List (List ℕ)) → (more : List (List ℕ))
    × (fold (add_call p t) cs handles ≡ cs ++ more)
fold_appends_calls p t cs [] = ([], sym (append-nil cs))
fold_appends_calls p t cs (handle ∷ handles) =
    let one = one_adds p handle in
    let rest = fold_appends_calls p t (add_call p t cs handle) handles in
    (one.0 ++ rest.0, rest.1 ∙ ap (λ (l : List (List ℕ)). l ++ rest.0) one.1 ∙ append_assoc cs one.0 rest.0)
  where
    by_test : (may : Bool) (call : List ℕ) → (more : List (List ℕ)) × (cond may (cs ++ call ∷ []) cs ≡ cs ++ more)
    by_test true call = (call ∷ [], refl)
    by_test false call = ([], sym (append-nil cs))

    one_adds : (p : Option Peer) (handle : List ℕ) → (more : List (List ℕ)) × (add_call p t cs handle ≡ cs ++ more)
    one_adds (Some what) handle = by_test (may_call t cs) _
    one_adds None handle = ([], sym (append-nil cs))

pub only_adds_refl : (c : ℕ) (channel_log : List ChannelAct) → OnlyAdds c channel_log channel_log
only_adds_refl c channel_log = λ opened. (opened, refl, [], sym (append-nil (calls c channel_log)))

pub only_adds_trans : (c : ℕ) (a b d : List ChannelAct) → OnlyAdds c a b → OnlyAdds c b d → OnlyAdds c a d
only_adds_trans c a b d x y = λ opened.
    let last = y opened in
    let first = x last.0 in (
      first.0,
      last.1 ∙ first.1,
      first.2 ++ last.2,
      last.3 ∙ ap (λ (l : List (List ℕ)). l ++ last.2) first.3 ∙ append_assoc (calls c a) first.2 last.2,
    )

adds_linked : (c : ℕ) (act : LinkAct) (channel_log : List ChannelAct) → OnlyAdds c channel_log (link_told act channel_log)
adds_linked c (Destroyed lid) channel_log = λ opened. (opened, refl, [], sym (append-nil (calls c channel_log)))
adds_linked c _ channel_log = only_adds_refl c channel_log

adds_requested : (c : ℕ) (raised : Bool) (channel_log : List ChannelAct) → OnlyAdds c channel_log (request_told raised channel_log)
adds_requested c true channel_log = λ opened.
    let more = fold_appends_calls (peer c channel_log) (bytes_taken c channel_log) (calls c channel_log)
    (handles_of c (enabled_links channel_log)) in
    (opened, refl, more.0, more.1)
adds_requested c false channel_log = only_adds_refl c channel_log

adds_channel : (c : ℕ) (act : ChannelAct) (channel_log : List ChannelAct) → IsPlain (Channel act)
    → OnlyAdds c channel_log (act ∷ channel_log)
adds_channel c (ChannelOpened conn what) channel_log h = absurd h
adds_channel c (ChannelTaken conn count) channel_log h = absurd h
adds_channel c (ChannelClosed conn) channel_log h = elim (cases_Bool (eqb conn c)) [
  | inl e ↦ λ opened. absurd (let z : false ≡ true = rw e at opened in cc)
  | inr e ↦ rw e (only_adds_refl c channel_log)
]
adds_channel c Requested channel_log h = adds_requested c true channel_log
adds_channel c _ channel_log h = only_adds_refl c channel_log

pub plain_acts_only_add : (c : ℕ) (adds acts : List DeviceAct) (channel_log later : List ChannelAct) → ArePlain adds
    → HearsOf acts channel_log → HearsOf (adds ++ acts) later → OnlyAdds c channel_log later
plain_acts_only_add c [] acts channel_log later h x y = subst (OnlyAdds c channel_log) (channel_log_unique acts channel_log later x y)
    (only_adds_refl c channel_log)
plain_acts_only_add c (Channel act ∷ adds) acts channel_log later h x (before, y, is) = subst (OnlyAdds c channel_log) (sym is)
    (only_adds_trans c channel_log before (act ∷ before) (plain_acts_only_add c adds acts channel_log before h.1 x y)
    (adds_channel c act before h.0))
plain_acts_only_add c (Linked act ∷ adds) acts channel_log later h x (before, y, is) =
    subst (OnlyAdds c channel_log) (sym is)
    (only_adds_trans c channel_log before (link_told act before) (plain_acts_only_add c adds acts channel_log before h.1 x y)
    (adds_linked c act before))
plain_acts_only_add c (Applied act ∷ adds) acts channel_log later h x (before, raised, y, so, is) =
    subst (OnlyAdds c channel_log) (sym is)
    (only_adds_trans c channel_log before (request_told raised before) (plain_acts_only_add c adds acts channel_log before h.1 x y)
    (adds_requested c raised before))
plain_acts_only_add c (Waited act ∷ adds) acts channel_log later h x y = plain_acts_only_add c adds acts channel_log later h.1 x y
plain_acts_only_add c (Ticked ∷ adds) acts channel_log later h x y = absurd h.0

plain_ticks : (adds acts : List DeviceAct) → ArePlain adds → ticks (adds ++ acts) ≡ ticks acts
plain_ticks [] acts h = refl
plain_ticks (Ticked ∷ adds) acts h = absurd h.0
plain_ticks (_ ∷ adds) acts h = plain_ticks adds acts h.1

-- ---- calls of the core channel

plain_done : (c : ℕ) (arguments : Arguments) (adds acts : List DeviceAct) → Each (IsActOfCall c arguments) adds acts → ArePlain adds
plain_done c arguments [] acts h = tt
plain_done c arguments (act ∷ adds) acts h = (one act h.0, plain_done c arguments adds acts h.1)
  where
    one : (act : DeviceAct) → IsActOfCall c arguments (adds ++ acts) act → IsPlain act
    one (Channel (ChannelOpened conn what)) h = h
    one (Channel (ChannelTaken conn count)) h = h
    one Ticked h = h
    one _ h = tt

plain_own : (config : Config) (polled c : ℕ) (arguments : Arguments) (acts : List DeviceAct)
    → ArePlain (own_call config polled c arguments acts).adds
plain_own config polled c arguments acts = plain_done c arguments _ acts (each_act_is_of_call config polled c arguments acts)

plain_admitted : (config : Config) (polled c : ℕ) (arguments : Arguments) (stop : Option Stop) (acts : List DeviceAct)
    → ArePlain (admission config polled c arguments stop acts).adds
plain_admitted config polled c arguments None acts = plain_own config polled c arguments acts
plain_admitted config polled c arguments (Some (Fails error)) acts = tt
plain_admitted config polled c arguments (Some (Awaits wait timeout)) acts = (tt, tt)

plain_request : (config : Config) (polled c : ℕ) (request : Request) (acts : List DeviceAct)
    → ArePlain (request_effect config polled c request acts).adds
plain_request config polled c (CoreRequest call) acts = plain_admitted config polled c call.arguments (stop_of c call.arguments acts) acts
plain_request config polled c _ acts = tt

plain_continued : (config : Config) (polled c : ℕ) (arguments : Arguments) (next : Option (Wait × ℕ)) (acts : List DeviceAct)
    → ArePlain (resume_outcome config polled c arguments next acts).adds
plain_continued config polled c arguments (Some wait) acts = (tt, tt)
plain_continued config polled c arguments None acts =
    all_append IsPlain (own_call config polled c arguments (Waited (Left c) ∷ acts)).adds (Waited (Left c) ∷ [])
    (plain_own config polled c arguments (Waited (Left c) ∷ acts)) (tt, tt)

plain_ended : (c : ℕ) (does : Arguments → CallOutcome) (call : Option CoreCall) → ((arguments : Arguments) → ArePlain (does arguments).adds)
    → ArePlain (effect_of c does call).adds
plain_ended c does (Some call) h = h call.arguments
plain_ended c does None h = (tt, tt)

-- ---- logs that such acts continue

abbrev FollowedByPlain : List DeviceAct → List Act → Type 0
FollowedByPlain base log = (adds : List DeviceAct) × ArePlain adds × (device_acts log ≡ adds ++ base)

behind_effect : (base : List DeviceAct) (c : ℕ) (effect : Effect) (log : List Act) → ArePlain effect.adds → FollowedByPlain base log
    → FollowedByPlain base (acts_of c effect ++ log)
behind_effect base c effect log h (adds, k, is) = (
  effect.adds ++ adds,
  all_append IsPlain effect.adds adds h k,
  device_effect c effect log ∙ ap (λ (l : List DeviceAct). effect.adds ++ l) is ∙ sym (append_assoc effect.adds adds base),
)

behind_shared : (base more : List DeviceAct) (log : List Act) → ArePlain more → FollowedByPlain base log
    → FollowedByPlain base (map OnDevice more ++ log)
behind_shared base more log h (adds, k, is) = (
  more ++ adds,
  all_append IsPlain more adds h k,
  device_acts_append more log ∙ ap (λ (l : List DeviceAct). more ++ l) is ∙ sym (append_assoc more adds base),
)

behind_ended : (base : List DeviceAct) (c : ℕ) (does : Arguments → CallOutcome) (log : List Act)
    → ((arguments : Arguments) → ArePlain (does arguments).adds) → FollowedByPlain base log
    → FollowedByPlain base (acts_of c (effect_of c does (core_call_in (pending_call (of c log)))) ++ log)
behind_ended base c does log h =
    behind_effect base c (effect_of c does (core_call_in (pending_call (of c log)))) log (plain_ended c does _ h)

steps_keep : (base : List DeviceAct) (config : Config) → StepsKeep config (FollowedByPlain base)
steps_keep base config = record {
  happened = λ adds log. behind_shared base (map Applied adds) log (plain_happened adds);
  resumed = λ polled c wait log for. behind_ended base c (λ arguments. resume_outcome config polled c arguments
      (next_wait wait arguments (device_acts log)) (device_acts log)) log
      (λ arguments. plain_continued config polled c arguments (next_wait wait arguments (device_acts log)) (device_acts log));
  failed = λ error c log. behind_ended base c (λ arguments. leaving c (only (failure arguments error))) log (λ arguments. (tt, tt));
}

-- ---- an event's own acts

behind_none : (log : List Act) → FollowedByPlain (device_acts log) log
behind_none log = ([], tt, refl)

ticks_plus_zero : (log : List Act) → ticks (device_acts log) ≡ ticks (device_acts log) + 0
ticks_plus_zero log = sym (add-zero (ticks (device_acts log)))

-- The new log continues `base` by such acts. Compared with `log`, the base adds `told` to the log
-- of the interrupt channels, and `passed` milliseconds.
record BeginsBy (told : List ChannelAct) (passed : ℕ) (log new : List Act) : Type 0 where
  base : List DeviceAct
  behind : FollowedByPlain base new
  hears : (channel_log : List ChannelAct) → HearsOf (device_acts log) channel_log → HearsOf base (told ++ channel_log)
  time : ticks base ≡ ticks (device_acts log) + passed

-- Most events add nothing to the log of the interrupt channels, and let no time pass.
at_once : (log new : List Act) → FollowedByPlain (device_acts log) new → BeginsBy [] 0 log new
at_once log new all = record { base = device_acts log; behind = all; hears = λ channel_log x. x; time = ticks_plus_zero log }

abbrev dialed : ℕ → Bool → CoreCall → Option Peer → Effect
dialed c ok call found = effect_of c (λ arguments. leaving c (connect_outcome_for c ok arguments found)) (Some call)

begins_peer : (c : ℕ) (ok : Bool) (call : CoreCall) (found : Option Peer) (log : List Act)
    → BeginsBy (cond ok (opened_to c found) []) 0 log (acts_of c (dialed c ok call found) ++ log)
begins_peer c true call (Some one) log = record {
  base = Channel (ChannelOpened c one) ∷ Waited (Left c) ∷ device_acts log;
  behind = ([], tt, device_effect c (dialed c true call (Some one)) log);
  hears = λ channel_log x. (channel_log, x, refl);
  time = ticks_plus_zero log;
}
begins_peer c false call (Some one) log =
    at_once log _ (behind_effect (device_acts log) c (dialed c false call (Some one)) log (tt, tt) (behind_none log))
begins_peer c true call None log =
    at_once log _ (behind_effect (device_acts log) c (dialed c true call None) log (tt, tt) (behind_none log))
begins_peer c false call None log =
    at_once log _ (behind_effect (device_acts log) c (dialed c false call None) log (tt, tt) (behind_none log))

begins_dialed : (c : ℕ) (ok : Bool) (call : Option CoreCall) (log : List Act)
    → BeginsBy (cond ok (opened_to c (peer_in call)) []) 0 log (acts_of c (connect_effect c ok call) ++ log)
begins_dialed c true None log =
    at_once log _ (behind_effect (device_acts log) c (connect_effect c true None) log (tt, tt) (behind_none log))
begins_dialed c false None log =
    at_once log _ (behind_effect (device_acts log) c (connect_effect c false None) log (tt, tt) (behind_none log))
begins_dialed c ok (Some call) log = rw (connect_outcome_by_peer c ok call.arguments)
    (begins_peer c ok call (peer_named_by call.arguments) log)

begins : (config : Config) (event : PlainEvent) (polled : ℕ) (log : List Act)
    → BeginsBy (tells event log) (bit 0 (is_tick event)) log (own_acts config polled event log ++ log)
begins config (Open c role) polled log = at_once log _ ([], tt, refl)
begins config (Bytes c piece) polled log = at_once log _ ([], tt, refl)
begins config (Turn c) polled log =
    let base = device_acts log in
    at_once log _ (turn_keeps config (FollowedByPlain base) (steps_keep base config) polled c (next_call (of c log))
    (next_request (of c log)) log
    (behind_none log) (λ bytes request next asks. behind_effect base c (request_effect config polled c request base)
    (On c (CallTaken bytes) ∷ log) (plain_request config polled c request base) ([], tt, refl)))
begins config (Refuse c) polled log = at_once log _ (refuse_keeps (FollowedByPlain (device_acts log)) c (next_call (of c log))
    (refusable (of c log)) log (behind_none log) (λ bytes call next can. ([], tt, refl)))
begins config (Took (Conn c) count) polled log = at_once log _ ([], tt, refl)
begins config (Took (Intr c) count) polled log =
    let base = Channel (ChannelTaken c count) ∷ device_acts log in
    record { base = base; behind = ([], tt, refl); hears = λ channel_log x. (channel_log, x, refl); time = ticks_plus_zero log }
begins config (Close (Conn c)) polled log =
    let links = closing c (link_acts (device_acts log)) in
    let adds = Channel (ChannelClosed c) ∷ (map Linked links ++ Waited (Left c) ∷ []) in
    at_once log _ (subst (FollowedByPlain (device_acts log)) (sym (append_assoc (map OnDevice adds) (On c PortClosed ∷ []) log))
    (behind_shared (device_acts log) adds (On c PortClosed ∷ log)
    (tt, all_append IsPlain (map Linked links) (Waited (Left c) ∷ []) (plain_links links) (tt, tt)) ([], tt, refl)))
begins config (Close (Intr c)) polled log =
    at_once log _ (behind_shared (device_acts log) (Channel (ChannelClosed c) ∷ []) log (tt, tt) (behind_none log))
begins config (Dialed c true) polled log = begins_dialed c true (core_call_in (pending_call (of c log))) log
begins config (Dialed c false) polled log = begins_dialed c false (core_call_in (pending_call (of c log))) log
begins config (Input channel microvolts) polled log = at_once log _
    (behind_shared (device_acts log) (Applied (Scanned (InputTo channel microvolts)) ∷ []) log (tt, tt) (behind_none log))
begins config External polled log =
    let adds = external_acts (instrument_acts (device_acts log)) in
    at_once log _ (behind_shared (device_acts log) (map Applied adds) log (plain_happened adds) (behind_none log))
begins config Tick polled log =
    let adds = tick_acts (instrument_acts (device_acts log)) in
    record {
      base = Ticked ∷ device_acts log;
      behind = subst (FollowedByPlain (Ticked ∷ device_acts log))
          (sym (append_assoc (map OnDevice (map Applied adds)) (OnDevice Ticked ∷ []) log))
          (behind_shared (Ticked ∷ device_acts log) (map Applied adds) (OnDevice Ticked ∷ log) (plain_happened adds) ([], tt, refl));
      hears = λ channel_log x. x;
      time = refl;
    }

-- The steps after an event's own acts add only such acts.
ends_behind : (config : Config) (event : PlainEvent) (polled : ℕ) (before log : List Act) (n : ℕ)
    → SettlesIn n config (own_acts config polled event before ++ before) log → FollowedByPlain (begins config event polled before).base log
ends_behind config event polled before log n settles =
    let start = begins config event polled before in
    settling_keeps config (FollowedByPlain start.base) (step_keeps config _ (steps_keep start.base config)) n
    (own_acts config polled event before ++ before) log start.behind settles

event_only_adds : (config : Config) (event : PlainEvent) (polled : ℕ) (before log : List Act) (channel_log later : List ChannelAct) (c : ℕ)
    → HearsOf (device_acts before) channel_log → (n : ℕ) → SettlesIn n config (own_acts config polled event before ++ before) log
    → HearsOf (device_acts log) later → OnlyAdds c (tells event before ++ channel_log) later
event_only_adds config event polled before log channel_log later c x n settles y =
    let start = begins config event polled before in
    let end = ends_behind config event polled before log n settles in
    plain_acts_only_add c end.0 start.base (tells event before ++ channel_log) later end.1 (start.hears channel_log x)
    (subst (λ (acts : List DeviceAct). HearsOf acts later) end.2 y)

pub only_requests : OnlyRequests
only_requests config event history before log channel_log later c was x is y =
    let same = one_log config history is.0 before is.4 was in
    let settles = subst (λ (l : List Act). SettlesIn is.8.0 config (own_acts config is.1 event l ++ l) log) same is.8.1 in
    event_only_adds config event is.1 before log channel_log later c x is.8.0 settles y

-- ---- how far an event advances the clock

pub ticks_after_event : (config : Config) (event : PlainEvent) (polled : ℕ) (before log : List Act) (n : ℕ)
    → SettlesIn n config (own_acts config polled event before ++ before) log
    → ticks (device_acts log) ≡ ticks (device_acts before) + bit 0 (is_tick event)
ticks_after_event config event polled before log n settles =
    let start = begins config event polled before in
    let end = ends_behind config event polled before log n settles in
    ap ticks end.2 ∙ plain_ticks end.0 start.base end.1 ∙ start.time
