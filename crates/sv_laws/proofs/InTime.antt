-- A pending call was taken fewer milliseconds ago than its longest wait: the law `InTime`.
use Rattle.std.proofs.Common.{◌≡◌, ◌≢◌, ℕ, ◌+◌, ◌<◌, ◌≤◌, Bool, true, false, List, [], ◌∷◌, ◌++◌, Option, Some, None, refl, sym, ap, subst, ◌∙◌, inl, inr, ◌⊎◌, append_assoc, eq-eqb, arith}
use Rattle.std.specs.Prelude.{map, ⊤}
use Rattle.std.proofs.lemmas.Bool.{cases_eq, ne_eqb, cases_lt}
use Rattle.sv_logs.proofs.Each.{Each}
use Rattle.sv_vxi.specs.Arguments.{Arguments, CreateIntrChan, link}
use Rattle.sv_vxi.specs.Results.{Outcome}
use Rattle.sv_links.specs.declared.request.Peer.{Peer}
use Rattle.sv_links.specs.declared.waiting.Wait.{Wait}
use Rattle.sv_links.specs.declared.waiting.Wait.TheVariants.{Lock}
use Rattle.sv_links.specs.Links.{LinkAct, closing}
use Rattle.sv_links.specs.Waiting.{WaitAct, Entered, Again, Left, waits, deadline as until_of}
use Rattle.sv_links.specs.Channels.{ChannelClosed, ChannelTaken}
use Rattle.sv_scan.specs.declared.acts.ScanAct.TheVariants.{Input as InputTo}
use Rattle.sv_layers.specs.Act.{Act as InstrumentAct, Scanned}
use Rattle.sv_instrument.specs.Stimulus.{external_acts, tick_acts}
use Rattle.sv_history.specs.declared.event.Config.{Config}
use Rattle.sv_history.specs.declared.event.Port.TheVariants.{Conn, Intr}
use Rattle.sv_history.specs.Event.{PlainEvent, Open, Bytes, Turn, Refuse, Took, Close, Dialed, Input, External, Tick}
use Rattle.sv_history.specs.Act.{Act, ConnAct, DeviceAct, Opened, Piece, CallTaken, Replied, BytesTaken, PortClosed, Linked, Waited, Channel, Applied, Ticked, On, OnDevice, of, device_acts, link_acts, wait_acts, instrument_acts, ticks}
use Rattle.sv_history.specs.Connection.{next_call, pending_call}
use Rattle.sv_history.specs.CallOutcome.{CallOutcome, only}
use Rattle.sv_history.specs.CoreCall.{CoreCall, lid_of, failure}
use Rattle.sv_history.specs.CoreChannel.{own_call}
use Rattle.sv_history.specs.Effect.{Effect, acts_of, replies, call_effect}
use Rattle.sv_history.specs.Request.{Request, CoreRequest, core_call_in, next_request}
use Rattle.sv_history.specs.Interrupts.{connect_outcome}
use Rattle.sv_history.specs.Admission.{Stop, Fails, Awaits, stop_of, admission, deadline}
use Rattle.sv_history.specs.Execution.{request_effect}
use Rattle.sv_history.specs.Refusing.{refusable, refused_reply}
use Rattle.sv_history.specs.Resuming.{effect_of, leaving, next_wait, resume_outcome}
use Rattle.sv_history.specs.History.{IsLogOf}
use Rattle.sv_history.proofs.Dialing.{peer_named_by, connect_outcome_for, connect_outcome_by_peer}
use Rattle.sv_history.proofs.Projections.{of_own_act, of_device_acts, device_acts_append, device_effect, wait_acts_links, wait_acts_applied, ticks_links}
use Rattle.sv_laws.specs.InTime.{age, lock_time, patience, waits_for_peer, InTime}
use Rattle.sv_laws.proofs.Patience.{bound, bound_within_patience, wait_within_bound, wait_after_lock_is, BeginsWait, begins}
use Rattle.sv_laws.proofs.Facts.{some_injective, none_is_not_some, true_is_not_false}
use Rattle.sv_laws.proofs.CallsAlike.{SameCall, same_call_refl}
use Rattle.sv_laws.proofs.NoneLate.{none_late}
use Rattle.sv_laws.proofs.Place.{EventsKeep, each_place}
use Rattle.sv_laws.proofs.Sound.{same_call_other_conn, mapped_again}
use Rattle.sv_laws.proofs.EveryLog.Done.{IsActOfCall, each_act_is_of_call}
use Rattle.sv_laws.proofs.EveryLog.Taken.{core_call_is_on_core_role}
use Rattle.sv_laws.proofs.EveryLog.Fit.{Fit, each_after_effect}
use Rattle.sv_laws.proofs.EveryLog.BusyWaits.{unsuspended_has_no_pending}
use Rattle.sv_laws.proofs.EveryLog.EachEvent.{StepsKeep, step_keeps, turn_keeps, refuse_keeps, call_acts_suspend_none, entered_waits, next_call_means_none_suspended, close_acts, device_acts_of_close, close_leaves_others, fit_log, left_is_not_suspended}

-- ---- the deadline of a suspended call

-- The call waits for its peer; or its wait has a deadline that hasn't passed. At this deadline the
-- call will be at most `bound` milliseconds old; and if it waits for the lock, at least as old as
-- its lock timeout.
abbrev pub MeetsBound : ℕ → ℕ → Wait → Option ℕ → Arguments → Type 0
MeetsBound old clock wait until arguments = (waits_for_peer arguments ≡ true)
    ⊎ ((last : ℕ) × (until ≡ Some last) × (last + old ≤ clock + bound wait arguments) × (clock ≤ last)
    × (wait ≡ Lock → clock + lock_time arguments ≤ last + old))

abbrev pub Timely : ℕ → ℕ → ℕ → List ConnAct → List WaitAct → Type 0
Timely old clock c own acts = (wait : Wait) (call : CoreCall) → waits c acts ≡ Some wait → core_call_in (pending_call own) ≡ Some call
    → MeetsBound old clock wait (until_of c acts) call.arguments

abbrev pub AllTimely : Config → List Act → Type 0
AllTimely config log =
    (c : ℕ) → Timely (age c log) (config.clock + ticks (device_acts log)) c (of c log) (wait_acts (device_acts log))

timely_none : (old clock c : ℕ) (own : List ConnAct) (acts : List WaitAct) → waits c acts ≡ None → Timely old clock c own acts
timely_none old clock c own acts none = λ wait call is busy. none_is_not_some (waits c acts) wait none is

timely_idle : (old clock c : ℕ) (own : List ConnAct) (acts : List WaitAct) → pending_call own ≡ None → Timely old clock c own acts
timely_idle old clock c own acts none = λ wait call is busy.
    none_is_not_some (core_call_in (pending_call own)) call (ap core_call_in none) busy

timely_same : (old clock c : ℕ) (own now : List ConnAct) (acts after : List WaitAct) → pending_call now ≡ pending_call own
    → SameCall c after acts → Timely old clock c own acts → Timely old clock c now after
timely_same old clock c own now acts after pending same timely = λ wait call is busy.
    subst (λ (u : Option ℕ). MeetsBound old clock wait u call.arguments) (sym same.until)
    (timely wait call (sym same.wait ∙ is) (ap core_call_in (sym pending) ∙ busy))

-- ---- acts that take no call, and in which no time passes

abbrev pub NoCalls : List ConnAct → Type 0
NoCalls [] = ⊤
NoCalls (CallTaken call ∷ own) = ⊥
NoCalls (_ ∷ own) = NoCalls own

abbrev NoTicks : List DeviceAct → Type 0
NoTicks [] = ⊤
NoTicks (Ticked ∷ acts) = ⊥
NoTicks (_ ∷ acts) = NoTicks acts

age_own : (d c : ℕ) (own : List ConnAct) (log : List Act) → NoCalls own → age d (map (On c) own ++ log) ≡ age d log
age_own d c [] log h = refl
age_own d c (CallTaken call ∷ own) log h = absurd h
age_own d c (_ ∷ own) log h = age_own d c own log h

age_shared : (d : ℕ) (adds : List DeviceAct) (log : List Act) → NoTicks adds → age d (map OnDevice adds ++ log) ≡ age d log
age_shared d [] log h = refl
age_shared d (Ticked ∷ adds) log h = absurd h
age_shared d (_ ∷ adds) log h = age_shared d adds log h

age_effect : (d c : ℕ) (effect : Effect) (log : List Act) → NoCalls effect.own → NoTicks effect.adds
    → age d (acts_of c effect ++ log) ≡ age d log
age_effect d c effect log calls times = ap (age d) (append_assoc (map (On c) effect.own) (map OnDevice effect.adds) log)
    ∙ age_own d c effect.own (map OnDevice effect.adds ++ log) calls ∙ age_shared d effect.adds log times

ticks_adds : (adds acts : List DeviceAct) → NoTicks adds → ticks (adds ++ acts) ≡ ticks acts
ticks_adds [] acts h = refl
ticks_adds (Ticked ∷ adds) acts h = absurd h
ticks_adds (_ ∷ adds) acts h = ticks_adds adds acts h

pub replies_no_calls : (xid : ℕ) (result : Option Outcome) → NoCalls (replies xid result)
replies_no_calls xid (Some result) = tt
replies_no_calls xid None = tt

no_ticks_join : (adds more : List DeviceAct) → NoTicks adds → NoTicks more → NoTicks (adds ++ more)
no_ticks_join [] more h k = k
no_ticks_join (Ticked ∷ adds) more h k = absurd h
no_ticks_join (_ ∷ adds) more h k = no_ticks_join adds more h k

no_ticks_happened : (adds : List InstrumentAct) → NoTicks (map Applied adds)
no_ticks_happened [] = tt
no_ticks_happened (act ∷ adds) = no_ticks_happened adds

no_ticks_links : (links : List LinkAct) → NoTicks (map Linked links)
no_ticks_links [] = tt
no_ticks_links (act ∷ links) = no_ticks_links links

no_ticks_done : (c : ℕ) (arguments : Arguments) (adds acts : List DeviceAct) → Each (IsActOfCall c arguments) adds acts → NoTicks adds
no_ticks_done c arguments [] acts h = tt
no_ticks_done c arguments (Ticked ∷ adds) acts h = absurd h.0
no_ticks_done c arguments (_ ∷ adds) acts h = no_ticks_done c arguments adds acts h.1

timely_effect : (config : Config) (c : ℕ) (effect : Effect) (log : List Act) → AllTimely config log → NoCalls effect.own
    → NoTicks effect.adds → ((d : ℕ) → d ≢ c → SameCall d (wait_acts (effect.adds ++ device_acts log)) (wait_acts (device_acts log)))
    → Timely (age c log) (config.clock + ticks (device_acts log)) c (effect.own ++ of c log) (wait_acts (effect.adds ++ device_acts log))
    → AllTimely config (acts_of c effect ++ log)
timely_effect config c effect log all calls times others mine d =
    let acts = device_acts log in
    let clock = config.clock + ticks acts in
    let here = each_after_effect (λ d own. Timely (age d log) clock d own (wait_acts (effect.adds ++ acts))) c effect log mine (λ d ne.
    timely_same (age d log) clock d (of d log) (of d log) (wait_acts acts) (wait_acts (effect.adds ++ acts)) refl (others d ne) (all d))
    d in
    let own = of d (acts_of c effect ++ log) in
    let dated : Timely (age d (acts_of c effect ++ log)) clock d own (wait_acts (effect.adds ++ acts)) =
    subst (λ (n : ℕ). Timely n clock d own (wait_acts (effect.adds ++ acts))) (sym (age_effect d c effect log calls times)) here in
    let timed : Timely (age d (acts_of c effect ++ log)) (config.clock + ticks (effect.adds ++ acts)) d own
    (wait_acts (effect.adds ++ acts)) =
    subst (λ (n : ℕ). Timely (age d (acts_of c effect ++ log)) (config.clock + n) d own (wait_acts (effect.adds ++ acts)))
    (sym (ticks_adds effect.adds acts times)) dated in
    subst (λ (l : List DeviceAct). Timely (age d (acts_of c effect ++ log)) (config.clock + ticks l) d own (wait_acts l))
    (sym (device_effect c effect log)) timed

timely_shared : (config : Config) (adds : List DeviceAct) (log : List Act) → AllTimely config log → NoTicks adds
    → wait_acts (adds ++ device_acts log) ≡ wait_acts (device_acts log) → AllTimely config (map OnDevice adds ++ log)
timely_shared config adds log all times same = λ d.
    rw (age_shared d adds log times, device_acts_append adds log, ticks_adds adds (device_acts log) times, same, of_device_acts d adds log)
    (all d)

timely_happened : (config : Config) (adds : List InstrumentAct) (log : List Act) → AllTimely config log
    → AllTimely config (map OnDevice (map Applied adds) ++ log)
timely_happened config adds log all =
    timely_shared config (map Applied adds) log all (no_ticks_happened adds) (wait_acts_applied adds (device_acts log))

-- ---- a suspended call ends, or is suspended again

timely_left : (config : Config) (c xid : ℕ) (outcome : CallOutcome) (log : List Act) → AllTimely config log → NoTicks outcome.adds
    → wait_acts (outcome.adds ++ Waited (Left c) ∷ device_acts log) ≡ Left c ∷ wait_acts (device_acts log)
    → AllTimely config (acts_of c (call_effect xid (leaving c outcome)) ++ log)
timely_left config c xid outcome log all times left =
    let acts = device_acts log in
    let moved : wait_acts ((outcome.adds ++ Waited (Left c) ∷ []) ++ acts) ≡ Left c ∷ wait_acts acts =
    ap wait_acts (append_assoc outcome.adds (Waited (Left c) ∷ []) acts) ∙ left in
    timely_effect config c (call_effect xid (leaving c outcome)) log all (replies_no_calls xid outcome.result)
    (no_ticks_join outcome.adds (Waited (Left c) ∷ []) times tt)
    (λ d ne. subst (λ (l : List WaitAct). SameCall d l (wait_acts acts)) (sym moved)
    (same_call_other_conn c d (Left c) (wait_acts acts) refl ne))
    (timely_none (age c log) (config.clock + ticks acts) c (replies xid outcome.result ++ of c log)
    (wait_acts ((outcome.adds ++ Waited (Left c) ∷ []) ++ acts)) (ap (waits c) moved ∙ left_is_not_suspended c (wait_acts acts)))

timely_ended : (config : Config) (c : ℕ) (does : Arguments → CallOutcome) (log : List Act) → AllTimely config log
    → ((call : CoreCall) → core_call_in (pending_call (of c log)) ≡ Some call
    → AllTimely config (acts_of c (call_effect call.xid (does call.arguments)) ++ log))
    → AllTimely config (acts_of c (effect_of c does (core_call_in (pending_call (of c log)))) ++ log)
timely_ended config c does log all ends = by (core_call_in (pending_call (of c log))) refl
  where
    by : (call : Option CoreCall) → core_call_in (pending_call (of c log)) ≡ call
        → AllTimely config (acts_of c (effect_of c does call) ++ log)
    by (Some call) e = ends call e
    by None e = timely_effect config c (effect_of c does None) log all tt tt
        (λ d ne. same_call_other_conn c d (Left c) (wait_acts (device_acts log)) refl ne)
        (timely_none (age c log) (config.clock + ticks (device_acts log)) c (of c log) (Left c ∷ wait_acts (device_acts log))
        (left_is_not_suspended c (wait_acts (device_acts log))))

-- A call that waits for the lock is at most as old as its lock timeout.
lock_wait_within_timeout : (old clock : ℕ) (until : Option ℕ) (arguments : Arguments) → waits_for_peer arguments ≡ false
    → MeetsBound old clock Lock until arguments → old ≤ lock_time arguments
lock_wait_within_timeout old clock until arguments other (inl peer) = true_is_not_false (waits_for_peer arguments) peer other
lock_wait_within_timeout old clock until arguments other (inr (last, is, le, after, most)) = omega (arith, le, after)

again_until : (c : ℕ) (wait : Wait) (last : Option ℕ) (acts : List WaitAct) → until_of c (Again c wait last ∷ acts) ≡ last
again_until c wait last acts = rw (eq-eqb c c refl) refl

timely_continued : (config : Config) (polled c : ℕ) (wait : Wait) (call : CoreCall) (next : Option (Wait × ℕ)) (log : List Act)
    → AllTimely config log → waits c (wait_acts (device_acts log)) ≡ Some wait → core_call_in (pending_call (of c log)) ≡ Some call
    → next_wait wait call.arguments (device_acts log) ≡ next
    → AllTimely config (acts_of c (call_effect call.xid (resume_outcome config polled c call.arguments next (device_acts log))) ++ log)
timely_continued config polled c wait call (Some next) log all for known e =
    let acts = device_acts log in
    let clock = config.clock + ticks acts in
    let last = deadline config (Some next.1) acts in
    let then_so = wait_after_lock_is wait call.arguments acts next e in
    let was = all c wait call for known in
    let old = lock_wait_within_timeout (age c log) clock (until_of c (wait_acts acts)) call.arguments then_so.1
    (subst (λ (w : Wait). MeetsBound (age c log) clock w (until_of c (wait_acts acts)) call.arguments) then_so.0 was) in
    let le = then_so.2 in
    let now : MeetsBound (age c log) clock next.0 (until_of c (Again c next.0 last ∷ wait_acts acts)) call.arguments =
    inr (
      clock + next.1,
      again_until c next.0 last (wait_acts acts),
      omega (arith, old, le),
      omega arith,
      λ lock. absurd (then_so.3 lock),
    ) in
    timely_effect config c (call_effect call.xid (resume_outcome config polled c call.arguments (Some next) acts)) log all tt tt
    (λ d ne. same_call_other_conn c d (Again c next.0 last) (wait_acts acts) refl ne)
    (λ other found is busy.
    let same_call : call ≡ found = some_injective call found (sym known ∙ busy) in
    let same_wait : next.0 ≡ other = mapped_again c next.0 other wait last (wait_acts acts) for is in
    subst (λ (w : Wait). MeetsBound (age c log) clock w (until_of c (Again c next.0 last ∷ wait_acts acts)) found.arguments) same_wait
    (subst (λ (k : CoreCall). MeetsBound (age c log) clock next.0 (until_of c (Again c next.0 last ∷ wait_acts acts)) k.arguments)
    same_call now))
timely_continued config polled c wait call None log all for known e =
    let before = Waited (Left c) ∷ device_acts log in
    let outcome = own_call config polled c call.arguments before in
    let done = each_act_is_of_call config polled c call.arguments before in
    timely_left config c call.xid outcome log all (no_ticks_done c call.arguments outcome.adds before done)
    (call_acts_suspend_none c call.arguments outcome.adds before done)

pub timely_steps : (config : Config) → StepsKeep config (AllTimely config)
timely_steps config = record {
  happened = timely_happened config;
  resumed = λ polled c wait log for all. timely_ended config c (λ arguments. resume_outcome config polled c arguments
      (next_wait wait arguments (device_acts log)) (device_acts log)) log all (λ call e.
      timely_continued config polled c wait call (next_wait wait call.arguments (device_acts log)) log all for e refl);
  failed = λ error c log all. timely_ended config c (λ arguments. leaving c (only (failure arguments error))) log all
      (λ call e. timely_left config c call.xid (only (failure call.arguments error)) log all tt refl);
}

-- ---- a Turn

timely_only : (config : Config) (c : ℕ) (own : List ConnAct) (log : List Act) → AllTimely config log → NoCalls own
    → waits c (wait_acts (device_acts log)) ≡ None → AllTimely config (acts_of c (record { own = own; adds = [] }) ++ log)
timely_only config c own log all calls none = timely_effect config c (record { own = own; adds = [] }) log all calls tt
    (λ d ne. same_call_refl d (wait_acts (device_acts log)))
    (timely_none (age c log) (config.clock + ticks (device_acts log)) c (own ++ of c log) (wait_acts (device_acts log)) none)

timely_taken : (config : Config) (c : ℕ) (bytes : List ℕ) (log : List Act) → AllTimely config log
    → waits c (wait_acts (device_acts log)) ≡ None → AllTimely config (On c (CallTaken bytes) ∷ log)
timely_taken config c bytes log all none d = elim (cases_eq d c) [
  | inl e ↦
      let acts = wait_acts (device_acts log) in
      timely_none (age d (On c (CallTaken bytes) ∷ log)) (config.clock + ticks (device_acts log)) d
      (of d (On c (CallTaken bytes) ∷ log)) acts
      (ap (λ (n : ℕ). waits n acts) e ∙ none)
  | inr ne ↦ rw (ne_eqb c d (λ e. ne (sym e))) (all d)
]

taken_age : (c : ℕ) (bytes : List ℕ) (log : List Act) → age c (On c (CallTaken bytes) ∷ log) ≡ 0
taken_age c bytes log = rw (eq-eqb c c refl) refl

pub entered_until : (c : ℕ) (named : Option ℕ) (wait : Wait) (last : Option ℕ) (acts : List WaitAct)
    → until_of c (Entered c named wait last ∷ acts) ≡ last
entered_until c named wait last acts = rw (eq-eqb c c refl) refl

begun : (config : Config) (old : ℕ) (acts : List DeviceAct) (wait : Wait) (until : Option ℕ) (arguments : Arguments) → old ≡ 0
    → BeginsWait wait until arguments → MeetsBound old (config.clock + ticks acts) wait (deadline config until acts) arguments
begun config old acts wait until arguments zero (inl dial) = inl dial
begun config old acts wait until arguments zero (inr (timeout, is, le, most)) = inr (
  config.clock + ticks acts + timeout,
  ap (λ (u : Option ℕ). deadline config u acts) is,
  omega (arith, zero, le, wait_within_bound wait arguments),
  omega arith,
  (λ lock. let more = most lock in omega (arith, zero, more)),
)

timely_admitted : (config : Config) (polled c : ℕ) (bytes : List ℕ) (call : CoreCall) (stop : Option Stop) (log : List Act)
    → let taken = On c (CallTaken bytes) ∷ log in
    AllTimely config taken → waits c (wait_acts (device_acts log)) ≡ None → core_call_in (pending_call (of c taken)) ≡ Some call
    → stop_of c call.arguments (device_acts log) ≡ stop
    → AllTimely config (acts_of c (call_effect call.xid (admission config polled c call.arguments stop (device_acts log))) ++ taken)
timely_admitted config polled c bytes call None log all none known e =
    let taken = On c (CallTaken bytes) ∷ log in
    let acts = device_acts log in
    let what = own_call config polled c call.arguments acts in
    let each = each_act_is_of_call config polled c call.arguments acts in
    let done = call_acts_suspend_none c call.arguments what.adds acts each in
    timely_effect config c (call_effect call.xid what) taken all (replies_no_calls call.xid what.result)
    (no_ticks_done c call.arguments what.adds acts each)
    (λ d ne. subst (λ (l : List WaitAct). SameCall d l (wait_acts acts)) (sym done) (same_call_refl d (wait_acts acts)))
    (timely_none (age c taken) (config.clock + ticks acts) c (replies call.xid what.result ++ of c taken) (wait_acts (what.adds ++ acts))
    (ap (waits c) done ∙ none))
timely_admitted config polled c bytes call (Some (Fails error)) log all none known e =
    timely_only config c (call_effect call.xid (only (failure call.arguments error))).own (On c (CallTaken bytes) ∷ log) all tt none
timely_admitted config polled c bytes call (Some (Awaits wait until)) log all none known e =
    let taken = On c (CallTaken bytes) ∷ log in
    let acts = device_acts log in
    let clock = config.clock + ticks acts in
    let named = lid_of (link call.arguments) in
    let last = deadline config until acts in
    let now = Entered c named wait last ∷ wait_acts acts in
    let entered = entered_waits c named wait last (wait_acts acts) in
    let so : MeetsBound (age c taken) clock wait (until_of c now) call.arguments =
    subst (λ (u : Option ℕ). MeetsBound (age c taken) clock wait u call.arguments) (sym (entered_until c named wait last (wait_acts acts)))
    (begun config (age c taken) acts wait until call.arguments (taken_age c bytes log) (begins c call.arguments acts wait until e)) in
    timely_effect config c (call_effect call.xid (admission config polled c call.arguments (Some (Awaits wait until)) acts)) taken all tt tt
    (λ d ne. same_call_other_conn c d (Entered c named wait last) (wait_acts acts) refl ne)
    (λ other found is busy.
    let same_call : call ≡ found = some_injective call found (sym known ∙ busy) in
    let same_wait : wait ≡ other = some_injective wait other (sym entered.0 ∙ is) in
    subst (λ (w : Wait). MeetsBound (age c taken) clock w (until_of c now) found.arguments) same_wait
    (subst (λ (k : CoreCall). MeetsBound (age c taken) clock wait (until_of c now) k.arguments) same_call so))

timely_request : (config : Config) (polled c : ℕ) (bytes : List ℕ) (request : Request) (log : List Act) → Fit log → AllTimely config log
    → next_call (of c log) ≡ Some bytes → next_request (of c log) ≡ Some request
    → AllTimely config (acts_of c (request_effect config polled c request (device_acts log)) ++ On c (CallTaken bytes) ∷ log)
timely_request config polled c bytes request log fit all next asks =
    let none = next_call_means_none_suspended c log bytes fit next in
    by request (timely_taken config c bytes log all none) none asks
  where
    by : (request : Request) → AllTimely config (On c (CallTaken bytes) ∷ log) → waits c (wait_acts (device_acts log)) ≡ None
        → next_request (of c log) ≡ Some request
        → AllTimely config (acts_of c (request_effect config polled c request (device_acts log)) ++ On c (CallTaken bytes) ∷ log)
    by (CoreRequest call) taken none asks =
        let known = core_call_is_on_core_role (of c log) bytes call next asks in
        let own = of_own_act c (CallTaken bytes) log in
        timely_admitted config polled c bytes call (stop_of c call.arguments (device_acts log)) log taken none
        (ap (λ (l : List ConnAct). core_call_in (pending_call l)) own ∙ known.1) refl
    by request taken none asks = timely_only config c (request_effect config polled c request (device_acts log)).own
        (On c (CallTaken bytes) ∷ log) taken tt none

-- ---- other events

timely_on : (config : Config) (c : ℕ) (act : ConnAct) (log : List Act) → AllTimely config log → NoCalls (act ∷ [])
    → Timely (age c log) (config.clock + ticks (device_acts log)) c (act ∷ of c log) (wait_acts (device_acts log))
    → AllTimely config (On c act ∷ log)
timely_on config c act log all calls mine = timely_effect config c (record { own = act ∷ []; adds = [] }) log all calls tt
    (λ d ne. same_call_refl d (wait_acts (device_acts log))) mine

timely_close : (config : Config) (c : ℕ) (log : List Act) → AllTimely config log
    → AllTimely config (map OnDevice (close_acts c (device_acts log)) ++ On c PortClosed ∷ log)
timely_close config c log all d =
    let acts = device_acts log in
    let links = closing c (link_acts acts) in
    let new = map OnDevice (close_acts c acts) ++ On c PortClosed ∷ log in
    let clock = config.clock + ticks acts in
    let calls : wait_acts (device_acts new) ≡ Left c ∷ wait_acts acts =
    ap wait_acts (device_acts_of_close c log) ∙ wait_acts_links links (Waited (Left c) ∷ acts) in
    let times : ticks (device_acts new) ≡ ticks acts = ap ticks (device_acts_of_close c log) ∙ ticks_links links (Waited (Left c) ∷ acts) in
    let old : age d new ≡ age d log = age_shared d (close_acts c acts) (On c PortClosed ∷ log)
    (no_ticks_join (map Linked links) (Waited (Left c) ∷ []) (no_ticks_links links) tt) in
    let so : Timely (age d log) clock d (of d new) (Left c ∷ wait_acts acts) = elim (cases_eq d c) [
      | inl e ↦ subst (λ (n : ℕ). Timely (age n log) clock n (of n new) (Left c ∷ wait_acts acts)) (sym e)
          (timely_none (age c log) clock c (of c new) (Left c ∷ wait_acts acts) (left_is_not_suspended c (wait_acts acts)))
      | inr ne ↦ timely_same (age d log) clock d (of d log) (of d new) (wait_acts acts) (Left c ∷ wait_acts acts)
          (ap pending_call (close_leaves_others c d log ne)) (same_call_other_conn c d (Left c) (wait_acts acts) refl ne) (all d)
    ] in
    subst (λ (l : List WaitAct). Timely (age d new) (config.clock + ticks (device_acts new)) d (of d new) l) (sym calls)
    (subst (λ (n : ℕ). Timely (age d new) (config.clock + n) d (of d new) (Left c ∷ wait_acts acts)) (sym times)
    (subst (λ (n : ℕ). Timely n clock d (of d new) (Left c ∷ wait_acts acts)) (sym old) so))

timely_dialed : (config : Config) (c : ℕ) (ok : Bool) (call : CoreCall) (peer : Option Peer) (log : List Act) → AllTimely config log
    → AllTimely config (acts_of c (call_effect call.xid (leaving c (connect_outcome_for c ok call.arguments peer))) ++ log)
timely_dialed config c true call (Some peer) log all =
    timely_left config c call.xid (connect_outcome_for c true call.arguments (Some peer)) log all tt refl
timely_dialed config c false call (Some peer) log all =
    timely_left config c call.xid (connect_outcome_for c false call.arguments (Some peer)) log all tt refl
timely_dialed config c ok call None log all = timely_left config c call.xid (connect_outcome_for c ok call.arguments None) log all tt refl

-- A millisecond passes, and the deadline hasn't come before it.
tick_keeps_bound : (old clock : ℕ) (wait : Wait) (until : Option ℕ) (arguments : Arguments)
    → ((last : ℕ) → until ≡ Some last → last ≤ clock → ⊥)
    → MeetsBound old clock wait until arguments → MeetsBound (old + 1) (clock + 1) wait until arguments
tick_keeps_bound old clock wait until arguments never (inl dial) = inl dial
tick_keeps_bound old clock wait until arguments never (inr (last, is, le, after, most)) = elim (cases_lt clock last) [
  | inl lt ↦ inr (last, is, omega (arith, le), omega (arith, lt), (λ lock. let more = most lock in omega (arith, more)))
  | inr late ↦ absurd (never last is late)
]

timely_tick : (config : Config) (history : List PlainEvent) (log : List Act) → IsLogOf config history log → AllTimely config log
    → AllTimely config (OnDevice Ticked ∷ log)
timely_tick config history log was all c wait call is busy =
    let acts = device_acts log in
    let clock = config.clock + ticks acts in
    let until = until_of c (wait_acts acts) in
    let sum : clock + 1 ≡ config.clock + (ticks acts + 1) = omega arith in
    subst (λ (n : ℕ). MeetsBound (age c log + 1) n wait until call.arguments) sum
    (tick_keeps_bound (age c log) clock wait until call.arguments
    (λ last same le. (none_late config history log c was).0 (wait, last, is, same, le))
    (all c wait call is busy))

pub timely_event : (config : Config) → EventsKeep config (AllTimely config)
timely_event config history (Open c role) polled channel_log log was free fit all =
    timely_on config c (Opened role) log all tt (timely_idle (age c log) _ c (Opened role ∷ of c log) (wait_acts (device_acts log)) refl)
timely_event config history (Bytes c piece) polled channel_log log was free fit all = timely_on config c (Piece piece) log all tt (all c)
timely_event config history (Turn c) polled channel_log log was free fit all =
    turn_keeps config (AllTimely config) (timely_steps config) polled c (next_call (of c log)) (next_request (of c log)) log all
    (λ bytes request next asks. timely_request config polled c bytes request log fit all next asks)
timely_event config history (Refuse c) polled channel_log log was free fit all =
    refuse_keeps (AllTimely config) c (next_call (of c log)) (refusable (of c log)) log all (λ bytes call next can.
    let none = next_call_means_none_suspended c log bytes fit next in
    timely_only config c (Replied (refused_reply call) ∷ []) (On c (CallTaken bytes) ∷ log)
    (timely_taken config c bytes log all none) tt none)
timely_event config history (Took (Conn c) count) polled channel_log log was free fit all =
    timely_on config c (BytesTaken count) log all tt (all c)
timely_event config history (Took (Intr c) count) polled channel_log log was free fit all =
    timely_shared config (Channel (ChannelTaken c count) ∷ []) log all tt refl
timely_event config history (Close (Conn c)) polled channel_log log was free fit all =
    subst (AllTimely config) (sym (append_assoc (map OnDevice (close_acts c (device_acts log))) (On c PortClosed ∷ []) log))
    (timely_close config c log all)
timely_event config history (Close (Intr c)) polled channel_log log was free fit all =
    timely_shared config (Channel (ChannelClosed c) ∷ []) log all tt refl
timely_event config history (Dialed c ok) polled channel_log log was free fit all =
    timely_ended config c (λ arguments. leaving c (connect_outcome c ok arguments)) log all
    (λ call e. rw (connect_outcome_by_peer c ok call.arguments) (timely_dialed config c ok call (peer_named_by call.arguments) log all))
timely_event config history (Input channel microvolts) polled channel_log log was free fit all =
    timely_happened config (Scanned (InputTo channel microvolts) ∷ []) log all
timely_event config history External polled channel_log log was free fit all =
    timely_happened config (external_acts (instrument_acts (device_acts log))) log all
timely_event config history Tick polled channel_log log was free fit all =
    let adds = tick_acts (instrument_acts (device_acts log)) in
    subst (AllTimely config) (sym (append_assoc (map OnDevice (map Applied adds)) (OnDevice Ticked ∷ []) log))
    (timely_happened config adds (OnDevice Ticked ∷ log) (timely_tick config history log was all))

-- The empty log has no suspended call.
pub timely_none_yet : (config : Config) → AllTimely config []
timely_none_yet config c wait call is busy = absurd (let z : None ≡ Some wait = is in cc)

timely_log : (config : Config) (history : List PlainEvent) (log : List Act) → IsLogOf config history log → AllTimely config log
timely_log config =
    each_place config (AllTimely config) (timely_none_yet config) (timely_event config)
    (λ log new fit all next. step_keeps config (AllTimely config) (timely_steps config) log new all next)

-- ---- the law

-- If a call waits for the lock until its deadline, it is then at least as old as its lock timeout.
pub lock_old_enough : (old clock : ℕ) (until : Option ℕ) (arguments : Arguments) (last : ℕ) → until ≡ Some last → last ≤ clock
    → MeetsBound old clock Lock until arguments → lock_time arguments ≤ old
lock_old_enough old clock until arguments last is ends (inl peer) = peer_old old arguments peer
  where
    peer_old : (old : ℕ) (arguments : Arguments) → waits_for_peer arguments ≡ true → lock_time arguments ≤ old
    peer_old old (CreateIntrChan host_addr host_port prog_num prog_vers prog_family) peer = omega arith
    peer_old old _ peer = absurd cc
lock_old_enough old clock until arguments last is ends (inr (other, same, le, after, most)) =
    let one : last ≡ other = some_injective last other (sym is ∙ same) in
    let more = most refl in omega (arith, one, more, ends)

age_below_bound : (old clock : ℕ) (wait : Wait) (until : Option ℕ) (arguments : Arguments)
    → ((last : ℕ) → until ≡ Some last → last ≤ clock → ⊥)
    → waits_for_peer arguments ≡ false → MeetsBound old clock wait until arguments → old < bound wait arguments
age_below_bound old clock wait until arguments never other (inl peer) = true_is_not_false (waits_for_peer arguments) peer other
age_below_bound old clock wait until arguments never other (inr (last, is, le, after, most)) = elim (cases_lt clock last) [
  | inl lt ↦ omega (arith, le, lt)
  | inr late ↦ absurd (never last is late)
]

pub in_time : InTime
in_time config history log c bytes was busy = by (waits c (wait_acts (device_acts log))) refl
  where
    by : (found : Option Wait) → waits c (wait_acts (device_acts log)) ≡ found
        → (call : CoreCall) × (core_call_in (Some bytes) ≡ Some call)
        × (waits_for_peer call.arguments ≡ false → (age c log < patience call.arguments)
        × (waits c (wait_acts (device_acts log)) ≡ Some Lock → age c log < lock_time call.arguments))
    by None is = none_is_not_some (pending_call (of c log)) bytes (unsuspended_has_no_pending config history log was c is) busy
    by (Some wait) is =
        let held = (fit_log config history log was).held c wait is in
        let call = held.1.0 in (
          call,
          ap core_call_in (sym busy) ∙ held.1.1,
          λ other.
              let less : age c log < bound wait call.arguments =
              age_below_bound (age c log) (config.clock + ticks (device_acts log)) wait (until_of c (wait_acts (device_acts log)))
              call.arguments
              (λ last same le. (none_late config history log c was).0 (wait, last, is, same, le)) other
              (timely_log config history log was c wait call is held.1.1) in (
                omega (arith, less, bound_within_patience wait call.arguments),
                λ lock. subst (λ (w : Wait). age c log < bound w call.arguments) (some_injective wait Lock (sym is ∙ lock)) less,
              ),
        )
