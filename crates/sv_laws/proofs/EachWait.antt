-- The present wait of a suspended call has lasted fewer milliseconds than its timeout for this
-- wait: the law `EachWaitInTime`.
use Rattle.std.proofs.Common.{◌≡◌, ◌≢◌, ℕ, ◌+◌, ◌<◌, ◌≤◌, ◌==◌, Bool, true, false, List, [], ◌∷◌, ◌++◌, Option, Some, None, refl, sym, ap, subst, ◌∙◌, inl, inr, ◌⊎◌, append_assoc, eq-eqb, arith, eqb}
use Rattle.std.specs.Prelude.{map, if◌then◌else◌}
use Rattle.std.proofs.lemmas.Bool.{cases_eq, cases_Bool, ne_eqb, cases_lt}
use Rattle.sv_logs.proofs.Each.{Each}
use Rattle.sv_vxi.specs.Arguments.{Arguments, link}
use Rattle.sv_links.specs.declared.request.Peer.{Peer}
use Rattle.sv_links.specs.declared.waiting.Wait.{Wait}
use Rattle.sv_links.specs.Links.{LinkAct, closing}
use Rattle.sv_links.specs.Waiting.{WaitAct, Entered, Again, Left, waits, deadline as until_of}
use Rattle.sv_links.specs.Channels.{ChannelClosed, ChannelTaken}
use Rattle.sv_scan.specs.declared.acts.ScanAct.TheVariants.{Input as InputTo}
use Rattle.sv_layers.specs.Act.{Act as InstrumentAct, Scanned}
use Rattle.sv_instrument.specs.Stimulus.{external_acts, tick_acts}
use Rattle.sv_history.specs.declared.event.Config.{Config}
use Rattle.sv_history.specs.declared.event.Port.TheVariants.{Conn, Intr}
use Rattle.sv_history.specs.Event.{PlainEvent, Open, Bytes, Turn, Refuse, Took, Close, Dialed, Input, External, Tick}
use Rattle.sv_history.specs.Act.{Act, ConnAct, DeviceAct, Opened, Piece, CallTaken, Replied, BytesTaken, PortClosed, Linked, Waited, Channel, Applied, Ticked, On, OnDevice, of, device_acts, link_acts, wait_acts, instrument_acts, ticks}
use Rattle.sv_history.specs.Connection.{next_call, pending_call}
use Rattle.sv_history.specs.CallOutcome.{CallOutcome, only}
use Rattle.sv_history.specs.CoreCall.{CoreCall, lid_of, failure}
use Rattle.sv_history.specs.CoreChannel.{own_call}
use Rattle.sv_history.specs.Effect.{Effect, acts_of, replies, call_effect}
use Rattle.sv_history.specs.Request.{Request, CoreRequest, core_call_in, next_request}
use Rattle.sv_history.specs.Interrupts.{connect_outcome}
use Rattle.sv_history.specs.Admission.{Stop, Fails, Awaits, stop_of, admission, deadline}
use Rattle.sv_history.specs.Execution.{request_effect}
use Rattle.sv_history.specs.Refusing.{refusable, refused_reply}
use Rattle.sv_history.specs.Resuming.{effect_of, leaving, next_wait, resume_outcome}
use Rattle.sv_history.specs.History.{IsLogOf}
use Rattle.sv_history.proofs.Dialing.{peer_named_by, connect_outcome_for, connect_outcome_by_peer}
use Rattle.sv_history.proofs.Projections.{of_own_act, of_device_acts, device_acts_append, device_effect, wait_acts_links, wait_acts_applied}
use Rattle.sv_laws.specs.InTime.{waits_for_peer, waited, time_for, EachWaitInTime}
use Rattle.sv_laws.proofs.Patience.{time_left_after_lock, wait_after_lock_is, BeginsWait, begins}
use Rattle.sv_laws.proofs.Facts.{some_injective, none_is_not_some, true_is_not_false}
use Rattle.sv_laws.proofs.CallsAlike.{SameCall, same_call_refl}
use Rattle.sv_laws.proofs.NoneLate.{none_late}
use Rattle.sv_laws.proofs.Place.{EventsKeep, each_place}
use Rattle.sv_laws.proofs.Sound.{same_call_other_conn, mapped_again}
use Rattle.sv_laws.proofs.EveryLog.Done.{IsActOfCall, each_act_is_of_call}
use Rattle.sv_laws.proofs.EveryLog.Taken.{core_call_is_on_core_role}
use Rattle.sv_laws.proofs.EveryLog.Fit.{Fit, each_after_effect}
use Rattle.sv_laws.proofs.EveryLog.EachEvent.{StepsKeep, step_keeps, turn_keeps, refuse_keeps, call_acts_suspend_none, entered_waits, next_call_means_none_suspended, close_acts, device_acts_of_close, close_leaves_others, fit_log, left_is_not_suspended}

-- ---- when a wait began

-- How many milliseconds had passed when the newest wait of connection `c` started; 0 if it never
-- waited.
abbrev wait_began : ℕ → List DeviceAct → ℕ
wait_began c [] = 0
wait_began c (Waited (Entered d link wait last) ∷ acts) = if d == c then ticks acts else wait_began c acts
wait_began c (Waited (Again d wait last) ∷ acts) = if d == c then ticks acts else wait_began c acts
wait_began c (_ ∷ acts) = wait_began c acts

waited_plus_began_is_ticks : (c : ℕ) (acts : List DeviceAct) → waited c acts + wait_began c acts ≡ ticks acts
waited_plus_began_is_ticks c [] = refl
waited_plus_began_is_ticks c (Waited (Entered d link wait last) ∷ acts) = elim (cases_Bool (eqb d c)) [
  | inl e ↦ rw e (omega arith)
  | inr e ↦ rw e (waited_plus_began_is_ticks c acts)
]
waited_plus_began_is_ticks c (Waited (Again d wait last) ∷ acts) = elim (cases_Bool (eqb d c)) [
  | inl e ↦ rw e (omega arith)
  | inr e ↦ rw e (waited_plus_began_is_ticks c acts)
]
waited_plus_began_is_ticks c (Ticked ∷ acts) = let before = waited_plus_began_is_ticks c acts in omega (arith, before)
waited_plus_began_is_ticks c (_ ∷ acts) = waited_plus_began_is_ticks c acts

began_happened : (c : ℕ) (adds : List InstrumentAct) (acts : List DeviceAct) → wait_began c (map Applied adds ++ acts) ≡ wait_began c acts
began_happened c [] acts = refl
began_happened c (act ∷ adds) acts = began_happened c adds acts

began_links : (c : ℕ) (links : List LinkAct) (acts : List DeviceAct) → wait_began c (map Linked links ++ acts) ≡ wait_began c acts
began_links c [] acts = refl
began_links c (act ∷ links) acts = began_links c links acts

began_done : (d c : ℕ) (arguments : Arguments) (adds acts : List DeviceAct) → Each (IsActOfCall c arguments) adds acts
    → wait_began d (adds ++ acts) ≡ wait_began d acts
began_done d c arguments [] acts h = refl
began_done d c arguments (Waited act ∷ adds) acts h = absurd h.0
began_done d c arguments (_ ∷ adds) acts h = began_done d c arguments adds acts h.1

-- ---- the deadline of a wait

-- The call waits for its peer; or the deadline of its wait is the start of the wait plus a timeout,
-- and this timeout is at most the longest wait for the same thing.
abbrev DatedBy : Config → Wait → Option ℕ → ℕ → Arguments → Type 0
DatedBy config wait until start arguments = (waits_for_peer arguments ≡ true)
    ⊎ ((timeout : ℕ) × (until ≡ Some (config.clock + start + timeout)) × (timeout ≤ time_for wait arguments))

abbrev Dated : Config → ℕ → List ConnAct → List DeviceAct → Type 0
Dated config c own acts = (wait : Wait) (call : CoreCall) → waits c (wait_acts acts) ≡ Some wait
    → core_call_in (pending_call own) ≡ Some call → DatedBy config wait (until_of c (wait_acts acts)) (wait_began c acts) call.arguments

abbrev AllDated : Config → List Act → Type 0
AllDated config log = (c : ℕ) → Dated config c (of c log) (device_acts log)

dated_none : (config : Config) (c : ℕ) (own : List ConnAct) (acts : List DeviceAct) → waits c (wait_acts acts) ≡ None
    → Dated config c own acts
dated_none config c own acts none = λ wait call is busy. none_is_not_some (waits c (wait_acts acts)) wait none is

dated_idle : (config : Config) (c : ℕ) (own : List ConnAct) (acts : List DeviceAct) → pending_call own ≡ None → Dated config c own acts
dated_idle config c own acts none = λ wait call is busy. none_is_not_some (core_call_in (pending_call own)) call (ap core_call_in none) busy

-- The suspended call of connection `c` is the same after both lists of acts, and so is the start of
-- its wait.
abbrev SameWait : ℕ → List DeviceAct → List DeviceAct → Type 0
SameWait c after acts = SameCall c (wait_acts after) (wait_acts acts) × (wait_began c after ≡ wait_began c acts)

dated_same : (config : Config) (c : ℕ) (own now : List ConnAct) (acts after : List DeviceAct) → pending_call now ≡ pending_call own
    → SameWait c after acts → Dated config c own acts → Dated config c now after
dated_same config c own now acts after pending same dated = λ wait call is busy.
    subst (λ (u : Option ℕ). DatedBy config wait u (wait_began c after) call.arguments) (sym same.0.until)
    (subst (λ (n : ℕ). DatedBy config wait (until_of c (wait_acts acts)) n call.arguments) (sym same.1)
    (dated wait call (sym same.0.wait ∙ is) (ap core_call_in (sym pending) ∙ busy)))

dated_effect : (config : Config) (c : ℕ) (effect : Effect) (log : List Act) → AllDated config log
    → ((d : ℕ) → d ≢ c → SameWait d (effect.adds ++ device_acts log) (device_acts log))
    → Dated config c (effect.own ++ of c log) (effect.adds ++ device_acts log) → AllDated config (acts_of c effect ++ log)
dated_effect config c effect log all others mine d =
    let acts = device_acts log in
    subst (λ (l : List DeviceAct). Dated config d (of d (acts_of c effect ++ log)) l) (sym (device_effect c effect log))
    (each_after_effect (λ d own. Dated config d own (effect.adds ++ acts)) c effect log mine (λ d ne.
    dated_same config d (of d log) (of d log) acts (effect.adds ++ acts) refl (others d ne) (all d)) d)

dated_shared : (config : Config) (adds : List DeviceAct) (log : List Act) → AllDated config log
    → wait_acts (adds ++ device_acts log) ≡ wait_acts (device_acts log)
    → ((d : ℕ) → wait_began d (adds ++ device_acts log) ≡ wait_began d (device_acts log)) → AllDated config (map OnDevice adds ++ log)
dated_shared config adds log all same starts = λ d.
    let acts = device_acts log in
    let kept : SameWait d (adds ++ acts) acts =
    (subst (λ (l : List WaitAct). SameCall d l (wait_acts acts)) (sym same) (same_call_refl d (wait_acts acts)), starts d) in
    rw (device_acts_append adds log, of_device_acts d adds log)
    (dated_same config d (of d log) (of d log) acts (adds ++ acts) refl kept (all d))

dated_happened : (config : Config) (adds : List InstrumentAct) (log : List Act) → AllDated config log
    → AllDated config (map OnDevice (map Applied adds) ++ log)
dated_happened config adds log all = dated_shared config (map Applied adds) log all (wait_acts_applied adds (device_acts log))
    (λ d. began_happened d adds (device_acts log))

-- ---- a suspended call ends, or is suspended again

dated_left : (config : Config) (c xid : ℕ) (outcome : CallOutcome) (log : List Act) → AllDated config log
    → wait_acts (outcome.adds ++ Waited (Left c) ∷ device_acts log) ≡ Left c ∷ wait_acts (device_acts log)
    → ((d : ℕ) → wait_began d (outcome.adds ++ Waited (Left c) ∷ device_acts log) ≡ wait_began d (device_acts log))
    → AllDated config (acts_of c (call_effect xid (leaving c outcome)) ++ log)
dated_left config c xid outcome log all left starts =
    let acts = device_acts log in
    let joined = append_assoc outcome.adds (Waited (Left c) ∷ []) acts in
    let moved : wait_acts ((outcome.adds ++ Waited (Left c) ∷ []) ++ acts) ≡ Left c ∷ wait_acts acts = ap wait_acts joined ∙ left in
    dated_effect config c (call_effect xid (leaving c outcome)) log all
    (λ d ne. (
      subst (λ (l : List WaitAct). SameCall d l (wait_acts acts)) (sym moved) (same_call_other_conn c d (Left c) (wait_acts acts) refl ne),
      ap (wait_began d) joined ∙ starts d,
    ))
    (dated_none config c (replies xid outcome.result ++ of c log) ((outcome.adds ++ Waited (Left c) ∷ []) ++ acts)
    (ap (waits c) moved ∙ left_is_not_suspended c (wait_acts acts)))

dated_ended : (config : Config) (c : ℕ) (does : Arguments → CallOutcome) (log : List Act) → AllDated config log
    → ((call : CoreCall) → core_call_in (pending_call (of c log)) ≡ Some call
    → AllDated config (acts_of c (call_effect call.xid (does call.arguments)) ++ log))
    → AllDated config (acts_of c (effect_of c does (core_call_in (pending_call (of c log)))) ++ log)
dated_ended config c does log all ends = by (core_call_in (pending_call (of c log))) refl
  where
    by : (call : Option CoreCall) → core_call_in (pending_call (of c log)) ≡ call
        → AllDated config (acts_of c (effect_of c does call) ++ log)
    by (Some call) e = ends call e
    by None e = dated_effect config c (effect_of c does None) log all
        (λ d ne. (same_call_other_conn c d (Left c) (wait_acts (device_acts log)) refl ne, refl))
        (dated_none config c (of c log) (Waited (Left c) ∷ device_acts log) (left_is_not_suspended c (wait_acts (device_acts log))))

again_until : (c : ℕ) (wait : Wait) (last : Option ℕ) (acts : List DeviceAct)
    → (until_of c (Again c wait last ∷ wait_acts acts) ≡ last) × (wait_began c (Waited (Again c wait last) ∷ acts) ≡ ticks acts)
again_until c wait last acts = (rw (eq-eqb c c refl) refl, rw (eq-eqb c c refl) refl)

again_other : (c d : ℕ) (wait : Wait) (last : Option ℕ) (acts : List DeviceAct) → d ≢ c
    → SameWait d (Waited (Again c wait last) ∷ acts) acts
again_other c d wait last acts ne =
    (same_call_other_conn c d (Again c wait last) (wait_acts acts) refl ne, rw (ne_eqb c d (λ e. ne (sym e))) refl)

dated_continued : (config : Config) (polled c : ℕ) (wait : Wait) (call : CoreCall) (next : Option (Wait × ℕ)) (log : List Act)
    → AllDated config log → waits c (wait_acts (device_acts log)) ≡ Some wait → core_call_in (pending_call (of c log)) ≡ Some call
    → next_wait wait call.arguments (device_acts log) ≡ next
    → AllDated config (acts_of c (call_effect call.xid (resume_outcome config polled c call.arguments next (device_acts log))) ++ log)
dated_continued config polled c wait call (Some next) log all for known e =
    let acts = device_acts log in
    let last = deadline config (Some next.1) acts in
    let after = Waited (Again c next.0 last) ∷ acts in
    let then_so = wait_after_lock_is wait call.arguments acts next e in
    let is_last = again_until c next.0 last acts in
    let le = time_left_after_lock next.0 call.arguments next.1 then_so.2 in
    let now : DatedBy config next.0 (until_of c (wait_acts after)) (wait_began c after) call.arguments =
    inr (next.1, rw (is_last.1) (is_last.0), le) in
    dated_effect config c (call_effect call.xid (resume_outcome config polled c call.arguments (Some next) acts)) log all
    (λ d ne. again_other c d next.0 last acts ne)
    (λ other found is busy.
    let same_call : call ≡ found = some_injective call found (sym known ∙ busy) in
    let same_wait : next.0 ≡ other = mapped_again c next.0 other wait last (wait_acts acts) for is in
    subst (λ (w : Wait). DatedBy config w (until_of c (wait_acts after)) (wait_began c after) found.arguments) same_wait
    (subst (λ (k : CoreCall). DatedBy config next.0 (until_of c (wait_acts after)) (wait_began c after) k.arguments) same_call now))
dated_continued config polled c wait call None log all for known e =
    let before = Waited (Left c) ∷ device_acts log in
    let outcome = own_call config polled c call.arguments before in
    let done = each_act_is_of_call config polled c call.arguments before in
    dated_left config c call.xid outcome log all (call_acts_suspend_none c call.arguments outcome.adds before done)
    (λ d. began_done d c call.arguments outcome.adds before done)

dated_steps : (config : Config) → StepsKeep config (AllDated config)
dated_steps config = record {
  happened = dated_happened config;
  resumed = λ polled c wait log for all. dated_ended config c (λ arguments. resume_outcome config polled c arguments
      (next_wait wait arguments (device_acts log)) (device_acts log)) log all (λ call e.
      dated_continued config polled c wait call (next_wait wait call.arguments (device_acts log)) log all for e refl);
  failed = λ error c log all. dated_ended config c (λ arguments. leaving c (only (failure arguments error))) log all
      (λ call e. dated_left config c call.xid (only (failure call.arguments error)) log all refl (λ d. refl));
}

-- ---- a Turn

dated_only : (config : Config) (c : ℕ) (own : List ConnAct) (log : List Act) → AllDated config log
    → Dated config c (own ++ of c log) (device_acts log) → AllDated config (acts_of c (record { own = own; adds = [] }) ++ log)
dated_only config c own log all mine = dated_effect config c (record { own = own; adds = [] }) log all
    (λ d ne. (same_call_refl d (wait_acts (device_acts log)), refl)) mine

-- The case that the connection has no suspended call.
dated_free : (config : Config) (c : ℕ) (own : List ConnAct) (log : List Act) → AllDated config log
    → waits c (wait_acts (device_acts log)) ≡ None → AllDated config (acts_of c (record { own = own; adds = [] }) ++ log)
dated_free config c own log all none =
    dated_only config c own log all (dated_none config c (own ++ of c log) (device_acts log) none)

dated_taken : (config : Config) (c : ℕ) (bytes : List ℕ) (log : List Act) → AllDated config log
    → waits c (wait_acts (device_acts log)) ≡ None → AllDated config (On c (CallTaken bytes) ∷ log)
dated_taken config c bytes log all none = dated_free config c (CallTaken bytes ∷ []) log all none

entered_until : (c : ℕ) (named : Option ℕ) (wait : Wait) (last : Option ℕ) (acts : List DeviceAct)
    → (until_of c (Entered c named wait last ∷ wait_acts acts) ≡ last)
    × (wait_began c (Waited (Entered c named wait last) ∷ acts) ≡ ticks acts)
entered_until c named wait last acts = (rw (eq-eqb c c refl) refl, rw (eq-eqb c c refl) refl)

entered_other : (c d : ℕ) (named : Option ℕ) (wait : Wait) (last : Option ℕ) (acts : List DeviceAct) → d ≢ c
    → SameWait d (Waited (Entered c named wait last) ∷ acts) acts
entered_other c d named wait last acts ne =
    (same_call_other_conn c d (Entered c named wait last) (wait_acts acts) refl ne, rw (ne_eqb c d (λ e. ne (sym e))) refl)

begun : (config : Config) (acts : List DeviceAct) (wait : Wait) (until : Option ℕ) (arguments : Arguments) → BeginsWait wait until arguments
    → DatedBy config wait (deadline config until acts) (ticks acts) arguments
begun config acts wait until arguments (inl dial) = inl dial
begun config acts wait until arguments (inr (timeout, is, le, most)) =
    inr (timeout, ap (λ (u : Option ℕ). deadline config u acts) is, le)

dated_admitted : (config : Config) (polled c : ℕ) (bytes : List ℕ) (call : CoreCall) (stop : Option Stop) (log : List Act)
    → let taken = On c (CallTaken bytes) ∷ log in
    AllDated config taken → waits c (wait_acts (device_acts log)) ≡ None → core_call_in (pending_call (of c taken)) ≡ Some call
    → stop_of c call.arguments (device_acts log) ≡ stop
    → AllDated config (acts_of c (call_effect call.xid (admission config polled c call.arguments stop (device_acts log))) ++ taken)
dated_admitted config polled c bytes call None log all none known e =
    let taken = On c (CallTaken bytes) ∷ log in
    let acts = device_acts log in
    let what = own_call config polled c call.arguments acts in
    let each = each_act_is_of_call config polled c call.arguments acts in
    let done = call_acts_suspend_none c call.arguments what.adds acts each in
    dated_effect config c (call_effect call.xid what) taken all
    (λ d ne. (
      subst (λ (l : List WaitAct). SameCall d l (wait_acts acts)) (sym done) (same_call_refl d (wait_acts acts)),
      began_done d c call.arguments what.adds acts each,
    ))
    (dated_none config c (replies call.xid what.result ++ of c taken) (what.adds ++ acts) (ap (waits c) done ∙ none))
dated_admitted config polled c bytes call (Some (Fails error)) log all none known e =
    dated_free config c (call_effect call.xid (only (failure call.arguments error))).own (On c (CallTaken bytes) ∷ log) all none
dated_admitted config polled c bytes call (Some (Awaits wait until)) log all none known e =
    let taken = On c (CallTaken bytes) ∷ log in
    let acts = device_acts log in
    let named = lid_of (link call.arguments) in
    let last = deadline config until acts in
    let after = Waited (Entered c named wait last) ∷ acts in
    let entered = entered_waits c named wait last (wait_acts acts) in
    let is_last = entered_until c named wait last acts in
    let so : DatedBy config wait (until_of c (wait_acts after)) (wait_began c after) call.arguments =
    subst (λ (u : Option ℕ). DatedBy config wait u (wait_began c after) call.arguments) (sym is_last.0)
    (subst (λ (n : ℕ). DatedBy config wait last n call.arguments) (sym is_last.1)
    (begun config acts wait until call.arguments (begins c call.arguments acts wait until e))) in
    dated_effect config c (call_effect call.xid (admission config polled c call.arguments (Some (Awaits wait until)) acts)) taken all
    (λ d ne. entered_other c d named wait last acts ne)
    (λ other found is busy.
    let same_call : call ≡ found = some_injective call found (sym known ∙ busy) in
    let same_wait : wait ≡ other = some_injective wait other (sym entered.0 ∙ is) in
    subst (λ (w : Wait). DatedBy config w (until_of c (wait_acts after)) (wait_began c after) found.arguments) same_wait
    (subst (λ (k : CoreCall). DatedBy config wait (until_of c (wait_acts after)) (wait_began c after) k.arguments) same_call so))

dated_request : (config : Config) (polled c : ℕ) (bytes : List ℕ) (request : Request) (log : List Act) → Fit log → AllDated config log
    → next_call (of c log) ≡ Some bytes → next_request (of c log) ≡ Some request
    → AllDated config (acts_of c (request_effect config polled c request (device_acts log)) ++ On c (CallTaken bytes) ∷ log)
dated_request config polled c bytes request log fit all next asks =
    let none = next_call_means_none_suspended c log bytes fit next in
    by request (dated_taken config c bytes log all none) none asks
  where
    by : (request : Request) → AllDated config (On c (CallTaken bytes) ∷ log) → waits c (wait_acts (device_acts log)) ≡ None
        → next_request (of c log) ≡ Some request
        → AllDated config (acts_of c (request_effect config polled c request (device_acts log)) ++ On c (CallTaken bytes) ∷ log)
    by (CoreRequest call) taken none asks =
        let known = core_call_is_on_core_role (of c log) bytes call next asks in
        let own = of_own_act c (CallTaken bytes) log in
        dated_admitted config polled c bytes call (stop_of c call.arguments (device_acts log)) log taken none
        (ap (λ (l : List ConnAct). core_call_in (pending_call l)) own ∙ known.1) refl
    by request taken none asks = dated_free config c (request_effect config polled c request (device_acts log)).own
        (On c (CallTaken bytes) ∷ log) taken none

-- ---- other events

dated_close : (config : Config) (c : ℕ) (log : List Act) → AllDated config log
    → AllDated config (map OnDevice (close_acts c (device_acts log)) ++ On c PortClosed ∷ log)
dated_close config c log all d =
    let acts = device_acts log in
    let links = closing c (link_acts acts) in
    let new = map OnDevice (close_acts c acts) ++ On c PortClosed ∷ log in
    let after = Channel (ChannelClosed c) ∷ (map Linked links ++ Waited (Left c) ∷ acts) in
    let calls : wait_acts after ≡ Left c ∷ wait_acts acts = wait_acts_links links (Waited (Left c) ∷ acts) in
    let starts : wait_began d after ≡ wait_began d acts = began_links d links (Waited (Left c) ∷ acts) in
    let other : d ≢ c → SameWait d after acts = λ ne. (
      subst (λ (l : List WaitAct). SameCall d l (wait_acts acts)) (sym calls)
          (same_call_other_conn c d (Left c) (wait_acts acts) refl ne),
      starts,
    ) in
    let so : Dated config d (of d new) after = elim (cases_eq d c) [
      | inl e ↦ subst (λ (n : ℕ). Dated config n (of n new) after) (sym e)
          (dated_none config c (of c new) after (ap (waits c) calls ∙ left_is_not_suspended c (wait_acts acts)))
      | inr ne ↦ dated_same config d (of d log) (of d new) acts after (ap pending_call (close_leaves_others c d log ne)) (other ne)
          (all d)
    ] in
    subst (λ (l : List DeviceAct). Dated config d (of d new) l) (sym (device_acts_of_close c log)) so

dated_dialed : (config : Config) (c : ℕ) (ok : Bool) (call : CoreCall) (peer : Option Peer) (log : List Act) → AllDated config log
    → AllDated config (acts_of c (call_effect call.xid (leaving c (connect_outcome_for c ok call.arguments peer))) ++ log)
dated_dialed config c true call (Some peer) log all =
    dated_left config c call.xid (connect_outcome_for c true call.arguments (Some peer)) log all refl (λ d. refl)
dated_dialed config c false call (Some peer) log all =
    dated_left config c call.xid (connect_outcome_for c false call.arguments (Some peer)) log all refl (λ d. refl)
dated_dialed config c ok call None log all =
    dated_left config c call.xid (connect_outcome_for c ok call.arguments None) log all refl (λ d. refl)

dated_event : (config : Config) → EventsKeep config (AllDated config)
dated_event config history (Open c role) polled channel_log log was free fit all =
    dated_only config c (Opened role ∷ []) log all (dated_idle config c (Opened role ∷ of c log) (device_acts log) refl)
dated_event config history (Bytes c piece) polled channel_log log was free fit all =
    dated_only config c (Piece piece ∷ []) log all (all c)
dated_event config history (Turn c) polled channel_log log was free fit all =
    turn_keeps config (AllDated config) (dated_steps config) polled c (next_call (of c log)) (next_request (of c log)) log all
    (λ bytes request next asks. dated_request config polled c bytes request log fit all next asks)
dated_event config history (Refuse c) polled channel_log log was free fit all =
    refuse_keeps (AllDated config) c (next_call (of c log)) (refusable (of c log)) log all (λ bytes call next can.
    let none = next_call_means_none_suspended c log bytes fit next in
    dated_free config c (Replied (refused_reply call) ∷ []) (On c (CallTaken bytes) ∷ log)
    (dated_taken config c bytes log all none) none)
dated_event config history (Took (Conn c) count) polled channel_log log was free fit all =
    dated_only config c (BytesTaken count ∷ []) log all (all c)
dated_event config history (Took (Intr c) count) polled channel_log log was free fit all =
    dated_shared config (Channel (ChannelTaken c count) ∷ []) log all refl (λ d. refl)
dated_event config history (Close (Conn c)) polled channel_log log was free fit all =
    subst (AllDated config) (sym (append_assoc (map OnDevice (close_acts c (device_acts log))) (On c PortClosed ∷ []) log))
    (dated_close config c log all)
dated_event config history (Close (Intr c)) polled channel_log log was free fit all =
    dated_shared config (Channel (ChannelClosed c) ∷ []) log all refl (λ d. refl)
dated_event config history (Dialed c ok) polled channel_log log was free fit all =
    dated_ended config c (λ arguments. leaving c (connect_outcome c ok arguments)) log all
    (λ call e. rw (connect_outcome_by_peer c ok call.arguments) (dated_dialed config c ok call (peer_named_by call.arguments) log all))
dated_event config history (Input channel microvolts) polled channel_log log was free fit all =
    dated_happened config (Scanned (InputTo channel microvolts) ∷ []) log all
dated_event config history External polled channel_log log was free fit all =
    dated_happened config (external_acts (instrument_acts (device_acts log))) log all
dated_event config history Tick polled channel_log log was free fit all =
    let adds = tick_acts (instrument_acts (device_acts log)) in
    subst (AllDated config) (sym (append_assoc (map OnDevice (map Applied adds)) (OnDevice Ticked ∷ []) log))
    (dated_happened config adds (OnDevice Ticked ∷ log) (dated_shared config (Ticked ∷ []) log all refl (λ d. refl)))

dated_log : (config : Config) (history : List PlainEvent) (log : List Act) → IsLogOf config history log → AllDated config log
dated_log config =
    each_place config (AllDated config) (λ c wait call is busy. absurd (let z : None ≡ Some wait = is in cc)) (dated_event config)
    (λ log new fit all next. step_keeps config (AllDated config) (dated_steps config) log new all next)

-- ---- the law

waited_less_than_time : (config : Config) (c : ℕ) (acts : List DeviceAct) (wait : Wait) (until : Option ℕ) (arguments : Arguments)
    → ((last : ℕ) → until ≡ Some last → last ≤ config.clock + ticks acts → ⊥) → waits_for_peer arguments ≡ false
    → DatedBy config wait until (wait_began c acts) arguments → waited c acts < time_for wait arguments
waited_less_than_time config c acts wait until arguments never other (inl peer) = true_is_not_false (waits_for_peer arguments) peer other
waited_less_than_time config c acts wait until arguments never other (inr (timeout, is, le)) =
    let sum = waited_plus_began_is_ticks c acts in
    elim (cases_lt (waited c acts) timeout) [
      | inl lt ↦ omega (arith, lt, le)
      | inr late ↦ absurd (never _ is (omega (arith, late, sum)))
    ]

pub each_wait_in_time : EachWaitInTime
each_wait_in_time config history log c bytes wait was busy is =
    let acts = device_acts log in
    let held = (fit_log config history log was).held c wait is in
    let call = held.1.0 in (
      call,
      ap core_call_in (sym busy) ∙ held.1.1,
      λ other. waited_less_than_time config c acts wait (until_of c (wait_acts acts)) call.arguments
          (λ last same le. (none_late config history log c was).0 (wait, last, is, same, le)) other
          (dated_log config history log was c wait call is held.1.1),
    )
