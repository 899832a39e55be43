-- A query that waits for the end of the measurement is answered as soon as no measurement is under
-- way: the law `HeldAlone`.
use Rattle.std.proofs.Common.{◌≡◌, ℕ, zero, suc, ◌+◌, ◌≤◌, Bool, true, false, List, [], ◌∷◌, ◌++◌, length, Option, Some, None, Ok, refl, sym, ap, subst, ◌∙◌, inl, inr, append_assoc, arith, eq-eqb}
use Rattle.std.specs.Prelude.{map, replicate, pos, not, codes, drop}
use Rattle.std.proofs.lemmas.Bool.{ne_eqb}
use Rattle.std.proofs.lemmas.List.{drop_all}
use Rattle.sv_errors.specs.declared.code.Code.{Code}
use Rattle.sv_vxi.specs.Arguments.{DeviceRead, OnLink}
use Rattle.sv_links.specs.declared.waiting.Wait.TheVariants.{Response as ForResponse}
use Rattle.sv_links.specs.Links.{LinkAct, owner, holder, is_locked_out}
use Rattle.sv_links.specs.Waiting.{Entered, waits, link}
use Rattle.sv_scan.specs.declared.acts.ScanAct.{ScanAct}
use Rattle.sv_scan.specs.declared.acts.ScanAct.TheVariants as scan
use Rattle.sv_scan.specs.declared.setting.Setting.TheVariants as setting
use Rattle.sv_errors.specs.declared.source.Source.TheVariants.{Immediate}
use Rattle.sv_exchange.specs.Exchange.{Accepted, ResponseRead, has_ended, response, UnitDue}
use Rattle.sv_exchange.specs.Limits.{max_message}
use Rattle.sv_exchange.proofs.Responses.{response_read}
use Rattle.sv_header.specs.declared.command.Action.TheVariants as action
use Rattle.sv_layers.specs.declared.change.Awaited.{Awaited}
use Rattle.sv_layers.specs.declared.change.Awaited.TheVariants as awaited
use Rattle.sv_layers.specs.Act.{Act as InstrumentAct, Exchanged, Scanned, Held, exchange_acts}
use Rattle.sv_layers.specs.Condition.{is_idle}
use Rattle.sv_instrument.specs.declared.command.order.Order.{Order}
use Rattle.sv_instrument.specs.declared.command.order.Order.TheVariants as order
use Rattle.sv_instrument.specs.HeldUnit.{held_unit}
use Rattle.sv_instrument.specs.CommandEffect.{done, after_answering, unless, Performs}
use Rattle.sv_instrument.specs.Step.{after_release, is_answerable, IsStep}
use Rattle.sv_instrument.proofs.NextStep.{step_of}
use Rattle.sv_history.specs.declared.event.Config.{Config}
use Rattle.sv_history.specs.Event.{PlainEvent, Turn}
use Rattle.sv_history.specs.Act.{Act, ConnAct, DeviceAct, CallTaken, Waited, Applied, On, OnDevice, of, device_acts, link_acts, wait_acts, instrument_acts, ticks}
use Rattle.sv_history.specs.Connection.{pending_call}
use Rattle.sv_history.specs.CallOutcome.{suspend_by}
use Rattle.sv_history.specs.CoreCall.{CoreCall}
use Rattle.sv_history.specs.Request.{core_call_in}
use Rattle.sv_history.specs.CoreChannel.{term_of}
use Rattle.sv_history.specs.Admission.{stop_of, admission}
use Rattle.sv_history.specs.Settling.{CanResume, IsNext, SettlesIn, Settles}
use Rattle.sv_history.specs.History.{own_acts, IsLogOf}
use Rattle.sv_history.proofs.OneStep.{next_step_unique}
use Rattle.sv_history.proofs.Projections.{of_own_act, of_device_acts, device_acts_append, link_acts_applied, wait_acts_applied, instrument_acts_applied}
use Rattle.sv_laws.specs.Adding.{all_replies}
use Rattle.sv_laws.specs.QueryAlone.{OneRead, UnitEnd, IsAtRest, reported, write_reply, read_reply, holds, hold_fault, held_answer, AsksHeld, IsHeldAnswered, HeldAlone}
use Rattle.sv_laws.proofs.NoneLate.{none_late}
use Rattle.sv_laws.proofs.EveryLog.Steps.{Rested, log_settled, settled_is_rested}
use Rattle.sv_laws.proofs.EveryLog.EachEvent.{settling_keeps, next_call_means_none_suspended, fit_log}
use Rattle.sv_laws.proofs.EveryLog.Taken.{core_call_is_on_core_role}
use Rattle.sv_laws.proofs.Cuts.Written.{log_with_write}
use Rattle.sv_laws.proofs.Cuts.FirstPart.{Resting, is_there_same_unless_device, held_unit_means_measuring}
use Rattle.sv_laws.proofs.Alone.Texts.{Left, Over, write_with_end_is_left, first_short, unit_due, ended_if_two_left, unended_if_one_left, over_zero_is_at_rest}
use Rattle.sv_laws.proofs.Alone.Steps.{happened, step_next}
use Rattle.sv_laws.proofs.Alone.Written.{accepted, first_unit_is_at_root}
use Rattle.sv_laws.proofs.Alone.Turns.{IsFree, free_link_is_own, turn_adds_outcome, turn_writes, turn_reads, response_makes_answerable, line_is_nonempty}
use Rattle.sv_laws.proofs.Alone.Quiet.{resting_if_answerable}
use Rattle.sv_laws.proofs.Alone.Unbegun.{all_executed_is_at_rest}
use Rattle.sv_laws.proofs.Alone.Asked.{Turns, turn_leads_to, idle_exchange_is_answerable, told}
use Rattle.sv_laws.proofs.Alone.Phases.{Status, At, ReadHasStatus, OthersCannotResume, InitiatedIfReadings, unit_end_with_more_acts, inside}
use Rattle.sv_laws.proofs.Alone.Moves.{unanswerable_without_response, Holds, Gone, Live, Phase, escaped_more, step_phase, quiet_phase, Settled, StillHolds, StillShows, IsGone, settled_is}
use Rattle.sv_laws.proofs.OneLog.{earlier_log}

-- ---- the unit begins

-- The query starts with acts of the scanner, and then its unit is held. If the unit will answer
-- with readings, the newest of these acts initiates a measurement.
query_begins_held : (query : Order) (what : Awaited) (acts : List InstrumentAct) → holds query ≡ Some what → hold_fault query acts ≡ None
    → (scans : List ScanAct) × Performs query acts (Held what ∷ map Scanned scans ++ acts)
    × (what ≡ awaited.Readings → (older : List ScanAct) × (scans ≡ scan.Init ∷ older))
query_begins_held (order.Do action.Read) what acts is none =
    let same : awaited.Readings ≡ what = cc in
    let so : Held awaited.Readings ∷ Scanned scan.Init ∷ Scanned scan.Abort ∷ acts
    ≡ unless (hold_fault (order.Do action.Read) acts) (Held awaited.Readings ∷ Scanned scan.Init ∷ Scanned scan.Abort ∷ acts) acts =
    ap (λ (f : Option Code). unless f (Held awaited.Readings ∷ Scanned scan.Init ∷ Scanned scan.Abort ∷ acts) acts) (sym none) in (
      scan.Init ∷ scan.Abort ∷ [],
      ap (λ (w : Awaited). Held w ∷ Scanned scan.Init ∷ Scanned scan.Abort ∷ acts) (sym same) ∙ so,
      (λ reads. (scan.Abort ∷ [], refl)),
    )
query_begins_held (order.Do action.WaitAndTell) what acts is none =
    let same : awaited.One ≡ what = cc in (
      [],
      ap (λ (w : Awaited). Held w ∷ acts) (sym same),
      (λ reads. absurd (let other : awaited.One ≡ awaited.Readings = same ∙ reads in cc)),
    )
query_begins_held (order.Do _) what acts is none = absurd cc
query_begins_held (order.Measure None) what acts is none =
    let same : awaited.Readings ≡ what = cc in
    let scans : List ScanAct = scan.Init ∷ scan.Configure (setting.Count 1) ∷ scan.Configure (setting.Source Immediate)
    ∷ scan.Configure (setting.Range (pos 10000000)) ∷ scan.Abort ∷ [] in
    (scans, ap (λ (w : Awaited). Held w ∷ map Scanned scans ++ acts) (sym same), (λ reads. (drop 1 scans, refl)))
query_begins_held (order.Measure (Some list)) what acts is none =
    let same : awaited.Readings ≡ what = cc in
    let scans : List ScanAct = scan.Init ∷ scan.Configure (setting.List list) ∷ scan.Configure (setting.Count 1)
    ∷ scan.Configure (setting.Source Immediate) ∷ scan.Configure (setting.Range (pos 10000000)) ∷ scan.Abort ∷ [] in
    (scans, ap (λ (w : Awaited). Held w ∷ map Scanned scans ++ acts) (sym same), (λ reads. (drop 1 scans, refl)))
query_begins_held _ what acts is none = absurd cc

scans_keep_exchange : (scans : List ScanAct) (acts : List InstrumentAct) → exchange_acts (map Scanned scans ++ acts) ≡ exchange_acts acts
scans_keep_exchange [] acts = refl
scans_keep_exchange (act ∷ scans) acts = scans_keep_exchange scans acts

scans_keep_reported : (scans : List ScanAct) (acts : List InstrumentAct) → reported (map Scanned scans ++ acts) ≡ reported acts
scans_keep_reported [] acts = refl
scans_keep_reported (act ∷ scans) acts = scans_keep_reported scans acts

-- A held unit answers with `held_answer` when it ends.
held_unit_answers : (query : Order) (what : Awaited) → holds query ≡ Some what → (acts : List InstrumentAct)
    → after_release what acts ≡ after_answering (held_answer what acts) (done acts)
held_unit_answers query awaited.One is acts = refl
held_unit_answers query awaited.Readings is acts = refl
held_unit_answers query awaited.Nothing is acts = absurd (never query is)
  where
    never : (query : Order) → holds query ≡ Some awaited.Nothing → ⊥
    never (order.Do action.Read) is = absurd cc
    never (order.Do action.WaitAndTell) is = absurd cc
    never (order.Do _) is = absurd cc
    never (order.Measure list) is = absurd cc
    never _ is = absurd cc

-- ---- the read is suspended

read_is_suspended : (config : Config) (polled c lid most io_timeout lock_timeout flags term_char : ℕ) (acts : List DeviceAct)
    → IsFree c lid acts → is_answerable (instrument_acts acts) ≡ false
    → admission config polled c (OnLink (pos lid) (DeviceRead most io_timeout lock_timeout flags term_char))
    (stop_of c (OnLink (pos lid) (DeviceRead most io_timeout lock_timeout flags term_char)) acts) acts
    ≡ suspend_by (Entered c (Some lid) ForResponse (Some (config.clock + ticks acts + io_timeout)))
read_is_suspended config polled c lid most io_timeout lock_timeout flags term_char acts f none =
    rw (free_link_is_own c lid acts f, f.unlocked, none) refl

module _ (c lid : ℕ) (query : Order) (what : Awaited) (sent : List ℕ) (most : ℕ) (config : Config)
    (past between later : List PlainEvent) (start before log : List Act)
    (rest : IsAtRest (exchange_acts (instrument_acts (device_acts start))))
    (asks : AsksHeld c lid query what sent most config past between later start before log)
    (idle : is_idle (instrument_acts (device_acts log)) ≡ true) where
  abbrev base : List InstrumentAct
  base = inside start

  abbrev message : List ℕ
  message = asks.writes.query_sent.message

  abbrev lines : ℕ
  lines = asks.writes.query_sent.lines

  abbrev limit : ℕ
  limit = config.clock + ticks (device_acts before) + asks.reads.timeout

  abbrev term : Option ℕ
  term = term_of asks.reads.flags asks.reads.term_char

  abbrev links : List LinkAct
  links = link_acts (device_acts start)

  abbrev replies : List ℕ
  replies = all_replies (of c start) ++ write_reply asks.writes.call.xid sent

  message_short : length message ≤ max_message
  message_short =
      let least = first_short sent message ([] ∷ replicate lines []) asks.writes.query_sent.cut in
      let far = asks.writes.short in omega (arith, least, far)

  abbrev releasing : (acts : List InstrumentAct) → after_release what acts ≡ after_answering (held_answer what acts) (done acts)
  releasing = held_unit_answers query what asks.waits

  abbrev IsLive : Bool → List Act → Type 0
  IsLive = Live config c lid asks.reads.call.xid most asks.reads.timeout asks.reads.lock_timeout asks.reads.flags asks.reads.term_char
      limit lines what
      message asks.writes.query_sent.unit replies links (reported base) base message_short asks.writes.query_sent.one releasing

  abbrev IsSettledIn : Bool → List Act → Type 0
  IsSettledIn = Settled config c lid asks.reads.call.xid most asks.reads.timeout asks.reads.lock_timeout asks.reads.flags
      asks.reads.term_char limit
      lines what
      message asks.writes.query_sent.unit replies links (reported base) base message_short asks.writes.query_sent.one releasing

  abbrev IsPhase : Bool → List Act → Type 0
  IsPhase = Phase config c lid asks.reads.call.xid most asks.reads.timeout asks.reads.lock_timeout asks.reads.flags asks.reads.term_char
      limit lines what
      message asks.writes.query_sent.unit replies links (reported base) base message_short asks.writes.query_sent.one releasing

  -- ---- the write

  at_rest : Left ([] ∷ []) (exchange_acts base) × (held_unit base ≡ None)
  at_rest = all_executed_is_at_rest config past start asks.writes.was rest.text_left

  unended : has_ended (exchange_acts base) ≡ false
  unended = unended_if_one_left [] (exchange_acts base) at_rest.0

  abbrev written : (log : List Act) × IsLogOf config (Turn c ∷ past) log
  written = earlier_log config between (Turn c ∷ past) before asks.reads.went_on

  first : Turns c config start written.0
  first = turn_leads_to c config past start written.0 asks.writes.was written.1

  resting : Resting config start
  resting = resting_if_answerable config past start first.polled asks.writes.was unended
      (idle_exchange_is_answerable base at_rest.1 unended) first.said

  abbrev wrote_now : List Act
  wrote_now = log_with_write c asks.writes.call.bytes (write_reply asks.writes.call.xid sent) sent true start

  abbrev now : List InstrumentAct
  now = accepted sent base

  left_now : Left (message ∷ [] ∷ replicate lines []) (exchange_acts now)
  left_now = write_with_end_is_left sent ([] ∷ replicate lines []) message (exchange_acts base) at_rest.0 asks.writes.query_sent.cut

  begun : (scans : List ScanAct) × Performs query now (Held what ∷ map Scanned scans ++ now)
      × (what ≡ awaited.Readings → (older : List ScanAct) × (scans ≡ scan.Init ∷ older))
  begun = query_begins_held query what now asks.waits (can query asks.can)
    where
      can : (query : Order) → hold_fault query base ≡ None → hold_fault query now ≡ None
      can (order.Do action.Read) none = none
      can (order.Do _) none = refl
      can _ none = refl

  abbrev adds : List InstrumentAct
  adds = Held what ∷ map Scanned begun.0

  initiates : InitiatedIfReadings what (adds ++ Exchanged (Accepted sent true) ∷ [])
  initiates reads =
      let (older, is) = begun.2 reads in (
        Held what ∷ [],
        map Scanned older ++ Exchanged (Accepted sent true) ∷ [],
        ap (λ (s : List ScanAct). Held what ∷ (map Scanned s ++ Exchanged (Accepted sent true) ∷ [])) is,
      )

  unit_step : IsStep now (adds ++ now)
  unit_step = step_of now (adds ++ now) None (UnitDue asks.writes.query_sent.unit) (sym at_rest.1)
      (sym (unit_due message [] asks.writes.query_sent.unit (replicate lines []) (exchange_acts now) left_now message_short
      asks.writes.query_sent.one
      rest.none_left))
      ([], asks.writes.query_sent.path, Ok query, first_unit_is_at_root now left_now.done at_rest.1, asks.writes.query_sent.reads, begun.1)

  abbrev held_now : List Act
  held_now = happened adds wrote_now

  next : IsNext config wrote_now held_now
  next = step_next config start wrote_now adds now resting
      (record { calm = record { links = refl; calls = refl; clock = refl; scans = refl }; is = refl }) unit_step

  free : IsFree c lid (device_acts start)
  free = record { owns = asks.writes.owns; unlocked = asks.writes.unlocked }

  others_start : OthersCannotResume c links (wait_acts (device_acts start))
  others_start d ne writes reads able =
      (none_late config past start d asks.writes.was).1
      (sym (is_there_same_unless_device (holder links) (link d (wait_acts (device_acts start)))
      (waits d (wait_acts (device_acts start))) writes reads (not (has_ended (exchange_acts base))) (is_answerable base)
      (resting.none d).0 (resting.none d).1) ∙ able)

  inside_is : inside held_now ≡ adds ++ now
  inside_is = ap instrument_acts (device_acts_append (map Applied adds) wrote_now) ∙ instrument_acts_applied adds (device_acts wrote_now)

  exchange_is : exchange_acts (inside held_now) ≡ exchange_acts now
  exchange_is = ap exchange_acts inside_is ∙ scans_keep_exchange begun.0 now

  calls_are : wait_acts (device_acts held_now) ≡ wait_acts (device_acts start)
  calls_are = ap wait_acts (device_acts_append (map Applied adds) wrote_now) ∙ wait_acts_applied adds (device_acts wrote_now)

  phase_held : IsPhase false held_now
  phase_held = inl (record {
    state = Holds (subst (Left (message ∷ [] ∷ replicate lines [])) (sym exchange_is) left_now) (ap held_unit inside_is)
        (ap response exchange_is ∙ rest.none_left) (
          adds ++ Exchanged (Accepted sent true) ∷ [],
          inside_is ∙ sym (append_assoc adds (Exchanged (Accepted sent true) ∷ []) base),
          initiates,
        ) (
          ap (waits c) calls_are ∙ next_call_means_none_suspended c start asks.writes.call.bytes (fit_log config past start asks.writes.was)
              asks.writes.call.next,
          ap all_replies (of_device_acts c (map Applied adds) wrote_now
              ∙ told c (Exchanged (Accepted sent true)) asks.writes.call.bytes (write_reply asks.writes.call.xid sent) start),
        );
    linked = ap link_acts (device_acts_append (map Applied adds) wrote_now) ∙ link_acts_applied adds (device_acts wrote_now);
    others = subst (OthersCannotResume c links) (sym calls_are) others_start;
    codes = ap reported inside_is ∙ scans_keep_reported begun.0 now;
  })

  phase_settled : (n : ℕ) → SettlesIn n config wrote_now written.0 → IsPhase false written.0
  phase_settled zero settles = absurd (settles.0 held_now next)
  phase_settled (suc n) (middle, step, more) =
      let same = next_step_unique config wrote_now middle held_now step next in
      settling_keeps config (IsPhase false) (step_phase _ _ _ _ _ _ _ _ _ _ _ _ _ _ _ _ _ _ _ _ _ false) n middle written.0
      (subst (IsPhase false) (sym same) phase_held) more

  phase_written : IsPhase false written.0
  phase_written =
      let own = turn_writes config first.polled c lid asks.writes.io_timeout asks.writes.lock_timeout asks.writes.flags sent start
      asks.writes.call free asks.writes.short
      unended asks.writes.ends in
      let there = subst (λ (l : List Act). Settles config l written.0) own first.settles in
      phase_settled there.0 there.1

  phase_before : IsPhase false before
  phase_before = quiet_phase _ _ _ _ _ _ _ _ _ _ _ _ _ _ _ _ _ _ _ _ _ false (Turn c ∷ past) between written.0 before written.1
      phase_written asks.reads.quiet asks.reads.went_on

  -- ---- the read

  middle : (log : List Act) × IsLogOf config (Turn c ∷ (between ++ Turn c ∷ past)) log
  middle = earlier_log config later (Turn c ∷ (between ++ Turn c ∷ past)) log asks.is_log

  second : Turns c config before middle.0
  second = turn_leads_to c config (between ++ Turn c ∷ past) before middle.0 asks.reads.went_on middle.1

  abbrev reading : CoreCall
  reading = record {
    xid = asks.reads.call.xid;
    arguments = OnLink (pos lid) (DeviceRead most asks.reads.timeout asks.reads.lock_timeout asks.reads.flags asks.reads.term_char);
  }

  abbrev My : Status → List Act → Type 0
  My s log = ReadHasStatus c limit reading replies s (of c log) (wait_acts (device_acts log))

  free_before : IsLive false before → IsFree c lid (device_acts before)
  free_before v = record {
    owns = ap (λ (l : List LinkAct). owner lid l) v.linked ∙ asks.writes.owns;
    unlocked = ap (λ (l : List LinkAct). is_locked_out (holder l) (Some lid)) v.linked ∙ asks.writes.unlocked;
  }

  abbrev waiting_now : List Act
  waiting_now = OnDevice (Waited (Entered c (Some lid) ForResponse (Some limit))) ∷ On c (CallTaken asks.reads.call.bytes) ∷ before

  others_entered : OthersCannotResume c links (wait_acts (device_acts before))
      → OthersCannotResume c links (wait_acts (device_acts waiting_now))
  others_entered others d ne writes reads able =
      let far = ne_eqb c d (λ e. ne (sym e)) in others d ne writes reads (rw far at able)

  mine_waiting : My (At false) before → My (At true) waiting_now
  mine_waiting m =
      let mine : of c waiting_now ≡ CallTaken asks.reads.call.bytes ∷ of c before = of_own_act c (CallTaken asks.reads.call.bytes) before in
      let is = (core_call_is_on_core_role (of c before) asks.reads.call.bytes reading asks.reads.call.next asks.reads.call.asks).1 in (
        rw (eq-eqb c c refl) refl,
        rw (eq-eqb c c refl) refl,
        ap (λ (l : List ConnAct). core_call_in (pending_call l)) mine ∙ is,
        ap all_replies mine ∙ m.1,
      )

  rest_before : Rested config before
  rest_before = settled_is_rested config before (log_settled config (between ++ Turn c ∷ past) before asks.reads.went_on)

  suspended : IsLive false before → Left (message ∷ [] ∷ replicate lines []) (exchange_acts (inside before))
      → held_unit (inside before) ≡ Some what → response (exchange_acts (inside before)) ≡ []
      → (newer : List InstrumentAct) × (inside before ≡ newer ++ base) × InitiatedIfReadings what newer → My (At false) before
      → IsPhase true (own_acts config second.polled (Turn c) before ++ before)
  suspended v left held none since mine =
      let no = unanswerable_without_response before none
      (ended_if_two_left message [] (replicate lines []) (exchange_acts (inside before)) left) in
      let own : own_acts config second.polled (Turn c) before ++ before ≡ waiting_now =
      turn_adds_outcome config second.polled c lid
      (DeviceRead most asks.reads.timeout asks.reads.lock_timeout asks.reads.flags asks.reads.term_char)
      (suspend_by (Entered c (Some lid) ForResponse (Some limit))) before asks.reads.call
      (read_is_suspended config second.polled c lid most asks.reads.timeout asks.reads.lock_timeout asks.reads.flags asks.reads.term_char
      (device_acts before) (free_before v) no) in
      subst (IsPhase true) (sym own) (inl (record {
        state = Holds left held none since (mine_waiting mine);
        linked = v.linked;
        others = others_entered v.others;
        codes = v.codes;
      }))

  read_at_once : IsLive false before → (e : UnitEnd what base (inside before)) → OneRead term most (held_answer what e.done)
      → Over 0 (held_answer what e.done ++ 10 ∷ []) (exchange_acts (inside before)) → held_unit (inside before) ≡ None
      → My (At false) before → IsPhase true (own_acts config second.polled (Turn c) before ++ before)
  read_at_once v e fits over held mine =
      let answer = held_answer what e.done in
      let bytes = answer ++ 10 ∷ [] in
      let own = turn_reads config second.polled c lid most asks.reads.timeout asks.reads.lock_timeout asks.reads.flags
      asks.reads.term_char answer
      before asks.reads.call (free_before v) over.shows fits in
      let l = over_zero_is_at_rest bytes (exchange_acts (inside before)) over in
      let read : List InstrumentAct = Exchanged (ResponseRead (length bytes)) ∷ [] in
      let told_now = told c (Exchanged (ResponseRead (length bytes))) asks.reads.call.bytes
      (read_reply asks.reads.call.xid answer most term) before
      in
      subst (IsPhase true) (sym own) (inl (record {
        state = Gone refl 0 (unit_end_with_more_acts what base read (inside before) (read ++ inside before) refl e) fits
            (record { left = l.left; done = l.done; overrun = l.overrun; dropped = l.dropped; given = l.given })
            (response_read (exchange_acts (inside before)) (length bytes) ∙ ap (drop (length bytes)) over.shows
            ∙ drop_all (length bytes) bytes (omega arith)) held
            (mine.0, ap all_replies told_now ∙ ap (λ (l : List ℕ). l ++ read_reply asks.reads.call.xid answer most term) mine.1);
        linked = v.linked;
        others = v.others;
        codes = v.codes;
      }))

  taken_by : IsLive false before → IsSettledIn false before → IsPhase true (own_acts config second.polled (Turn c) before ++ before)
  taken_by v (StillHolds left held none since mine) = suspended v left held none since mine
  taken_by v (StillShows e fits over held mine) = read_at_once v e fits over held mine
  taken_by v (IsGone was e fits left none mine) = absurd cc

  taken_phase : IsPhase false before → IsPhase true (own_acts config second.polled (Turn c) before ++ before)
  taken_phase (inl v) = taken_by v (settled_is _ _ _ _ _ _ _ _ _ _ _ _ _ _ _ _ _ _ _ _ _ false before rest_before v.state)
  taken_phase (inr escaped) = inr (escaped_more config c lid asks.reads.call.xid most asks.reads.timeout asks.reads.lock_timeout
      asks.reads.flags
      asks.reads.term_char limit lines what message asks.writes.query_sent.unit replies links (reported base) base message_short
      asks.writes.query_sent.one
      releasing
      (own_acts config second.polled (Turn c) before) before escaped)

  phase_middle : IsPhase true middle.0
  phase_middle = settling_keeps config (IsPhase true) (step_phase _ _ _ _ _ _ _ _ _ _ _ _ _ _ _ _ _ _ _ _ _ true) second.settles.0
      (own_acts config second.polled (Turn c) before ++ before) middle.0 (taken_phase phase_before) second.settles.1

  phase_log : IsPhase true log
  phase_log = quiet_phase _ _ _ _ _ _ _ _ _ _ _ _ _ _ _ _ _ _ _ _ _ true (Turn c ∷ (between ++ Turn c ∷ past)) later middle.0 log
      middle.1 phase_middle asks.still_quiet asks.is_log

  -- ---- at the end

  rest_log : Rested config log
  rest_log = settled_is_rested config log (log_settled config (later ++ Turn c ∷ (between ++ Turn c ∷ past)) log asks.is_log)

  abbrev Result : Type 0
  Result = IsHeldAnswered c what sent most term asks.writes.call.xid asks.reads.call.xid start log

  finally : reported (inside log) ≡ reported base → IsSettledIn true log → Result
  finally codes (StillHolds left held none since mine) = absurd (held_unit_means_measuring config log what rest_log held idle)
  finally codes (StillShows e fits over held mine) =
      absurd ((none_late config (later ++ Turn c ∷ (between ++ Turn c ∷ past)) log c asks.is_log).1
      (able (response_makes_answerable (held_answer what e.done ++ 10 ∷ []) (device_acts log) over.shows
      (line_is_nonempty (held_answer what e.done)))))
    where
      able : is_answerable (inside log) ≡ true → CanResume (device_acts log) c
      able can = rw mine.0 can
  finally codes (IsGone was e fits left none mine) = record {
    end = e;
    told = λ fits. record {
      told = mine.1 ∙ append_assoc (all_replies (of c start)) (write_reply asks.writes.call.xid sent) _;
      rest = record { text_left = left.left; none_left = none };
      none = codes;
    };
  }

  pub answered_held : Result
  answered_held = by phase_log
    where
      by : IsPhase true log → Result
      by (inl v) = finally v.codes (settled_is _ _ _ _ _ _ _ _ _ _ _ _ _ _ _ _ _ _ _ _ _ true log rest_log v.state)
      by (inr (inl past)) = let far = asks.in_time in absurd (omega (arith, past, far))
      by (inr (inr (e, long))) = record {
        end = e;
        told = λ fits. absurd (long fits);
      }

pub held_alone : HeldAlone
held_alone = answered_held
