-- A write of one command leaves message exchange at rest, and reports no query error.
use Rattle.std.proofs.Common.{◌≡◌, ℕ, zero, suc, ◌≤◌, Bool, true, false, cond, List, [], ◌∷◌, ◌++◌, length, Option, Some, None, Ok, refl, sym, ap, subst, ◌∙◌, inl, inr, arith}
use Rattle.std.specs.Prelude.{map, replicate, pos, not}
use Rattle.sv_errors.specs.declared.code.Code.{Code}
use Rattle.sv_errors.specs.declared.code.Code.TheVariants.{DataOutOfRange, SettingsConflict, TriggerIgnored, InitIgnored}
use Rattle.sv_errors.specs.declared.source.Source.TheVariants.{Immediate, Bus}
use Rattle.sv_vxi.specs.declared.error_code.ErrorCode.{ErrorCode}
use Rattle.sv_links.specs.Links.{LinkAct, holder}
use Rattle.sv_links.specs.Waiting.{WaitAct, Left as LeftCall, waits, link, IsAble}
use Rattle.sv_scan.specs.declared.acts.ScanAct.{ScanAct}
use Rattle.sv_scan.specs.declared.acts.ScanAct.TheVariants as scan
use Rattle.sv_scan.specs.declared.setting.Setting.TheVariants as setting
use Rattle.sv_scan.specs.Counted.{setting_fault, init_fault, trigger_fault}
use Rattle.sv_exchange.specs.Exchange.{ExchangeAct, UnitDone, Finished, units, has_ended, response, due, UnitDue}
use Rattle.sv_exchange.specs.Limits.{max_message}
use Rattle.sv_header.specs.declared.command.Action.TheVariants as action
use Rattle.sv_layers.specs.Act.{Act as InstrumentAct, Exchanged, Scanned, Reported, Cleared, Preset, OpcAsked, exchange_acts, StatusChanged}
use Rattle.sv_layers.specs.Condition.{effective_acts}
use Rattle.sv_instrument.specs.declared.command.order.Order.{Order}
use Rattle.sv_instrument.specs.declared.command.order.Order.TheVariants as order
use Rattle.sv_instrument.specs.HeldUnit.{held_unit}
use Rattle.sv_instrument.specs.CommandEffect.{done, unless, Performs}
use Rattle.sv_instrument.specs.Step.{is_answerable, IsStep}
use Rattle.sv_instrument.proofs.NextStep.{step_of}
use Rattle.sv_history.specs.declared.event.Config.{Config}
use Rattle.sv_history.specs.Event.{PlainEvent, Turn}
use Rattle.sv_history.specs.Act.{Act, Applied, OnDevice, of, device_acts, link_acts, wait_acts, instrument_acts}
use Rattle.sv_history.specs.Connection.{pending_call}
use Rattle.sv_history.specs.CoreCall.{CoreCall}
use Rattle.sv_history.specs.Request.{core_call_in}
use Rattle.sv_history.specs.Effect.{acts_of}
use Rattle.sv_history.specs.Resuming.{failure_effect, late}
use Rattle.sv_history.specs.Settling.{InstrumentDoes, IsNext, SettlesIn, Settles}
use Rattle.sv_history.specs.History.{IsLogOf}
use Rattle.sv_history.proofs.OneStep.{next_step_unique}
use Rattle.sv_history.proofs.Projections.{device_acts_append, link_acts_applied, wait_acts_applied, instrument_acts_applied}
use Rattle.sv_laws.specs.QueryAlone.{IsAtRest, Writes, write_reply, is_command, is_query_error, query_errors}
use Rattle.sv_laws.proofs.NoneLate.{none_late}
use Rattle.sv_laws.proofs.EveryLog.Steps.{Rested, log_settled, settled_is_rested}
use Rattle.sv_laws.proofs.EveryLog.EachEvent.{settling_keeps}
use Rattle.sv_laws.proofs.Cuts.Written.{log_with_write}
use Rattle.sv_laws.proofs.Cuts.FirstPart.{Resting, is_there_same_unless_device}
use Rattle.sv_laws.proofs.Alone.Texts.{Left, write_with_end_is_left, first_short, unit_due, unended_if_one_left, done_due, done_left, done_none, left_due, left_finished, finishing_shows_none, nothing_due}
use Rattle.sv_laws.proofs.Alone.Steps.{happened, step_next, finish_step}
use Rattle.sv_laws.proofs.Alone.Written.{accepted, first_unit_is_at_root}
use Rattle.sv_laws.proofs.Alone.Turns.{IsFree, turn_writes}
use Rattle.sv_laws.proofs.Alone.Quiet.{able_after_leaving_was_able, resting_if_answerable}
use Rattle.sv_laws.proofs.Alone.Unbegun.{all_executed_is_at_rest}
use Rattle.sv_laws.proofs.Alone.Asked.{Turns, turn_leads_to, idle_exchange_is_answerable}
use Rattle.sv_laws.proofs.Alone.Phases.{inside}
use Rattle.sv_laws.proofs.Alone.Moves.{happened_by_result, step_finishes_message, no_step_while_nothing_due}

-- ---- the unit

-- The unit of the command is done in the second log, and no unit is held. No query error was
-- reported since the first log.
abbrev UnitIsDone : List InstrumentAct → List InstrumentAct → Type 0
UnitIsDone log new = (exchange_acts new ≡ UnitDone ∷ exchange_acts log) × (held_unit new ≡ None) × (query_errors new ≡ query_errors log)

-- The order can be performed after this log, and then its unit is done (`IsDone`).
abbrev Performed : Order → List InstrumentAct → Type 0
Performed command log = (adds : List InstrumentAct) × Performs command log (adds ++ log) × UnitIsDone log (adds ++ log)

fault_is_no_query_error : (code given : Code) → is_query_error given ≡ false → Some given ≡ Some code → is_query_error code ≡ false
fault_is_no_query_error code given is e = let same : given ≡ code = cc in subst (λ (c : Code). is_query_error c ≡ false) same is

trigger_fault_is_no_query_error : (b : Bool) (code : Code) → cond b None (Some TriggerIgnored) ≡ Some code → is_query_error code ≡ false
trigger_fault_is_no_query_error true code e = absurd cc
trigger_fault_is_no_query_error false code e = fault_is_no_query_error code TriggerIgnored refl e

init_fault_is_no_query_error : (b : Bool) (code : Code) → cond b None (Some InitIgnored) ≡ Some code → is_query_error code ≡ false
init_fault_is_no_query_error true code e = absurd cc
init_fault_is_no_query_error false code e = fault_is_no_query_error code InitIgnored refl e

setting_fault_is_no_query_error : (a b : Bool) (code : Code) → cond a (Some DataOutOfRange) (cond b (Some SettingsConflict) None) ≡ Some
    code
    → is_query_error code ≡ false
setting_fault_is_no_query_error true b code e = fault_is_no_query_error code DataOutOfRange refl e
setting_fault_is_no_query_error false true code e = fault_is_no_query_error code SettingsConflict refl e
setting_fault_is_no_query_error false false code e = absurd cc

scans_unless : (fault : Option Code) (act : ScanAct) (log : List InstrumentAct)
    → ((code : Code) → fault ≡ Some code → is_query_error code ≡ false)
    → (adds : List InstrumentAct) × (adds ++ log ≡ unless fault (done (Scanned act ∷ log)) log) × UnitIsDone log (adds ++ log)
scans_unless None act log never = (Exchanged UnitDone ∷ Scanned act ∷ [], refl, (refl, refl, refl))
scans_unless (Some code) act log never = (Exchanged UnitDone ∷ Reported code ∷ [], refl, (refl, refl, rw (never code refl) refl))

performed : (command : Order) (log : List InstrumentAct) → is_command command ≡ true → Performed command log
performed (order.Do action.ClearStatus) log is = (Exchanged UnitDone ∷ Cleared ∷ [], refl, (refl, refl, refl))
performed (order.Do action.Reset) log is = (Exchanged UnitDone ∷ Scanned scan.Reset ∷ [], refl, (refl, refl, refl))
performed (order.Do action.TellComplete) log is = (Exchanged UnitDone ∷ OpcAsked ∷ [], refl, (refl, refl, refl))
performed (order.Do action.Trigger) log is =
    scans_unless (trigger_fault (effective_acts log) Bus) (scan.Trigger Bus) log (λ code. trigger_fault_is_no_query_error _ code)
performed (order.Do action.Preset) log is = (Exchanged UnitDone ∷ Preset ∷ [], refl, (refl, refl, refl))
performed (order.Do action.Initiate) log is = scans_unless (init_fault (effective_acts log)) scan.Init log
    (λ code. init_fault_is_no_query_error _ code)
performed (order.Do action.Abort) log is = (Exchanged UnitDone ∷ Scanned scan.Abort ∷ [], refl, (refl, refl, refl))
performed (order.Do _) log is = absurd cc
performed (order.Apply change) log is = (Exchanged UnitDone ∷ StatusChanged change ∷ [], refl, (refl, refl, refl))
performed (order.Set given) log is =
    scans_unless (setting_fault (effective_acts log) given) (scan.Configure given) log (λ code. setting_fault_is_no_query_error _ _ code)
performed (order.Configure None) log is = (
  Exchanged UnitDone ∷ Scanned (scan.Configure (setting.Count 1)) ∷ Scanned (scan.Configure (setting.Source Immediate))
      ∷ Scanned (scan.Configure (setting.Range (pos 10000000))) ∷ Scanned scan.Abort ∷ [],
  refl,
  (refl, refl, refl),
)
performed (order.Configure (Some list)) log is = (
  Exchanged UnitDone ∷ Scanned (scan.Configure (setting.List list)) ∷ Scanned (scan.Configure (setting.Count 1))
      ∷ Scanned (scan.Configure (setting.Source Immediate)) ∷ Scanned (scan.Configure (setting.Range (pos 10000000)))
      ∷ Scanned scan.Abort ∷ [],
  refl,
  (refl, refl, refl),
)
performed _ log is = absurd cc

-- ---- the phases

-- No suspended call can resume, whether or not the device accepts a write or answers a read.
abbrev NobodyCanResume : List LinkAct → List WaitAct → Type 0
NobodyCanResume links calls = (d : ℕ) (writes reads : Bool) → IsAble (holder links) writes reads calls d → ⊥

module _ (config : Config) (lines : ℕ) (message unit : List ℕ) (links : List LinkAct) (errors : List Code)
    (short : length message ≤ max_message) (one : units message ≡ unit ∷ []) where
  abbrev parts : List (List ℕ)
  parts = message ∷ [] ∷ replicate lines []

  -- `Did`: the unit is done, and its message isn't finished yet. `Ended`: the message is finished,
  -- and `k` empty messages are left to finish, which come from the new lines after it.
  data State (log : List Act) : Type 0 where
    Did : (acts : List ExchangeAct) → exchange_acts (inside log) ≡ UnitDone ∷ acts → Left parts acts → response acts ≡ [] → State log
    Ended : (k : ℕ) → Left ([] ∷ replicate k []) (exchange_acts (inside log)) → response (exchange_acts (inside log)) ≡ [] → State log

  record Phase (log : List Act) : Type 0 where
    state : State log
    held : held_unit (inside log) ≡ None
    linked : link_acts (device_acts log) ≡ links
    nobody : NobodyCanResume links (wait_acts (device_acts log))
    codes : query_errors (inside log) ≡ errors

  left_nobody : (d : ℕ) (calls : List WaitAct) → NobodyCanResume links calls → NobodyCanResume links (LeftCall d ∷ calls)
  left_nobody d calls nobody e writes reads able = nobody e writes reads
      (able_after_leaving_was_able (holder links) writes reads d e calls able)

  state_moved : (log new : List Act) → exchange_acts (inside new) ≡ exchange_acts (inside log) → State log → State new
  state_moved log new same (Did acts is left none) = Did acts (same ∙ is) left none
  state_moved log new same (Ended k left none) =
      Ended k (subst (Left ([] ∷ replicate k [])) (sym same) left) (ap response same ∙ none)

  scanned_phase : (act : ScanAct) (log : List Act) → Phase log → Phase (OnDevice (Applied (Scanned act)) ∷ log)
  scanned_phase act log p = record {
    state = state_moved log (OnDevice (Applied (Scanned act)) ∷ log) refl p.state;
    held = p.held;
    linked = p.linked;
    nobody = p.nobody;
    codes = p.codes;
  }

  failed_phase : (error : ErrorCode) (d : ℕ) (core : Option CoreCall) (log : List Act) → Phase log
      → Phase (acts_of d (failure_effect error d core) ++ log)
  failed_phase error d (Some found) log p = record {
    state = state_moved log (acts_of d (failure_effect error d (Some found)) ++ log) refl p.state;
    held = p.held;
    linked = p.linked;
    nobody = left_nobody d (wait_acts (device_acts log)) p.nobody;
    codes = p.codes;
  }
  failed_phase error d None log p = record {
    state = state_moved log (acts_of d (failure_effect error d None) ++ log) refl p.state;
    held = p.held;
    linked = p.linked;
    nobody = left_nobody d (wait_acts (device_acts log)) p.nobody;
    codes = p.codes;
  }

  finished_phase : (log : List Act) → Phase log → State (OnDevice (Applied (Exchanged Finished)) ∷ log)
      → Phase (OnDevice (Applied (Exchanged Finished)) ∷ log)
  finished_phase log p state =
      record { state = state; held = p.held; linked = p.linked; nobody = p.nobody; codes = p.codes }

  stepped : (log new : List Act) → Phase log → State log → InstrumentDoes IsStep log new → Phase new
  stepped log new p (Did acts is left none) step =
      let finish = ap due is ∙ done_due message [] unit (replicate lines []) acts left short one in
      subst Phase (sym (step_finishes_message log new p.held finish step)) (finished_phase log p (Ended lines
      (subst (λ (l : List ExchangeAct). Left ([] ∷ replicate lines []) (Finished ∷ l)) (sym is) (done_left lines message acts left))
      (ap (λ (l : List ExchangeAct). response (Finished ∷ l)) is ∙ done_none parts acts left none)))
  stepped log new p (Ended (suc k) left none) step =
      subst Phase (sym (step_finishes_message log new p.held (left_due k (exchange_acts (inside log)) left) step))
      (finished_phase log p (Ended k
      (left_finished k (exchange_acts (inside log)) left)
      (finishing_shows_none ([] ∷ [] ∷ replicate k []) (exchange_acts (inside log)) left none)))
  stepped log new p (Ended zero left none) step =
      absurd (no_step_while_nothing_due log new p.held (nothing_due (exchange_acts (inside log)) left) step)

  next_phase : (log new : List Act) → Phase log → IsNext config log new → Phase new
  next_phase log new p (inl (adds, such, is)) =
      subst Phase (sym (happened_by_result adds (Scanned (scan.Trigger Immediate) ∷ []) log new is such.1))
      (scanned_phase (scan.Trigger Immediate) log p)
  next_phase log new p (inr (none, inl (d, wait, polled, oldest, for, said, is))) =
      absurd (p.nobody d (not (has_ended (exchange_acts (inside log)))) (is_answerable (inside log))
      (subst (λ (l : List LinkAct). IsAble (holder l) (not (has_ended (exchange_acts (inside log)))) (is_answerable (inside log))
      (wait_acts (device_acts log)) d) p.linked oldest.0))
  next_phase log new p (inr (none, inr (still, inl step))) = stepped log new p p.state step
  next_phase log new p (inr (none, inr (still, inr (idle, (d, wait, oldest, for, is))))) =
      subst Phase (sym is) (failed_phase (late wait) d (core_call_in (pending_call (of d log))) log p)

  -- If no step is due any more, message exchange is at rest.
  rests_at_end : (log : List Act) → Rested config log → Phase log → State log → IsAtRest (exchange_acts (inside log))
  rests_at_end log rest p (Did acts is left none) = absurd (rest.steps (OnDevice (Applied (Exchanged Finished)) ∷ log) (
    Exchanged Finished ∷ [],
    finish_step (inside log) p.held (ap due is ∙ done_due message [] unit (replicate lines []) acts left short one),
    refl,
  ))
  rests_at_end log rest p (Ended (suc k) left none) = absurd (rest.steps (OnDevice (Applied (Exchanged Finished)) ∷ log) (
    Exchanged Finished ∷ [],
    finish_step (inside log) p.held (left_due k (exchange_acts (inside log)) left),
    refl,
  ))
  rests_at_end log rest p (Ended zero left none) = record { text_left = left.left; none_left = none }

-- ---- the write

module _ (c lid : ℕ) (command : Order) (sent : List ℕ) (config : Config) (past : List PlainEvent) (start log : List Act)
    (is : is_command command ≡ true) (rest : IsAtRest (exchange_acts (instrument_acts (device_acts start))))
    (writes : Writes c lid command sent config past start) (is_log : IsLogOf config (Turn c ∷ past) log) where
  abbrev base : List InstrumentAct
  base = inside start

  abbrev message : List ℕ
  message = writes.query_sent.message

  abbrev lines : ℕ
  lines = writes.query_sent.lines

  message_short : length message ≤ max_message
  message_short =
      let least = first_short sent message ([] ∷ replicate lines []) writes.query_sent.cut in
      let far = writes.short in omega (arith, least, far)

  abbrev IsPhase : List Act → Type 0
  IsPhase = Phase config lines message writes.query_sent.unit (link_acts (device_acts start)) (query_errors base) message_short
      writes.query_sent.one

  at_rest : Left ([] ∷ []) (exchange_acts base) × (held_unit base ≡ None)
  at_rest = all_executed_is_at_rest config past start writes.was rest.text_left

  unended : has_ended (exchange_acts base) ≡ false
  unended = unended_if_one_left [] (exchange_acts base) at_rest.0

  turn : Turns c config start log
  turn = turn_leads_to c config past start log writes.was is_log

  resting : Resting config start
  resting = resting_if_answerable config past start turn.polled writes.was unended (idle_exchange_is_answerable base at_rest.1 unended)
      turn.said

  abbrev now : List InstrumentAct
  now = accepted sent base

  abbrev wrote_now : List Act
  wrote_now = log_with_write c writes.call.bytes (write_reply writes.call.xid sent) sent true start

  left_now : Left (message ∷ [] ∷ replicate lines []) (exchange_acts now)
  left_now = write_with_end_is_left sent ([] ∷ replicate lines []) message (exchange_acts base) at_rest.0 writes.query_sent.cut

  does : Performed command now
  does = performed command now is

  abbrev adds : List InstrumentAct
  adds = does.0

  unit_step : IsStep now (adds ++ now)
  unit_step = step_of now (adds ++ now) None (UnitDue writes.query_sent.unit) (sym at_rest.1)
      (sym (unit_due message [] writes.query_sent.unit (replicate lines []) (exchange_acts now) left_now message_short
      writes.query_sent.one rest.none_left))
      ([], writes.query_sent.path, Ok command, first_unit_is_at_root now left_now.done at_rest.1, writes.query_sent.reads, does.1)

  abbrev did_now : List Act
  did_now = happened adds wrote_now

  next : IsNext config wrote_now did_now
  next = step_next config start wrote_now adds now resting
      (record { calm = record { links = refl; calls = refl; clock = refl; scans = refl }; is = refl }) unit_step

  nobody_start : NobodyCanResume (link_acts (device_acts start)) (wait_acts (device_acts start))
  nobody_start d writing reading able =
      (none_late config past start d writes.was).1 (sym (is_there_same_unless_device (holder (link_acts (device_acts start)))
      (link d (wait_acts (device_acts start))) (waits d (wait_acts (device_acts start))) writing reading
      (not (has_ended (exchange_acts base))) (is_answerable base) (resting.none d).0 (resting.none d).1) ∙ able)

  inside_is : inside did_now ≡ adds ++ now
  inside_is = ap instrument_acts (device_acts_append (map Applied adds) wrote_now) ∙ instrument_acts_applied adds (device_acts wrote_now)

  phase_did : IsPhase did_now
  phase_did = record {
    state = Did (exchange_acts now) (ap exchange_acts inside_is ∙ does.2.0) left_now rest.none_left;
    held = ap held_unit inside_is ∙ does.2.1;
    linked = ap link_acts (device_acts_append (map Applied adds) wrote_now) ∙ link_acts_applied adds (device_acts wrote_now);
    nobody = subst (NobodyCanResume (link_acts (device_acts start)))
        (sym (ap wait_acts (device_acts_append (map Applied adds) wrote_now) ∙ wait_acts_applied adds (device_acts wrote_now)))
        nobody_start;
    codes = ap query_errors inside_is ∙ does.2.2;
  }

  phase_settled : (n : ℕ) → SettlesIn n config wrote_now log → IsPhase log
  phase_settled zero settles = absurd (settles.0 did_now next)
  phase_settled (suc n) (middle, step, more) =
      settling_keeps config IsPhase (next_phase _ _ _ _ _ _ _ _) n middle log
      (subst IsPhase (sym (next_step_unique config wrote_now middle did_now step next)) phase_did) more

  phase_log : IsPhase log
  phase_log =
      let free : IsFree c lid (device_acts start) = record { owns = writes.owns; unlocked = writes.unlocked } in
      let own = turn_writes config turn.polled c lid writes.io_timeout writes.lock_timeout writes.flags sent start writes.call free
      writes.short unended writes.ends in
      let there = subst (λ (l : List Act). Settles config l log) own turn.settles in
      phase_settled there.0 there.1

  pub command_alone : IsAtRest (exchange_acts (instrument_acts (device_acts log)))
      × (query_errors (instrument_acts (device_acts log)) ≡ query_errors (instrument_acts (device_acts start)))
  command_alone = (
    rests_at_end _ _ _ _ _ _ _ _ log (settled_is_rested config log (log_settled config (Turn c ∷ past) log is_log)) phase_log
        phase_log.state,
    phase_log.codes,
  )
