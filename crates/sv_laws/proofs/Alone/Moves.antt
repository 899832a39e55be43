-- The phases of a query that waits for the end of the measurement, and how each step and each quiet
-- event changes them.
use Rattle.std.proofs.Common.{append_assoc, ◌≡◌, ◌≢◌, ℕ, zero, suc, ◌+◌, ◌≤◌, Bool, true, false, List, [], ◌∷◌, ◌++◌, length, Option, Some, None, refl, sym, ap, subst, ◌∙◌, inl, inr, ◌⊎◌, arith, eq-eqb}
use Rattle.std.specs.Prelude.{map, replicate, pos, not, drop}
use Rattle.std.proofs.lemmas.Bool.{cases_eq}
use Rattle.std.proofs.lemmas.List.{append_cancel_right, drop_all}
use Rattle.sv_errors.specs.declared.source.Source.TheVariants.{Immediate, External as ExternalSource}
use Rattle.sv_vxi.specs.Arguments.{DeviceRead, OnLink}
use Rattle.sv_links.specs.declared.waiting.Wait.{Wait}
use Rattle.sv_links.specs.declared.waiting.Wait.TheVariants.{Response as ForResponse}
use Rattle.sv_links.specs.Links.{LinkAct, holder}
use Rattle.sv_links.specs.Waiting.{WaitAct, Left as LeftCall, waits, IsAble, IsExpired}
use Rattle.sv_scan.specs.declared.acts.ScanAct.TheVariants.{Trigger, Sample, Input as InputTo}
use Rattle.sv_exchange.specs.Exchange.{ExchangeAct, UnitDone, Answered, Finished, ResponseRead, units, answers, fits_response, has_ended, response, due, Due, FinishDue, NothingDue}
use Rattle.sv_exchange.specs.Limits.{max_message}
use Rattle.sv_exchange.proofs.Responses.{response_read}
use Rattle.sv_layers.specs.declared.change.Awaited.{Awaited}
use Rattle.sv_layers.specs.Act.{Act as InstrumentAct, Exchanged, Scanned, exchange_acts}
use Rattle.sv_instrument.specs.HeldUnit.{held_unit}
use Rattle.sv_instrument.specs.CommandEffect.{done, after_answering}
use Rattle.sv_instrument.specs.Step.{after_release, is_answerable, StepOf, IsStep}
use Rattle.std.specs.List.{AllByRecursion}
use Rattle.sv_errors.specs.declared.code.Code.{Code}
use Rattle.sv_scan.specs.declared.setting.State.{State as ScanState}
use Rattle.sv_scan.specs.declared.setting.State.TheVariants.{Scanning}
use Rattle.sv_links.specs.Channels.{ChannelClosed, ChannelTaken}
use Rattle.sv_instrument.specs.Stimulus.{where_scanning, or_nothing}
use Rattle.sv_history.specs.declared.event.Port.TheVariants.{Conn, Intr}
use Rattle.sv_history.specs.Event.{PlainEvent, Open, Bytes, Took, Close, Input, External, Tick}
use Rattle.sv_history.specs.History.{own_acts, IsLogOf}
use Rattle.sv_laws.proofs.OneLog.{one_log}
use Rattle.sv_laws.proofs.EveryLog.EachEvent.{settling_keeps}
use Rattle.sv_laws.proofs.Alone.Steps.{finish_step}
use Rattle.sv_history.specs.declared.event.Config.{Config}
use Rattle.sv_history.specs.Act.{Act, ConnAct, Opened, Replied, Waited, Applied, Ticked, On, OnDevice, of, device_acts, link_acts, wait_acts, instrument_acts, ticks}
use Rattle.sv_history.specs.Connection.{pending_call}
use Rattle.sv_history.specs.CallOutcome.{CallOutcome}
use Rattle.sv_history.specs.CoreCall.{CoreCall}
use Rattle.sv_history.specs.CoreChannel.{term_of}
use Rattle.sv_history.specs.Request.{core_call_in}
use Rattle.sv_history.specs.Effect.{acts_of, result_reply, call_effect}
use Rattle.sv_history.specs.Resuming.{leaving, resume_effect, failure_effect, late}
use Rattle.sv_history.specs.Settling.{InstrumentDoes, CanResume, IsNext}
use Rattle.sv_history.proofs.Projections.{of_own_act, device_acts_append, instrument_acts_applied}
use Rattle.sv_laws.specs.Adding.{all_replies}
use Rattle.sv_laws.specs.QueryAlone.{OneRead, UnitEnd, reported, held_answer, IsQuiet}
use Rattle.sv_laws.proofs.EveryLog.Steps.{Rested, next_extends}
use Rattle.sv_laws.proofs.Alone.Texts.{Left, Over, answered, ended_if_two_left, short_answer_fits, finish_due, finishing_shows_response, empty_due, finished_empty, over_zero_is_at_rest, nothing_due, left_due, left_finished, finishing_shows_none, over_left}
use Rattle.sv_laws.proofs.Alone.Turns.{whole, reads_whole}
use Rattle.sv_laws.proofs.Alone.Phases.{Status, At, Told, ReadHasStatus, OthersCannotResume, InitiatedIfReadings, stays_initiated, unit_end_with_more_acts, one_read_or_not, inside, Alike, alike_scanned, alike_ticked, alike_channel, alike_piece, alike_taken, alike_other, alike_failed, others_left}
use mathlib.Core.Bool.{and-false}
use Rattle.sv_laws.proofs.Facts.{some_injective}

-- ---- a log with more acts

inside_of_append : (adds log : List Act) → inside (adds ++ log) ≡ inside adds ++ inside log
inside_of_append [] log = refl
inside_of_append (On d act ∷ adds) log = inside_of_append adds log
inside_of_append (OnDevice (Applied act) ∷ adds) log = ap (λ (l : List InstrumentAct). act ∷ l) (inside_of_append adds log)
inside_of_append (OnDevice _ ∷ adds) log = inside_of_append adds log

pub ticks_never_fall : (adds log : List Act) → ticks (device_acts log) ≤ ticks (device_acts (adds ++ log))
ticks_never_fall [] log = omega arith
ticks_never_fall (On d act ∷ adds) log = ticks_never_fall adds log
ticks_never_fall (OnDevice Ticked ∷ adds) log = let least = ticks_never_fall adds log in omega (arith, least)
ticks_never_fall (OnDevice _ ∷ adds) log = ticks_never_fall adds log

-- ---- a step of the instrument

pub happened_by_result : (adds acts : List InstrumentAct) (log new : List Act) → new ≡ map OnDevice (map Applied adds) ++ log
    → adds ++ inside log ≡ acts ++ inside log → new ≡ map OnDevice (map Applied acts) ++ log
happened_by_result adds acts log new is same =
    is ∙ ap (λ (l : List InstrumentAct). map OnDevice (map Applied l) ++ log) (append_cancel_right adds acts (inside log) same)

pub step_finishes_message : (log new : List Act) → held_unit (inside log) ≡ None → due (exchange_acts (inside log)) ≡ FinishDue
    → InstrumentDoes IsStep log new → new ≡ OnDevice (Applied (Exchanged Finished)) ∷ log
step_finishes_message log new held finish (adds, step, is) =
    let free = subst (λ (o : Option Awaited). StepOf o (due (exchange_acts (inside log))) (inside log) (adds ++ inside log)) held step in
    let so : adds ++ inside log ≡ Exchanged Finished ∷ inside log =
    subst (λ (d : Due). StepOf None d (inside log) (adds ++ inside log)) finish free in
    happened_by_result adds (Exchanged Finished ∷ []) log new is so

pub no_step_while_nothing_due : (log new : List Act) → held_unit (inside log) ≡ None → due (exchange_acts (inside log)) ≡ NothingDue
    → InstrumentDoes IsStep log new → ⊥
no_step_while_nothing_due log new held nothing (adds, step, is) =
    let free = subst (λ (o : Option Awaited). StepOf o (due (exchange_acts (inside log))) (inside log) (adds ++ inside log)) held step in
    subst (λ (d : Due). StepOf None d (inside log) (adds ++ inside log)) nothing free

fitting_answer_is_added : (answer : List ℕ) (acts : List InstrumentAct)
    → fits_response (answers (UnitDone ∷ exchange_acts acts)) answer ≡ true
    → after_answering answer (done acts) ≡ Exchanged (Answered answer) ∷ Exchanged UnitDone ∷ acts
fitting_answer_is_added answer acts fits = rw fits refl

-- No read can be answered while there is no response, and the message has ended but isn't finished.
pub unanswerable_without_response : (log : List Act) → response (exchange_acts (inside log)) ≡ []
    → has_ended (exchange_acts (inside log)) ≡ true → is_answerable (inside log) ≡ false
unanswerable_without_response log none ended = rw (none, ended) (and-false _)

module _ (config : Config) (c lid xid most io_timeout lock_timeout flags term_char limit lines : ℕ) (what : Awaited)
    (message unit replies : List ℕ) (links : List LinkAct) (errors : List Code) (base : List InstrumentAct)
    (short : length message ≤ max_message) (one : units message ≡ unit ∷ [])
    (releases : (acts : List InstrumentAct) → after_release what acts ≡ after_answering (held_answer what acts) (done acts)) where
  abbrev pub call : CoreCall
  call = record { xid = xid; arguments = OnLink (pos lid) (DeviceRead most io_timeout lock_timeout flags term_char) }

  abbrev pub reply_of : List ℕ → List ℕ
  reply_of answer = result_reply xid (whole most (term_of flags term_char) answer)

  abbrev pub parts : List (List ℕ)
  parts = message ∷ [] ∷ replicate lines []

  abbrev pub answer_of : (acts : List InstrumentAct) → UnitEnd what base acts → List ℕ
  answer_of acts e = held_answer what e.done

  abbrev pub My : Status → List Act → Type 0
  My s log = ReadHasStatus c limit call replies s (of c log) (wait_acts (device_acts log))

  -- The log continues `base`, the instrument's log before the write. If the unit answers with
  -- readings, a measurement was initiated since then.
  abbrev pub Since : List InstrumentAct → Type 0
  Since acts = (newer : List InstrumentAct) × (acts ≡ newer ++ base) × InitiatedIfReadings what newer

  -- `Holds`: the unit is held. `Gave`: the unit has ended, and its answer was added to the message.
  -- `Shows`: the message is finished, and its response can be read. `Gone`: the response was read.
  pub data State (taken : Bool) (log : List Act) : Type 0 where
    Holds : Left parts (exchange_acts (inside log)) → held_unit (inside log) ≡ Some what → response (exchange_acts (inside log)) ≡ []
        → Since (inside log) → My (At taken) log → State taken log
    Gave : (e : UnitEnd what base (inside log)) → OneRead (term_of flags term_char) most (answer_of (inside log) e)
        → (acts : List ExchangeAct)
        → exchange_acts (inside log) ≡ answered (answer_of (inside log) e) acts → Left parts acts → response acts ≡ []
        → held_unit (inside log) ≡ None → My (At taken) log → State taken log
    Shows : (k : ℕ) (e : UnitEnd what base (inside log)) → OneRead (term_of flags term_char) most (answer_of (inside log) e)
        → Over k (answer_of (inside log) e ++ 10 ∷ []) (exchange_acts (inside log)) → held_unit (inside log) ≡ None → My (At taken) log
        → State taken log
    Gone : taken ≡ true → (k : ℕ) (e : UnitEnd what base (inside log)) → OneRead (term_of flags term_char) most (answer_of (inside log) e)
        → Left ([] ∷ replicate k []) (exchange_acts (inside log)) → response (exchange_acts (inside log)) ≡ []
        → held_unit (inside log) ≡ None → My (Told (reply_of (answer_of (inside log) e))) log → State taken log

  -- The query is in one of these states. Since the write no act concerned a link, no error was
  -- reported, and no suspended call of another connection can resume.
  pub record Live (taken : Bool) (log : List Act) : Type 0 where
    pub state : State taken log
    pub linked : link_acts (device_acts log) ≡ links
    pub others : OthersCannotResume c links (wait_acts (device_acts log))
    pub codes : reported (inside log) ≡ errors

  -- The law doesn't apply: the deadline of the read has come, or the answer is too long for one
  -- read.
  abbrev pub Escaped : List Act → Type 0
  Escaped log = (limit ≤ config.clock + ticks (device_acts log))
      ⊎ ((e : UnitEnd what base (inside log)) × (OneRead (term_of flags term_char) most (held_answer what e.done) → ⊥))

  abbrev pub Phase : Bool → List Act → Type 0
  Phase taken log = Live taken log ⊎ Escaped log

  pub escaped_more : (adds log : List Act) → Escaped log → Escaped (adds ++ log)
  escaped_more adds log (inl past) = let least = ticks_never_fall adds log in inl (omega (arith, past, least))
  escaped_more adds log (inr (e, long)) =
      inr (unit_end_with_more_acts what base (inside adds) (inside log) (inside (adds ++ log)) (inside_of_append adds log) e, long)

  -- ---- logs that don't differ for the query

  abbrev pub Similar : List Act → List Act → Type 0
  Similar log new = Alike c limit call replies links log new

  state_alike : (taken : Bool) (log new : List Act) → Similar log new → State taken log → State taken new
  state_alike taken log new a (Holds left held none since mine) = Holds (subst (Left parts) (sym a.exchange) left) (a.held ∙ held)
      (ap response a.exchange ∙ none) (
        a.adds ++ since.0,
        a.is ∙ ap (λ (l : List InstrumentAct). a.adds ++ l) since.1
            ∙ sym (append_assoc a.adds since.0 base),
        stays_initiated what a.adds since.0 since.2,
      ) (a.mine (At taken) mine)
  state_alike taken log new a (Gave e fits acts is left none held mine) =
      Gave (unit_end_with_more_acts what base a.adds (inside log) (inside new) a.is e) fits acts (a.exchange ∙ is) left none (a.held ∙ held)
      (a.mine (At taken) mine)
  state_alike taken log new a (Shows k e fits over held mine) =
      Shows k (unit_end_with_more_acts what base a.adds (inside log) (inside new) a.is e) fits
      (subst (Over k (held_answer what e.done ++ 10 ∷ [])) (sym a.exchange) over) (a.held ∙ held) (a.mine (At taken) mine)
  state_alike taken log new a (Gone was k e fits left none held mine) =
      Gone was k (unit_end_with_more_acts what base a.adds (inside log) (inside new) a.is e) fits
      (subst (Left ([] ∷ replicate k [])) (sym a.exchange) left)
      (ap response a.exchange ∙ none) (a.held ∙ held) (a.mine (Told (reply_of (held_answer what e.done))) mine)

  pub live_alike : (taken : Bool) (log new : List Act) → Similar log new → Live taken log → Live taken new
  live_alike taken log new a v = record {
    state = state_alike taken log new a v.state;
    linked = a.linked ∙ v.linked;
    others = a.others v.others;
    codes = a.codes ∙ v.codes;
  }

  -- ---- steps of the instrument

  released : (taken : Bool) (log new : List Act) → Left parts (exchange_acts (inside log)) → held_unit (inside log) ≡ Some what
      → response (exchange_acts (inside log)) ≡ [] → Since (inside log) → My (At taken) log → link_acts (device_acts log) ≡ links
      → OthersCannotResume c links (wait_acts (device_acts log)) → reported (inside log) ≡ errors → InstrumentDoes IsStep log new
      → Phase taken new
  released taken log new left held none since mine linked others codes (adds, step, is) =
      let out = subst (λ (o : Option Awaited). StepOf o (due (exchange_acts (inside log))) (inside log) (adds ++ inside log)) held step in
      let answer = held_answer what (inside log) in
      let so : adds ++ inside log ≡ after_answering answer (done (inside log)) = out.1 ∙ releases (inside log) in
      elim (one_read_or_not (term_of flags term_char) most answer) [
        | inl fits ↦
            let far = fits.1 in
            let room = short_answer_fits answer parts (exchange_acts (inside log)) left (omega (arith, far)) in
            let both : List InstrumentAct = Exchanged (Answered answer) ∷ Exchanged UnitDone ∷ [] in
            let there = happened_by_result adds both log new is (so ∙ fitting_answer_is_added answer (inside log) room) in
            subst (Phase taken) (sym there) (inl (record {
              state = Gave (record {
                done = inside log;
                newer = since.0;
                more = both;
                within = refl;
                since = since.1;
                began = since.2;
                held = held;
                idle =
                    out.0;
              }) fits (exchange_acts (inside log)) refl left
                  none refl mine;
              linked = linked;
              others = others;
              codes = codes;
            }))
        | inr long ↦
            let now : inside new ≡ adds ++ inside log = ap inside is ∙ ap instrument_acts (device_acts_append (map Applied adds) log)
            ∙ instrument_acts_applied adds (device_acts log) in
            inr (inr (
              record {
                done = inside log;
                newer = since.0;
                more = adds;
                within = now;
                since = since.1;
                began = since.2;
                held = held;
                idle = out.0;
              },
              long,
            ))
      ]

  stepped : (taken : Bool) (log new : List Act) → State taken log → link_acts (device_acts log) ≡ links
      → OthersCannotResume c links (wait_acts (device_acts log)) → reported (inside log) ≡ errors → InstrumentDoes IsStep log new
      → Phase taken new
  stepped taken log new (Holds left held none since mine) linked others codes step = released taken log new left held none since mine
      linked others codes step
  stepped taken log new (Gave e fits acts is left none held mine) linked others codes step =
      let answer = held_answer what e.done in
      let finish = ap due is ∙ finish_due message [] unit answer (replicate lines []) acts left short one in
      subst (Phase taken) (sym (step_finishes_message log new held finish step)) (inl (record {
        state = Shows lines (unit_end_with_more_acts what base (Exchanged Finished ∷ []) (inside log) (Exchanged Finished ∷ inside log) refl
            e) fits
            (subst (λ (l : List ExchangeAct). Over lines (answer ++ 10 ∷ []) (Finished ∷ l)) (sym is)
            (finishing_shows_response lines message answer acts left)) held mine;
        linked = linked;
        others = others;
        codes = codes;
      }))
  stepped taken log new (Shows (suc k) e fits over held mine) linked others codes step =
      let bytes = held_answer what e.done ++ 10 ∷ [] in
      subst (Phase taken) (sym (step_finishes_message log new held (empty_due k bytes (exchange_acts (inside log)) over) step))
      (inl (record {
        state = Shows k (unit_end_with_more_acts what base (Exchanged Finished ∷ []) (inside log) (Exchanged Finished ∷ inside log) refl e)
            fits
            (finished_empty k bytes (exchange_acts (inside log)) over) held mine;
        linked = linked;
        others = others;
        codes = codes;
      }))
  stepped taken log new (Shows zero e fits over held mine) linked others codes step =
      absurd (no_step_while_nothing_due log new held (nothing_due (exchange_acts (inside log))
      (over_zero_is_at_rest (held_answer what e.done ++ 10 ∷ []) (exchange_acts (inside log)) over)) step)
  stepped taken log new (Gone was (suc k) e fits left none held mine) linked others codes step =
      subst (Phase taken) (sym (step_finishes_message log new held (left_due k (exchange_acts (inside log)) left) step)) (inl (record {
        state = Gone was k (unit_end_with_more_acts what base (Exchanged Finished ∷ []) (inside log) (Exchanged Finished ∷ inside log) refl
            e) fits
            (left_finished k (exchange_acts (inside log)) left)
            (finishing_shows_none ([] ∷ [] ∷ replicate k []) (exchange_acts (inside log)) left none) held mine;
        linked = linked;
        others = others;
        codes = codes;
      }))
  stepped taken log new (Gone was zero e fits left none held mine) linked others codes step =
      absurd (no_step_while_nothing_due log new held (nothing_due (exchange_acts (inside log)) left) step)

  -- ---- a call times out

  mine_late : (taken : Bool) (own : List ConnAct) (calls : List WaitAct) (clock : ℕ)
      → ReadHasStatus c limit call replies (At taken) own calls
      → IsExpired clock calls c → limit ≤ clock
  mine_late false own calls clock m (wait, last, for, until, past) = absurd (let z : Some wait ≡ None = sym for ∙ m.0 in cc)
  mine_late true own calls clock m (wait, last, for, until, past) =
      let same : Some limit ≡ Some last = sym m.1 ∙ until in
      let is : limit ≡ last = cc in omega (arith, is, past)

  state_late : (taken : Bool) (log : List Act) → State taken log
      → IsExpired (config.clock + ticks (device_acts log)) (wait_acts (device_acts log)) c
      → limit ≤ config.clock + ticks (device_acts log)
  state_late taken log (Holds left held none since mine) late = mine_late taken _ _ _ mine late
  state_late taken log (Gave e fits acts is left none held mine) late = mine_late taken _ _ _ mine late
  state_late taken log (Shows k e fits over held mine) late = mine_late taken _ _ _ mine late
  state_late taken log (Gone was k e fits left none held mine) (wait, last, for, until, past) =
      absurd (let z : Some wait ≡ None = sym for ∙ mine.0 in cc)

  others_cannot : (d : ℕ) (log : List Act) → d ≢ c → link_acts (device_acts log) ≡ links
      → OthersCannotResume c links (wait_acts (device_acts log))
      → CanResume (device_acts log) d → ⊥
  others_cannot d log ne linked others able = others d ne (not (has_ended (exchange_acts (inside log)))) (is_answerable (inside log))
      (subst (λ (l : List LinkAct). IsAble (holder l) (not (has_ended (exchange_acts (inside log)))) (is_answerable (inside log))
      (wait_acts (device_acts log)) d) linked able)

  -- If a suspended call of the connection can resume, it is the read, and the read can be answered.
  able_reads : (taken : Bool) (log : List Act) → My (At taken) log → CanResume (device_acts log) c
      → (taken ≡ true) × (is_answerable (inside log) ≡ true)
  able_reads false log m able = absurd (let z : false ≡ true = rw m.0 at able in cc)
  able_reads true log m able = (refl, rw m.0 at able)

  abbrev after_read : List ℕ → List Act → List Act
  after_read answer log = On c (Replied (reply_of answer))
      ∷ OnDevice (Applied (Exchanged (ResponseRead (length (answer ++ 10 ∷ []))))) ∷ OnDevice (Waited (LeftCall c)) ∷ log

  goes_on : (polled : ℕ) (wait : Wait) (found : Option CoreCall) (answer : List ℕ) (log : List Act)
      → OneRead (term_of flags term_char) most answer → response (exchange_acts (inside log)) ≡ answer ++ 10 ∷ [] → wait ≡ ForResponse
      → found ≡ Some call
      → acts_of c (resume_effect config polled c wait found (device_acts log)) ++ log ≡ after_read answer log
  goes_on polled wait found answer log fits shows is_wait is_call =
      let acts = device_acts log in
      ap (λ (w : Wait). acts_of c (resume_effect config polled c w found acts) ++ log) is_wait
      ∙ ap (λ (o : Option CoreCall). acts_of c (resume_effect config polled c ForResponse o acts) ++ log) is_call
      ∙ ap (λ (o : CallOutcome). acts_of c (call_effect xid (leaving c o)) ++ log)
      (reads_whole answer most (term_of flags term_char) (Waited (LeftCall c) ∷ acts) shows fits)

  read_state : (k : ℕ) (log : List Act) (e : UnitEnd what base (inside log))
      → OneRead (term_of flags term_char) most (held_answer what e.done)
      → Over k (held_answer what e.done ++ 10 ∷ []) (exchange_acts (inside log)) → held_unit (inside log) ≡ None
      → all_replies (of c log) ≡ replies → State true (after_read (held_answer what e.done) log)
  read_state k log e fits over held told =
      let answer = held_answer what e.done in
      let bytes = answer ++ 10 ∷ [] in
      let l = over_left k bytes (exchange_acts (inside log)) over in
      let read : List InstrumentAct = Exchanged (ResponseRead (length bytes)) ∷ [] in
      let mine : of c (after_read answer log) ≡ Replied (reply_of answer) ∷ of c log =
      of_own_act c (Replied (reply_of answer))
      (OnDevice (Applied (Exchanged (ResponseRead (length bytes)))) ∷ OnDevice (Waited (LeftCall c)) ∷ log) in
      Gone refl k (unit_end_with_more_acts what base read (inside log) (read ++ inside log) refl e) fits
      (record { left = l.left; done = l.done; overrun = l.overrun; dropped = l.dropped; given = l.given })
      (response_read (exchange_acts (inside log)) (length bytes) ∙ ap (drop (length bytes)) over.shows
      ∙ drop_all (length bytes) bytes (omega arith)) held
      (rw (eq-eqb c c refl) refl, ap all_replies mine ∙ ap (λ (l : List ℕ). l ++ reply_of answer) told)

  shows_resumes : (taken : Bool) (k polled : ℕ) (wait : Wait) (log new : List Act) (e : UnitEnd what base (inside log))
      → OneRead (term_of flags term_char) most (held_answer what e.done)
      → Over k (held_answer what e.done ++ 10 ∷ []) (exchange_acts (inside log))
      → held_unit (inside log) ≡ None → My (At taken) log → taken ≡ true → waits c (wait_acts (device_acts log)) ≡ Some wait
      → new ≡ acts_of c (resume_effect config polled c wait (core_call_in (pending_call (of c log))) (device_acts log)) ++ log
      → link_acts (device_acts log) ≡ links → OthersCannotResume c links (wait_acts (device_acts log)) → reported (inside log) ≡ errors
      → Phase taken new
  shows_resumes false k polled wait log new e fits over held mine was for is linked others codes = absurd cc
  shows_resumes true k polled wait log new e fits over held mine was for is linked others codes =
      let answer = held_answer what e.done in
      let there = is ∙ goes_on polled wait (core_call_in (pending_call (of c log))) answer log fits over.shows
      (some_injective wait ForResponse (sym for ∙ mine.0)) mine.2 in
      subst (Phase true) (sym there) (inl (record {
        state = read_state k log e fits over held mine.3;
        linked = linked;
        others = others_left c limit call replies links c (wait_acts (device_acts log)) others;
        codes = codes;
      }))

  state_resumes : (taken : Bool) (polled : ℕ) (wait : Wait) (log new : List Act) → State taken log
      → link_acts (device_acts log) ≡ links → OthersCannotResume c links (wait_acts (device_acts log)) → reported (inside log) ≡ errors
      → CanResume (device_acts log) c
      → waits c (wait_acts (device_acts log)) ≡ Some wait
      → new ≡ acts_of c (resume_effect config polled c wait (core_call_in (pending_call (of c log))) (device_acts log)) ++ log
      → Phase taken new
  state_resumes taken polled wait log new (Holds left held none since mine) linked others codes able for is =
      let can = (able_reads taken log mine able).1 in
      absurd (let z : true ≡ false = sym can ∙ unanswerable_without_response log none
      (ended_if_two_left message [] (replicate lines []) (exchange_acts (inside log)) left) in cc)
  state_resumes taken polled wait log new (Gave e fits acts same left none held mine) linked others codes able for is =
      let can = (able_reads taken log mine able).1 in
      absurd (let z : true ≡ false = sym can ∙ unanswerable_without_response log (ap response same ∙ none)
      (ap has_ended same ∙ ended_if_two_left message [] (replicate lines []) acts left) in cc)
  state_resumes taken polled wait log new (Shows k e fits over held mine) linked others codes able for is =
      shows_resumes taken k polled wait log new e fits over held mine (able_reads taken log mine able).0 for is linked others codes
  state_resumes taken polled wait log new (Gone was k e fits left none held mine) linked others codes able for is =
      absurd (let z : None ≡ Some wait = sym mine.0 ∙ for in cc)

  live_step : (taken : Bool) (log new : List Act) → Live taken log → IsNext config log new → Phase taken new
  live_step taken log new v (inl (adds, such, is)) =
      let there = happened_by_result adds (Scanned (Trigger Immediate) ∷ []) log new is such.1 in
      inl (subst (Live taken) (sym there) (live_alike taken log _ (alike_scanned c limit call replies links (Trigger Immediate) log) v))
  live_step taken log new v (inr (none, inl (d, wait, polled, oldest, for, said, is))) = elim (cases_eq d c) [
    | inl same ↦ state_resumes taken polled wait log new v.state v.linked v.others v.codes
        (subst (λ (n : ℕ). CanResume (device_acts log) n) same oldest.0)
        (subst (λ (n : ℕ). waits n (wait_acts (device_acts log)) ≡ Some wait) same for)
        (subst (λ (n : ℕ). new
        ≡ acts_of n (resume_effect config polled n wait (core_call_in (pending_call (of n log))) (device_acts log)) ++ log) same is)
    | inr ne ↦ absurd (others_cannot d log ne v.linked v.others oldest.0)
  ]
  live_step taken log new v (inr (none, inr (still, inl step))) = stepped taken log new v.state v.linked v.others v.codes step
  live_step taken log new v (inr (none, inr (still, inr (idle, (d, wait, oldest, for, is))))) = elim (cases_eq d c) [
    | inl same ↦
        let past = state_late taken log v.state
        (subst (λ (n : ℕ). IsExpired (config.clock + ticks (device_acts log)) (wait_acts (device_acts log)) n) same oldest.0) in
        subst (Phase taken) (sym is) (inr (escaped_more
        (acts_of d (failure_effect (late wait) d (core_call_in (pending_call (of d log))))) log (inl past)))
    | inr ne ↦ subst (Phase taken) (sym is) (inl (live_alike taken log _
        (alike_failed c limit call replies links (late wait) d (core_call_in (pending_call (of d log))) log ne) v))
  ]

  pub step_phase : (taken : Bool) (log new : List Act) → Phase taken log → IsNext config log new → Phase taken new
  step_phase taken log new (inl v) next = live_step taken log new v next
  step_phase taken log new (inr escaped) next =
      let more = next_extends config log new next in
      subst (Phase taken) (sym more.1) (inr (escaped_more more.0 log escaped))

  ticked_live : (taken : Bool) (now : ScanState) (log : List Act) → Live taken log
      → Live taken ((map OnDevice (map Applied (where_scanning now)) ++ OnDevice Ticked ∷ []) ++ log)
  ticked_live taken Scanning log v =
      live_alike taken (OnDevice Ticked ∷ log) _ (alike_scanned c limit call replies links Sample (OnDevice Ticked ∷ log))
      (live_alike taken log _ (alike_ticked c limit call replies links log) v)
  ticked_live taken _ log v = live_alike taken log _ (alike_ticked c limit call replies links log) v

  triggered_live : (taken : Bool) (fault : Option Code) (log : List Act) → Live taken log
      → Live taken (map OnDevice (map Applied (or_nothing fault)) ++ log)
  triggered_live taken None log v = live_alike taken log _ (alike_scanned c limit call replies links (Trigger ExternalSource) log) v
  triggered_live taken (Some code) log v = v

  event_live : (taken : Bool) (polled : ℕ) (event : PlainEvent) (log : List Act) → IsQuiet c event → Live taken log
      → Live taken (own_acts config polled event log ++ log)
  event_live taken polled (Open d role) log quiet v =
      live_alike taken log _ (alike_other c limit call replies links d (Opened role) log quiet) v
  event_live taken polled (Bytes d piece) log quiet v = live_alike taken log _ (alike_piece c limit call replies links d piece log) v
  event_live taken polled (Took (Conn d) count) log quiet v = live_alike taken log _ (alike_taken c limit call replies links d count log) v
  event_live taken polled (Took (Intr d) count) log quiet v =
      live_alike taken log _ (alike_channel c limit call replies links (ChannelTaken d count) log) v
  event_live taken polled (Close (Intr d)) log quiet v =
      live_alike taken log _ (alike_channel c limit call replies links (ChannelClosed d) log) v
  event_live taken polled (Input channel microvolts) log quiet v =
      live_alike taken log _ (alike_scanned c limit call replies links (InputTo channel microvolts) log) v
  event_live taken polled External log quiet v = triggered_live taken _ log v
  event_live taken polled Tick log quiet v = ticked_live taken _ log v
  event_live taken polled _ log quiet v = absurd quiet

  event_phase : (taken : Bool) (polled : ℕ) (event : PlainEvent) (log : List Act) → IsQuiet c event → Phase taken log
      → Phase taken (own_acts config polled event log ++ log)
  event_phase taken polled event log quiet (inl v) = inl (event_live taken polled event log quiet v)
  event_phase taken polled event log quiet (inr escaped) = inr (escaped_more (own_acts config polled event log) log escaped)

  pub quiet_phase : (taken : Bool) (past events : List PlainEvent) (was log : List Act) → IsLogOf config past was → Phase taken was
      → AllByRecursion (IsQuiet c) events → IsLogOf config (events ++ past) log → Phase taken log
  quiet_phase taken past [] was log is_was phase quiet is_log = subst (Phase taken) (one_log config past was log is_was is_log) phase
  quiet_phase taken past (event ∷ events) was log is_was phase quiet
      (before, polled, channel_log, is_event, is_before, hears, free, said, settles) =
      settling_keeps config (Phase taken) (step_phase taken) settles.0 (own_acts config polled event before ++ before) log
      (event_phase taken polled event before quiet.0 (quiet_phase taken past events was before is_was phase quiet.1 is_before)) settles.1

  -- If no step is due any more, no message waits to be finished.
  pub unfinished : (log : List Act) → Rested config log → held_unit (inside log) ≡ None → due (exchange_acts (inside log)) ≡ FinishDue → ⊥
  unfinished log rest held finish = rest.steps (OnDevice (Applied (Exchanged Finished)) ∷ log)
      (Exchanged Finished ∷ [], finish_step (inside log) held finish, refl)

  -- If no step is due any more, the unit is held, or the response can be read, or the response was
  -- read.
  pub data Settled (taken : Bool) (log : List Act) : Type 0 where
    StillHolds : Left parts (exchange_acts (inside log)) → held_unit (inside log) ≡ Some what → response (exchange_acts (inside log)) ≡ []
        → Since (inside log) → My (At taken) log → Settled taken log
    StillShows : (e : UnitEnd what base (inside log)) → OneRead (term_of flags term_char) most (held_answer what e.done)
        → Over 0 (held_answer what e.done ++ 10 ∷ []) (exchange_acts (inside log)) → held_unit (inside log) ≡ None → My (At taken) log
        → Settled taken log
    IsGone : taken ≡ true → (e : UnitEnd what base (inside log)) → OneRead (term_of flags term_char) most (held_answer what e.done)
        → Left ([] ∷ []) (exchange_acts (inside log)) → response (exchange_acts (inside log)) ≡ []
        → My (Told (reply_of (held_answer what e.done))) log → Settled taken log

  pub settled_is : (taken : Bool) (log : List Act) → Rested config log → State taken log → Settled taken log
  settled_is taken log rest (Holds left held none since mine) = StillHolds left held none since mine
  settled_is taken log rest (Gave e fits acts is left none held mine) = absurd (unfinished log rest held
      (ap due is ∙ finish_due message [] unit (held_answer what e.done) (replicate lines []) acts left short one))
  settled_is taken log rest (Shows (suc k) e fits over held mine) = absurd (unfinished log rest held
      (empty_due k (held_answer what e.done ++ 10 ∷ []) (exchange_acts (inside log)) over))
  settled_is taken log rest (Shows zero e fits over held mine) = StillShows e fits over held mine
  settled_is taken log rest (Gone was (suc k) e fits left none held mine) =
      absurd (unfinished log rest held (left_due k (exchange_acts (inside log)) left))
  settled_is taken log rest (Gone was zero e fits left none held mine) = IsGone was e fits left none mine
