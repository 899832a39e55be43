-- A query that is asked alone gets its answer, and no error is reported: the law `QueryAlone`.
use Rattle.std.proofs.Common.{◌≡◌, ℕ, true, false, List, [], ◌∷◌, ◌++◌, length, Some, None, refl, sym, ap, subst, ◌∙◌, append_assoc, arith}
use Rattle.std.specs.Prelude.{drop}
use Rattle.std.proofs.lemmas.List.{drop_all}
use Rattle.sv_header.specs.declared.command.Question.{Question}
use Rattle.sv_exchange.specs.Exchange.{ExchangeAct, Accepted, ResponseRead, has_ended, response, is_something, due, NothingDue}
use Rattle.sv_exchange.proofs.Responses.{response_read}
use Rattle.sv_layers.specs.Act.{Act as InstrumentAct, Exchanged, exchange_acts}
use Rattle.sv_instrument.specs.HeldUnit.{held_unit}
use Rattle.sv_instrument.specs.Step.{is_answerable}
use Rattle.sv_links.specs.Links.{LinkAct, owner, holder, is_locked_out}
use Rattle.sv_history.specs.declared.event.Config.{Config}
use Rattle.sv_history.specs.Event.{PlainEvent, Turn}
use Rattle.sv_history.specs.Act.{Act, ConnAct, CallTaken, Replied, On, OnDevice, Applied, of, device_acts, link_acts, wait_acts, instrument_acts}
use Rattle.sv_history.specs.CoreChannel.{term_of}
use Rattle.sv_history.specs.Effect.{result_reply}
use Rattle.sv_history.specs.PolledStatus.{IsPolled}
use Rattle.sv_history.specs.Settling.{SettlesIn, Settles}
use Rattle.sv_history.specs.History.{own_acts, IsLogOf}
use Rattle.sv_history.proofs.Projections.{of_own_act}
use Rattle.sv_laws.specs.QueryAlone.{IsAtRest, AsksAlone, reported, NoneReported, write_reply, read_reply, IsAnswered, QueryAlone}
use Rattle.sv_laws.proofs.OneLog.{one_log, settling_has_one_end, earlier_log}
use Rattle.sv_laws.proofs.EveryLog.Steps.{settled_log_stays}
use Rattle.sv_laws.proofs.Cuts.Written.{log_with_write}
use Rattle.sv_laws.proofs.Cuts.FirstPart.{Resting}
use Rattle.sv_laws.proofs.Alone.Texts.{Left, Over, nothing_due, unended_if_one_left, over_zero_is_at_rest}
use Rattle.sv_laws.proofs.Alone.Steps.{plain_act_keeps_standard, stage_settled}
use Rattle.sv_laws.proofs.Alone.Written.{Ready, Responds, responds}
use Rattle.sv_laws.proofs.Alone.Turns.{IsFree, turn_writes, whole, log_after_read, turn_reads}
use Rattle.sv_links.specs.Waiting.{waits}
use Rattle.sv_laws.specs.Adding.{all_replies}
use Rattle.sv_laws.proofs.EveryLog.EachEvent.{next_call_means_none_suspended, fit_log}
use Rattle.sv_laws.proofs.Alone.Heard.{quiet_heard}
use Rattle.sv_laws.proofs.Alone.Unbegun.{all_executed_is_at_rest}
use Rattle.sv_laws.proofs.Alone.Quiet.{Same, same_start, quiet_same, resting_if_answerable}
use mathlib.Core.Bool.{or-true}

-- ---- a Turn

-- After the log `start`, a Turn of connection `c` isn't refused. The acts of this Turn, and then
-- the steps that are due, lead to `log`.
pub record Turns (c : ℕ) (config : Config) (start log : List Act) : Type 0 where
  pub polled : ℕ
  pub said : IsPolled polled (device_acts start)
  pub settles : Settles config (own_acts config polled (Turn c) start ++ start) log

pub turn_leads_to : (c : ℕ) (config : Config) (past : List PlainEvent) (start log : List Act) → IsLogOf config past start
    → IsLogOf config (Turn c ∷ past) log → Turns c config start log
turn_leads_to c config past start log was is_log =
    let same = one_log config past is_log.0 start is_log.4 was in
    record {
      polled = is_log.1;
      said = subst (λ (l : List Act). IsPolled is_log.1 (device_acts l)) same is_log.7;
      settles = subst (λ (l : List Act). Settles config (own_acts config is_log.1 (Turn c) l ++ l) log) same is_log.8;
    }

pub idle_exchange_is_answerable : (acts : List InstrumentAct) → held_unit acts ≡ None → has_ended (exchange_acts acts) ≡ false
    → is_answerable acts ≡ true
idle_exchange_is_answerable acts held unended = rw (held, unended) (or-true (is_something (response (exchange_acts acts))))

pub told : (c : ℕ) (act : InstrumentAct) (call reply : List ℕ) (log : List Act)
    → of c (On c (Replied reply) ∷ OnDevice (Applied act) ∷ On c (CallTaken call) ∷ log) ≡ Replied reply ∷ CallTaken call ∷ of c log
told c act call reply log = of_own_act c (Replied reply) (OnDevice (Applied act) ∷ On c (CallTaken call) ∷ log)
    ∙ ap (λ (l : List ConnAct). Replied reply ∷ l) (of_own_act c (CallTaken call) log)

module _ (c lid : ℕ) (asked : Question) (sent answer : List ℕ) (most : ℕ) (config : Config) (past between : List PlainEvent)
    (start before log : List Act) (rest : IsAtRest (exchange_acts (instrument_acts (device_acts start))))
    (asks : AsksAlone c lid asked sent answer most config past between start before)
    (is_log : IsLogOf config (Turn c ∷ (between ++ Turn c ∷ past)) log) where
  abbrev base : List InstrumentAct
  base = instrument_acts (device_acts start)

  abbrev bytes : List ℕ
  bytes = answer ++ 10 ∷ []

  -- ---- the write

  at_rest : Left ([] ∷ []) (exchange_acts base) × (held_unit base ≡ None)
  at_rest = all_executed_is_at_rest config past start asks.writes.was rest.text_left

  unended : has_ended (exchange_acts base) ≡ false
  unended = unended_if_one_left [] (exchange_acts base) at_rest.0

  ready : Ready asked sent answer base
  ready = let fits = asks.fits.1 in record {
    left = at_rest.0;
    held = at_rest.1;
    none = rest.none_left;
    query = asks.writes.query_sent;
    can = asks.can;
    says = asks.says;
    short = asks.writes.short;
    fits = omega (arith, fits);
  }

  abbrev written : (log : List Act) × IsLogOf config (Turn c ∷ past) log
  written = earlier_log config between (Turn c ∷ past) before asks.reads.went_on

  abbrev wrote_reply : List ℕ
  wrote_reply = write_reply asks.writes.call.xid sent

  first : Turns c config start written.0
  first = turn_leads_to c config past start written.0 asks.writes.was written.1

  resting : Resting config start
  resting = resting_if_answerable config past start first.polled asks.writes.was unended
      (idle_exchange_is_answerable base at_rest.1 unended) first.said

  abbrev wrote_now : List Act
  wrote_now = log_with_write c asks.writes.call.bytes wrote_reply sent true start

  responding : Responds c config asked answer start wrote_now base
  responding = responds c config asked sent answer start wrote_now base resting ready
      (record { calm = record { links = refl; calls = refl; clock = refl; scans = refl }; is = refl })

  free : IsFree c lid (device_acts start)
  free = record { owns = asks.writes.owns; unlocked = asks.writes.unlocked }

  written_is : written.0 ≡ responding.end
  written_is =
      let own = turn_writes config first.polled c lid asks.writes.io_timeout asks.writes.lock_timeout asks.writes.flags sent start
      asks.writes.call free asks.writes.short
      unended asks.writes.ends in
      let there = subst (λ (l : List Act). Settles config l written.0) own first.settles in
      settling_has_one_end there.0 responding.steps config wrote_now written.0 responding.end there.1 responding.settles

  written_told : of c written.0 ≡ Replied wrote_reply ∷ CallTaken asks.writes.call.bytes ∷ of c start
  written_told = ap (of c) written_is ∙ responding.mine ∙ told c (Exchanged (Accepted sent true)) asks.writes.call.bytes wrote_reply start

  -- ---- before the read

  abbrev now : List InstrumentAct
  now = instrument_acts (device_acts before)

  last_is : instrument_acts (device_acts written.0) ≡ responding.last
  last_is = ap (λ (l : List Act). instrument_acts (device_acts l)) written_is ∙ responding.stage.is

  over_written : Over 0 bytes (exchange_acts (instrument_acts (device_acts written.0)))
  over_written = subst (λ (l : List InstrumentAct). Over 0 bytes (exchange_acts l)) (sym last_is) responding.over

  started : Same (exchange_acts (instrument_acts (device_acts written.0))) (link_acts (device_acts written.0))
      (reported (instrument_acts (device_acts written.0))) written.0
  started = same_start config (Turn c ∷ past) written.0 written.1 (ap held_unit last_is ∙ responding.held)

  none_due : due (exchange_acts (instrument_acts (device_acts written.0))) ≡ NothingDue
  none_due = nothing_due _ (over_zero_is_at_rest bytes _ over_written)

  same : Same (exchange_acts (instrument_acts (device_acts written.0))) (link_acts (device_acts written.0))
      (reported (instrument_acts (device_acts written.0))) before
  same = quiet_same config _ _ _ none_due c (Turn c ∷ past) between written.0 before written.1 started asks.reads.quiet asks.reads.went_on

  no_call : waits c (wait_acts (device_acts written.0)) ≡ None
  no_call = ap (λ (l : List Act). waits c (wait_acts (device_acts l))) written_is ∙ ap (waits c) responding.stage.calm.calls
      ∙ next_call_means_none_suspended c start asks.writes.call.bytes (fit_log config past start asks.writes.was) asks.writes.call.next

  replies_same : all_replies (of c before) ≡ all_replies (of c written.0)
  replies_same = (quiet_heard config _ _ _ none_due c (all_replies (of c written.0)) (Turn c ∷ past) between written.0 before written.1
      (started, (no_call, refl)) asks.reads.quiet asks.reads.went_on).1.1

  links_are : link_acts (device_acts before) ≡ link_acts (device_acts start)
  links_are = same.linked ∙ ap (λ (l : List Act). link_acts (device_acts l)) written_is ∙ responding.stage.calm.links

  over : Over 0 bytes (exchange_acts now)
  over = subst (λ (l : List ExchangeAct). Over 0 bytes l) (sym same.exchange) over_written

  held : held_unit now ≡ None
  held = same.held

  left_now : Left ([] ∷ []) (exchange_acts now)
  left_now = over_zero_is_at_rest bytes (exchange_acts now) over

  -- ---- the read

  second : Turns c config before log
  second = turn_leads_to c config (between ++ Turn c ∷ past) before log asks.reads.went_on is_log

  abbrev reply : List ℕ
  reply = result_reply asks.reads.call.xid (whole most (term_of asks.reads.flags asks.reads.term_char) answer)

  abbrev read_now : List Act
  read_now = log_after_read c asks.reads.call.bytes reply (length bytes) before

  abbrev last : List InstrumentAct
  last = Exchanged (ResponseRead (length bytes)) ∷ now

  resting_now : Resting config before
  resting_now =
      let none = unended_if_one_left [] (exchange_acts now) left_now in
      resting_if_answerable config (between ++ Turn c ∷ past) before second.polled asks.reads.went_on none
      (idle_exchange_is_answerable now held none) second.said

  read_settled : (n : ℕ) → SettlesIn n config read_now log → log ≡ read_now
  read_settled n settles =
      let left : Left ([] ∷ []) (exchange_acts last) =
      record {
        left = left_now.left;
        done = left_now.done;
        overrun = left_now.overrun;
        dropped = left_now.dropped;
        given = left_now.given;
      } in
      settled_log_stays n config read_now log (stage_settled config before read_now last resting_now
      (record { calm = record { links = refl; calls = refl; clock = refl; scans = refl }; is = refl }) held
      (nothing_due (exchange_acts last) left)) settles

  read_is : log ≡ read_now
  read_is =
      let free_now : IsFree c lid (device_acts before) = record {
        owns = ap (λ (l : List LinkAct). owner lid l) links_are ∙ asks.writes.owns;
        unlocked = ap (λ (l : List LinkAct). is_locked_out (holder l) (Some lid)) links_are ∙ asks.writes.unlocked;
      } in
      let own = turn_reads config second.polled c lid most asks.reads.timeout asks.reads.lock_timeout asks.reads.flags
      asks.reads.term_char answer
      before asks.reads.call free_now over.shows asks.fits in
      let there = subst (λ (l : List Act). Settles config l log) own second.settles in
      read_settled there.0 there.1

  read_told : of c log ≡ Replied reply ∷ CallTaken asks.reads.call.bytes ∷ of c before
  read_told = ap (of c) read_is ∙ told c (Exchanged (ResponseRead (length bytes))) asks.reads.call.bytes reply before

  -- ---- after the read

  new_is : instrument_acts (device_acts log) ≡ last
  new_is = ap (λ (l : List Act). instrument_acts (device_acts l)) read_is

  rest_again : IsAtRest (exchange_acts last)
  rest_again = record {
    text_left = left_now.left;
    none_left = response_read (exchange_acts now) (length bytes) ∙ ap (drop (length bytes)) over.shows
        ∙ drop_all (length bytes) bytes (omega arith);
  }

  pub answered_alone : IsAnswered c lid asked sent answer most config past between start before log asks
  answered_alone = record {
    written = written.0;
    is_log = written.1;
    write_told = written_told;
    read_told = read_told;
    rest = subst (λ (l : List InstrumentAct). IsAtRest (exchange_acts l)) (sym new_is) rest_again;
    write_reports = subst (λ (l : List InstrumentAct). NoneReported asked base l) (sym last_is)
        (record { none = responding.codes; errors = responding.queue; standard = responding.stands });
    read_reports = subst (λ (l : List InstrumentAct). NoneReported asked now l) (sym new_is) (record {
      none = refl;
      errors = λ other. refl;
      standard = λ other k. plain_act_keeps_standard k (Exchanged (ResponseRead (length bytes))) now tt;
    });
  }

  -- The two Turns add the reply to the write and the reply to the read to all replies on the
  -- connection, and nothing else.
  pub both_told : all_replies (of c log)
      ≡ all_replies (of c start) ++ (write_reply asks.writes.call.xid sent ++ read_reply asks.reads.call.xid answer most
      (term_of asks.reads.flags asks.reads.term_char))
  both_told =
      let read = read_reply asks.reads.call.xid answer most (term_of asks.reads.flags asks.reads.term_char) in
      ap all_replies answered_alone.read_told ∙ ap (λ (l : List ℕ). l ++ read) replies_same
      ∙ ap (λ (l : List ConnAct). all_replies l ++ read) written_told
      ∙ append_assoc (all_replies (of c start)) (write_reply asks.writes.call.xid sent) read

  -- No error is reported between the write and the end of the read.
  pub no_error : reported (instrument_acts (device_acts log)) ≡ reported base
  no_error = ap reported new_is ∙ same.codes ∙ ap reported last_is ∙ responding.codes

pub query_alone : QueryAlone
query_alone = answered_alone
