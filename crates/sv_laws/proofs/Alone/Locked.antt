-- While a link holds the lock, the laws about queries on its connection hold whatever other
-- connections do.
use Rattle.std.proofs.Common.{◌≡◌, ℕ, List, [], ◌∷◌, ◌++◌, Option, refl, sym, ap, subst, ◌∙◌, append_assoc}
use Rattle.sv_layers.specs.Act.{Act as InstrumentAct, exchange_acts as exchanged}
use Rattle.sv_history.specs.declared.event.Config.{Config}
use Rattle.sv_history.specs.Event.{PlainEvent, Turn}
use Rattle.sv_history.specs.Act.{Act, of, device_acts, instrument_acts}
use Rattle.sv_history.specs.CoreChannel.{term_of}
use Rattle.sv_history.specs.History.{IsLogOf}
use Rattle.sv_laws.specs.Adding.{all_replies}
use Rattle.sv_laws.specs.Isolation.{own_events, IsLocked}
use Rattle.sv_laws.specs.QueryAlone.{IsAtRest, IsTold, reported, query_errors, held_answer, QueryLocked, HeldLocked, NoQueryErrorLocked}
use Rattle.sv_laws.proofs.OneLog.{one_log}
use Rattle.sv_laws.proofs.Isolation.Isolated.{own_events_alone}
use Rattle.sv_laws.proofs.Alone.Asked.{query_alone, both_told, no_error}
use Rattle.sv_laws.proofs.Alone.Held.{held_alone}
use Rattle.sv_laws.proofs.Alone.Rounds.{rounds_keep_rest}

-- The connection and the instrument have the same acts after all events as after the connection's
-- own events alone.
same_acts_as_alone : (c lid : ℕ) (config : Config) (past events : List PlainEvent) (log : List Act) → IsLocked c lid config past events
    → IsLogOf config (events ++ past) log
    → (other : List Act) × IsLogOf config (own_events c events ++ past) other × (of c log ≡ of c other)
    × (instrument_acts (device_acts log) ≡ instrument_acts (device_acts other))
same_acts_as_alone c lid config past events log locked is_log =
    let same = one_log config (events ++ past) locked.log log locked.is_log is_log in
    let alone = own_events_alone c lid config past events events locked [] locked.log refl locked.left_alone locked.is_log in
    let both = subst (λ (l : List Act). (of c l ≡ of c alone.other)
    × (instrument_acts (device_acts l) ≡ instrument_acts (device_acts alone.other))) same
    (alone.pair.own, alone.pair.view.instrument) in
    (alone.other, alone.is_log, both.0, both.1)

-- Whether `IsTold` holds of a log depends only on the acts of the connection and of the instrument.
told_by_same_acts : (c : ℕ) (sent answer : List ℕ) (most : ℕ) (term : Option ℕ) (write_xid read_xid : ℕ) (start log other : List Act)
    → of c log ≡ of c other → instrument_acts (device_acts log) ≡ instrument_acts (device_acts other)
    → IsTold c sent answer most term write_xid read_xid start other → IsTold c sent answer most term write_xid read_xid start log
told_by_same_acts c sent answer most term write_xid read_xid start log other own instrument told = record {
  told = ap all_replies own ∙ told.told;
  rest = subst (λ (acts : List InstrumentAct). IsAtRest (exchanged acts)) (sym instrument) told.rest;
  none = ap reported instrument ∙ told.none;
}

pub query_locked : QueryLocked
query_locked c lid asked sent answer most config past between events start before log rest asks locked own is_log =
    let is : own_events c events ++ past ≡ Turn c ∷ (between ++ Turn c ∷ past) =
    ap (λ (l : List PlainEvent). l ++ past) own ∙ ap (λ (l : List PlainEvent). Turn c ∷ l) (append_assoc between (Turn c ∷ []) past) in
    let (other, alone, mine, instrument) = same_acts_as_alone c lid config past events log locked is_log in
    let there = subst (λ (l : List PlainEvent). IsLogOf config l other) is alone in
    told_by_same_acts c sent answer most (term_of asks.reads.flags asks.reads.term_char) asks.writes.call.xid asks.reads.call.xid start log
    other
    mine instrument (record {
      told = both_told c lid asked sent answer most config past between start before other rest asks there;
      rest = (query_alone c lid asked sent answer most config past between start before other rest asks there).rest;
      none = no_error c lid asked sent answer most config past between start before other rest asks there;
    })

pub held_locked : HeldLocked
held_locked c lid query what sent most config past between later events start before alone_log log rest asks idle locked own is_log =
    let is : own_events c events ++ past ≡ later ++ Turn c ∷ (between ++ Turn c ∷ past) =
    ap (λ (l : List PlainEvent). l ++ past) own ∙ append_assoc later (Turn c ∷ (between ++ Turn c ∷ [])) past
    ∙ ap (λ (l : List PlainEvent). later ++ Turn c ∷ l) (append_assoc between (Turn c ∷ []) past) in
    let (other, alone, mine, instrument) = same_acts_as_alone c lid config past events log locked is_log in
    let same : other ≡ alone_log = one_log config (own_events c events ++ past) other alone_log alone
    (subst (λ (l : List PlainEvent). IsLogOf config l alone_log) (sym is) asks.is_log) in
    let so = held_alone c lid query what sent most config past between later start before alone_log rest asks idle in
    let on : instrument_acts (device_acts log) ≡ instrument_acts (device_acts alone_log) =
    instrument ∙ ap (λ (l : List Act). instrument_acts (device_acts l)) same in
    record {
      end = record {
        done = so.end.done;
        newer = so.end.newer;
        more = so.end.more;
        within = on ∙ so.end.within;
        since = so.end.since;
        began = so.end.began;
        held = so.end.held;
        idle = so.end.idle;
      };
      told = λ fits. told_by_same_acts c sent (held_answer what so.end.done) most (term_of asks.reads.flags asks.reads.term_char)
          asks.writes.call.xid asks.reads.call.xid start log alone_log (mine ∙ ap (of c) same) on (so.told fits);
    }

pub rounds_locked : NoQueryErrorLocked
rounds_locked c lid config past events start log is_start rest locked own is_log =
    let (other, alone, mine, instrument) = same_acts_as_alone c lid config past events log locked is_log in
    let so = rounds_keep_rest c lid config past (own_events c events ++ past) start other is_start rest own alone in (
      subst (λ (acts : List InstrumentAct). IsAtRest (exchanged acts)) (sym instrument) so.0,
      ap query_errors instrument ∙ so.1,
    )
