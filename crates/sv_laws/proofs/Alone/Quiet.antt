-- While no step of message exchange is due, quiet events change neither message exchange nor the
-- links. While message exchange is at rest, no read or write waits for the device.
use Rattle.std.proofs.Common.{◌≡◌, ℕ, Bool, true, false, List, [], ◌∷◌, ◌++◌, Option, Some, None, refl, sym, ap, subst, ◌∙◌, inl, inr}
use Rattle.std.specs.Prelude.{map, not, ◌==◌, ◌||◌, ◌&&◌}
use Rattle.std.specs.List.{AllByRecursion}
use Rattle.std.proofs.lemmas.Bool.{cases_Bool}
use Rattle.std.proofs.lemmas.List.{append_cancel_right}
use Rattle.sv_errors.specs.declared.code.Code.{Code}
use Rattle.sv_errors.specs.declared.source.Source.TheVariants.{Immediate}
use Rattle.sv_vxi.specs.declared.error_code.ErrorCode.{ErrorCode}
use Rattle.sv_links.specs.declared.waiting.Wait.TheVariants.{Input as ForInput, Response as ForResponse}
use Rattle.sv_links.specs.Links.{LinkAct, holder}
use Rattle.sv_links.specs.Waiting.{WaitAct, Left, waits, IsAble}
use Rattle.sv_scan.specs.declared.acts.ScanAct.TheVariants.{Trigger}
use Rattle.sv_scan.specs.declared.setting.State.{State}
use Rattle.sv_scan.specs.declared.setting.State.TheVariants.{Scanning}
use Rattle.sv_exchange.specs.Exchange.{ExchangeAct, has_ended, response, is_something, due, NothingDue}
use Rattle.sv_layers.specs.declared.change.Awaited.{Awaited}
use Rattle.sv_layers.specs.Act.{Act as InstrumentAct, Scanned}
use Rattle.sv_instrument.specs.HeldUnit.{held_unit}
use Rattle.sv_instrument.specs.Stimulus.{IsFired, where_scanning, or_nothing}
use Rattle.sv_instrument.specs.Step.{is_answerable, is_held}
use Rattle.sv_instrument.proofs.NextStep.{nothing_due}
use Rattle.sv_history.specs.declared.event.Port.TheVariants.{Conn}
use Rattle.sv_history.specs.declared.event.Config.{Config}
use Rattle.sv_history.specs.Event.{PlainEvent, Turn, Refuse, Took, Close, Dialed, External, Tick}
use Rattle.sv_history.specs.Act.{Act, Applied, Ticked, OnDevice, of, device_acts, link_acts, wait_acts, instrument_acts, exchange_acts}
use Rattle.sv_history.specs.Connection.{pending_call}
use Rattle.sv_history.specs.CoreCall.{CoreCall}
use Rattle.sv_history.specs.Request.{core_call_in}
use Rattle.sv_history.specs.Effect.{acts_of}
use Rattle.sv_history.specs.Resuming.{failure_effect, late}
use Rattle.sv_history.specs.Settling.{InstrumentDoes, CanResume, IsNext}
use Rattle.sv_history.specs.PolledStatus.{IsPolled}
use Rattle.sv_history.specs.History.{own_acts, IsLogOf}
use Rattle.sv_laws.specs.Cuts.{NoneWaits}
use Rattle.sv_laws.specs.QueryAlone.{IsQuiet, reported}
use Rattle.sv_laws.proofs.OneLog.{one_log}
use Rattle.sv_laws.proofs.NoneLate.{none_late}
use Rattle.sv_laws.proofs.EveryLog.Steps.{log_settled, settled_is_rested}
use Rattle.sv_laws.proofs.EveryLog.EachEvent.{settling_keeps}
use Rattle.sv_laws.proofs.Cuts.FirstPart.{Resting}

-- ---- while no step of message exchange is due

-- A call that can resume after another call left the queue could also resume before.
pub able_after_leaving_was_able : (holds : Option ℕ) (writes reads : Bool) (c d : ℕ) (acts : List WaitAct)
    → IsAble holds writes reads (Left c ∷ acts) d → IsAble holds writes reads acts d
able_after_leaving_was_able holds writes reads c d acts h = elim (cases_Bool (c == d)) [
  | inl e ↦ absurd (let z : false ≡ true = rw e at h in cc)
  | inr e ↦ rw e at h
]

-- Whether a read can be answered, if no unit is held.
abbrev pub can_read : List ExchangeAct → Bool
can_read acts = is_something (response acts) || (not (is_held None) && not (has_ended acts))

-- The log has these acts of message exchange, these acts on links and these reported errors. No
-- unit is held, and no suspended call can resume.
pub record Same (acts : List ExchangeAct) (links : List LinkAct) (errors : List Code) (log : List Act) : Type 0 where
  pub exchange : exchange_acts (device_acts log) ≡ acts
  pub linked : link_acts (device_acts log) ≡ links
  pub held : held_unit (instrument_acts (device_acts log)) ≡ None
  pub codes : reported (instrument_acts (device_acts log)) ≡ errors
  pub none : (d : ℕ) → IsAble (holder links) (not (has_ended acts)) (can_read acts) (wait_acts (device_acts log)) d → ⊥

pub can_resume_unfolds : (acts : List ExchangeAct) (links : List LinkAct) (log : List Act) → exchange_acts (device_acts log) ≡ acts
    → link_acts (device_acts log) ≡ links → held_unit (instrument_acts (device_acts log)) ≡ None → (d : ℕ)
    → CanResume (device_acts log) d ≡ IsAble (holder links) (not (has_ended acts)) (can_read acts) (wait_acts (device_acts log)) d
can_resume_unfolds acts links log exchange linked held d =
    ap (λ (o : Option Awaited). IsAble (holder (link_acts (device_acts log))) (not (has_ended (exchange_acts (device_acts log))))
    (is_something (response (exchange_acts (device_acts log)))
    || (not (is_held o) && not (has_ended (exchange_acts (device_acts log)))))
    (wait_acts (device_acts log)) d) held
    ∙ ap (λ (l : List LinkAct). IsAble (holder l) (not (has_ended (exchange_acts (device_acts log))))
    (can_read (exchange_acts (device_acts log))) (wait_acts (device_acts log)) d) linked
    ∙ ap (λ (l : List ExchangeAct). IsAble (holder links) (not (has_ended l)) (can_read l) (wait_acts (device_acts log)) d) exchange

pub same_start : (config : Config) (history : List PlainEvent) (log : List Act) → IsLogOf config history log
    → held_unit (instrument_acts (device_acts log)) ≡ None
    → Same (exchange_acts (device_acts log)) (link_acts (device_acts log)) (reported (instrument_acts (device_acts log))) log
same_start config history log is_log held = record {
  exchange = refl;
  linked = refl;
  held = held;
  codes = refl;
  none = λ d able. (none_late config history log d is_log).1
      (subst (λ (T : Type 0). T) (sym (can_resume_unfolds _ _ log refl refl held d)) able);
}

module _ (config : Config) (acts : List ExchangeAct) (links : List LinkAct) (errors : List Code) (nothing : due acts ≡ NothingDue) (c : ℕ)
  where
    pub fired : (log new : List Act) → Same acts links errors log → InstrumentDoes IsFired log new → Same acts links errors new
    fired log new s (adds, such, is) =
        let one : adds ≡ Scanned (Trigger Immediate) ∷ [] =
        append_cancel_right adds (Scanned (Trigger Immediate) ∷ []) (instrument_acts (device_acts log)) such.1 in
        let there : new ≡ OnDevice (Applied (Scanned (Trigger Immediate))) ∷ log =
        is ∙ ap (λ (l : List InstrumentAct). map OnDevice (map Applied l) ++ log) one in
        subst (Same acts links errors) (sym there)
        (record { exchange = s.exchange; linked = s.linked; held = s.held; codes = s.codes; none = s.none })

    timed_out : (error : ErrorCode) (d : ℕ) (call : Option CoreCall) (log : List Act) → Same acts links errors log
        → Same acts links errors (acts_of d (failure_effect error d call) ++ log)
    timed_out error d (Some call) log s = record {
      exchange = s.exchange;
      linked = s.linked;
      held = s.held;
      codes = s.codes;
      none = λ e able. s.none e
          (able_after_leaving_was_able (holder links) (not (has_ended acts)) (can_read acts) d e (wait_acts (device_acts log)) able);
    }
    timed_out error d None log s = record {
      exchange = s.exchange;
      linked = s.linked;
      held = s.held;
      codes = s.codes;
      none = λ e able. s.none e
          (able_after_leaving_was_able (holder links) (not (has_ended acts)) (can_read acts) d e (wait_acts (device_acts log)) able);
    }

    pub step_same : (log new : List Act) → Same acts links errors log → IsNext config log new → Same acts links errors new
    step_same log new s (inl fires) = fired log new s fires
    step_same log new s (inr (none, inl (d, wait, polled, oldest, for, said, is))) = absurd (s.none d
        (subst (λ (T : Type 0). T) (can_resume_unfolds acts links log s.exchange s.linked s.held d) oldest.0))
    step_same log new s (inr (none, inr (still, inl (adds, step, is)))) =
        absurd (nothing_due (instrument_acts (device_acts log)) (adds ++ instrument_acts (device_acts log)) (sym s.held)
        (sym nothing ∙ ap due (sym s.exchange)) step)
    step_same log new s (inr (none, inr (still, inr (idle, (d, wait, oldest, for, is))))) =
        subst (Same acts links errors) (sym is) (timed_out (late wait) d (core_call_in (pending_call (of d log))) log s)

    ticked : (now : State) (log : List Act) → Same acts links errors log
        → Same acts links errors ((map OnDevice (map Applied (where_scanning now)) ++ OnDevice Ticked ∷ []) ++ log)
    ticked Scanning log s = record { exchange = s.exchange; linked = s.linked; held = s.held; codes = s.codes; none = s.none }
    ticked _ log s = record { exchange = s.exchange; linked = s.linked; held = s.held; codes = s.codes; none = s.none }

    triggered : (fault : Option Code) (log : List Act) → Same acts links errors log
        → Same acts links errors (map OnDevice (map Applied (or_nothing fault)) ++ log)
    triggered None log s = record { exchange = s.exchange; linked = s.linked; held = s.held; codes = s.codes; none = s.none }
    triggered (Some code) log s = s

    pub event_same : (polled : ℕ) (event : PlainEvent) (log : List Act) → IsQuiet c event → Same acts links errors log
        → Same acts links errors (own_acts config polled event log ++ log)
    event_same polled (Turn d) log quiet s = absurd quiet
    event_same polled (Refuse d) log quiet s = absurd quiet
    event_same polled (Close (Conn d)) log quiet s = absurd quiet
    event_same polled (Dialed d ok) log quiet s = absurd quiet
    event_same polled External log quiet s = triggered _ log s
    event_same polled Tick log quiet s = ticked _ log s
    event_same polled (Took (Conn d) count) log quiet s = record
        { exchange = s.exchange; linked = s.linked; held = s.held; codes = s.codes; none = s.none }
    event_same polled _ log quiet s = record { exchange = s.exchange; linked = s.linked; held = s.held; codes = s.codes; none = s.none }

    pub quiet_same : (past events : List PlainEvent) (was log : List Act) → IsLogOf config past was → Same acts links errors was
        → AllByRecursion (IsQuiet c) events → IsLogOf config (events ++ past) log → Same acts links errors log
    quiet_same past [] was log is_was s quiet is_log = subst (Same acts links errors) (one_log config past was log is_was is_log) s
    quiet_same past (event ∷ events) was log is_was s quiet (before, polled, channel_log, is_event, is_before, hears, free, said, settles) =
        settling_keeps config (Same acts links errors) step_same settles.0 (own_acts config polled event before ++ before) log
        (event_same polled event before quiet.0 (quiet_same past events was before is_was s quiet.1 is_before)) settles.1

-- ---- no call waits for the device

none_waits : (config : Config) (history : List PlainEvent) (log : List Act) → IsLogOf config history log
    → has_ended (exchange_acts (device_acts log)) ≡ false → is_answerable (instrument_acts (device_acts log)) ≡ true
    → NoneWaits (wait_acts (device_acts log))
none_waits config history log is_log unended can = λ d. (
  (λ e. (none_late config history log d is_log).1 (able_write d e)),
  (λ e. (none_late config history log d is_log).1 (able_read d e)),
)
  where
    able_write : (d : ℕ) → waits d (wait_acts (device_acts log)) ≡ Some ForInput → CanResume (device_acts log) d
    able_write d e = rw (e, unended) refl

    able_read : (d : ℕ) → waits d (wait_acts (device_acts log)) ≡ Some ForResponse → CanResume (device_acts log) d
    able_read d e = rw e can

pub resting_if_answerable : (config : Config) (history : List PlainEvent) (log : List Act) (polled : ℕ) → IsLogOf config history log
    → has_ended (exchange_acts (device_acts log)) ≡ false → is_answerable (instrument_acts (device_acts log)) ≡ true
    → IsPolled polled (device_acts log) → Resting config log
resting_if_answerable config history log polled is_log unended can said = record {
  rests = settled_is_rested config log (log_settled config history log is_log);
  none = none_waits config history log is_log unended can;
  polled = polled;
  said = said;
}
