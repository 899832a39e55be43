-- The clock counts the Ticks of a history, and a Tick is refused only if the clock has its greatest
-- value.
use Rattle.std.proofs.Common.{◌≡◌, ℕ, ◌+◌, Bool, true, false, cond, eqb, List, [], ◌∷◌, length, filter, Some, refl, sym, ap, ◌∙◌, arith, eq-eqb}
use Rattle.std.specs.Prelude.{Result, Ok, Err}
use Rattle.std.proofs.lemmas.Bool.{ne_eqb}
use Rattle.sv_scan.specs.Condition.{bit}
use Rattle.sv_links.specs.Channels.{ChannelAct}
use Rattle.sv_instrument.specs.Stimulus.{tick_acts}
use Rattle.sv_history.specs.declared.event.Config.{Config}
use Rattle.sv_history.specs.declared.event.Did.{Did}
use Rattle.sv_history.specs.declared.event.Refused.{Refused}
use Rattle.sv_history.specs.declared.event.Refused.TheVariants.{TimeOver}
use Rattle.sv_history.specs.Event.{PlainEvent, Tick}
use Rattle.sv_history.specs.Act.{Act, device_acts, instrument_acts, ticks}
use Rattle.sv_history.specs.History.{refusal, last_clock, history_after, IsLogOf, AnswersBy}
use Rattle.sv_laws.proofs.Brought.{is_tick, TicksTaken}
use Rattle.sv_laws.proofs.OnlyRequests.{ticks_after_event}
use Rattle.sv_laws.proofs.NothingLost.{done_if_not_refused, tick_needs_no_memory}
use Rattle.sv_laws.proofs.Facts.{none_is_not_some}

length_of_cond_cons : (b : Bool) (event : PlainEvent) (events : List PlainEvent)
    → length (cond b (event ∷ events) events) ≡ length events + bit 0 b
length_of_cond_cons true event events = omega arith
length_of_cond_cons false event events = omega arith

pub ticks_count : (config : Config) (history : List PlainEvent) (log : List Act) → IsLogOf config history log
    → ticks (device_acts log) ≡ length (filter is_tick history)
ticks_count config [] log (given, none) = ap (λ (l : List Act). ticks (device_acts l)) none
ticks_count config (event ∷ history) log is =
    ticks_after_event config event is.1 is.0 log is.8.0 is.8.1
    ∙ ap (λ (n : ℕ). n + bit 0 (is_tick event)) (ticks_count config history is.0 is.4)
    ∙ sym (length_of_cond_cons (is_tick event) event (filter is_tick history))

refused_at_last_clock : (config : Config) (channel_log : List ChannelAct) (log : List Act) (history : List PlainEvent)
    (result : Result Did Refused)
    → refusal config channel_log Tick log ≡ Some TimeOver → AnswersBy config channel_log Tick log result
    → history_after Tick result history ≡ history
refused_at_last_clock config channel_log log history (Ok what) full h = none_is_not_some _ TimeOver h.0 full
refused_at_last_clock config channel_log log history (Err refused) full h = refl

pub ticks_taken : TicksTaken
ticks_taken config history log result was (channel_log, hears, h) =
    let count = ticks_count config history log was in (
      (λ lt.
          let ne : eqb (config.clock + ticks (device_acts log)) last_clock ≡ false =
          ne_eqb (config.clock + ticks (device_acts log)) last_clock (λ e. absurd (omega (arith, lt, count, e))) in
          done_if_not_refused config channel_log Tick log result (rw ne refl) refl
          (λ polled. tick_needs_no_memory (tick_acts (instrument_acts (device_acts log)))) h),
      (λ full.
          let same : eqb (config.clock + ticks (device_acts log)) last_clock ≡ true =
          eq-eqb (config.clock + ticks (device_acts log)) last_clock (ap (λ (n : ℕ). config.clock + n) count ∙ full) in
          refused_at_last_clock config channel_log log history result (rw same refl) h),
    )
