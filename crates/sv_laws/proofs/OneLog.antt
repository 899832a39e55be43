-- For each history, at most one list of acts is its log.
use Rattle.std.proofs.Common.{◌≡◌, ℕ, zero, suc, List, [], ◌∷◌, ◌++◌, sym, ap, ◌∙◌, subst}
use Rattle.sv_layers.specs.StatusByte.{PolledBit}
use Rattle.sv_layers.proofs.PolledByte.{one_word}
use Rattle.sv_links.specs.Channels.{ChannelAct}
use Rattle.sv_history.specs.declared.event.Config.{Config}
use Rattle.sv_history.specs.declared.event.Port.{Port}
use Rattle.sv_history.specs.Event.{PlainEvent}
use Rattle.sv_history.specs.Requests.{HearsOf}
use Rattle.sv_laws.specs.Adding.{all_sent, Sends}
use Rattle.sv_history.specs.Act.{Act, device_acts, instrument_acts}
use Rattle.sv_history.specs.PolledStatus.{IsPolled}
use Rattle.sv_history.specs.Settling.{SettlesIn, Settles}
use Rattle.sv_history.specs.History.{own_acts, IsLogOf}
use Rattle.sv_laws.specs.Laws.{OneLog}
use Rattle.sv_history.proofs.OneStep.{next_step_unique}

pub settling_has_one_end : (n m : ℕ) (config : Config) (log a b : List Act) → SettlesIn n config log a → SettlesIn m config log b → a ≡ b
settling_has_one_end zero zero config log a b x y = x.1 ∙ sym y.1
settling_has_one_end zero (suc m) config log a b x y = absurd (x.0 y.0 y.1)
settling_has_one_end (suc n) zero config log a b x y = absurd (y.0 x.0 x.1)
settling_has_one_end (suc n) (suc m) config log a b x y =
    let same = next_step_unique config log x.0 y.0 x.1 y.1 in settling_has_one_end n m config y.0 a b (rw same at x.2) y.2

pub one_log : OneLog
one_log config [] a b x y = x.1 ∙ sym y.1
one_log config (event ∷ history) a b x y =
    let before = one_log config history x.0 y.0 x.4 y.4 in
    let said = subst (λ (log : List Act). IsPolled y.1 (device_acts log)) (sym before) y.7 in
    let polled = one_word (λ k. PolledBit k (instrument_acts (device_acts x.0))) y.1 x.1 said x.7 in
    let there = subst (λ (log : List Act). Settles config (own_acts config y.1 event log ++ log) b) (sym before) y.8 in
    let settled = subst (λ (word : ℕ). Settles config (own_acts config word event x.0 ++ x.0) b) polled there in
    settling_has_one_end x.8.0 settled.0 config (own_acts config x.1 event x.0 ++ x.0) a b x.8.1 settled.1

-- If the logs of two histories give the same bytes on a port, the second history sends what the
-- first sends.
pub sends_in_other_history : (port : Port) (config : Config) (history other : List PlainEvent) (log also : List Act) (bytes : List ℕ)
    → IsLogOf config history log → IsLogOf config other also
    → ((channel_log : List ChannelAct) → HearsOf (device_acts log) channel_log → (heard : List ChannelAct)
    × HearsOf (device_acts also) heard × (all_sent port channel_log log ≡ all_sent port heard also))
    → Sends port config history bytes → Sends port config other bytes
sends_in_other_history port config history other log also bytes x y moves (found, channel_log, is_log, hears, sent) =
    let same : found ≡ log = one_log config history found log is_log x in
    let so = moves channel_log (subst (λ (l : List Act). HearsOf (device_acts l) channel_log) same hears) in
    (also, so.0, y, so.1, sent ∙ ap (λ (l : List Act). all_sent port channel_log l) same ∙ so.2)

-- If a history has a log, then each earlier part of the history has a log too.
pub earlier_log : (config : Config) (events past : List PlainEvent) (log : List Act) → IsLogOf config (events ++ past) log
    → (was : List Act) × IsLogOf config past was
earlier_log config [] past log is_log = (log, is_log)
earlier_log config (event ∷ events) past log is_log = earlier_log config events past is_log.0 is_log.4
