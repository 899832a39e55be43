-- A property that the empty log has, and that each event's own acts and each step keep, holds for
-- the log of every history.
use Rattle.std.proofs.Common.{◌≡◌, ℕ, List, [], ◌∷◌, ◌++◌, Option, Some, None, refl}
use Rattle.sv_links.specs.Waiting.{IsOldest}
use Rattle.sv_links.specs.Channels.{ChannelAct}
use Rattle.sv_history.specs.declared.event.Config.{Config}
use Rattle.sv_history.specs.Event.{PlainEvent}
use Rattle.sv_history.specs.Act.{Act, device_acts, wait_acts}
use Rattle.sv_history.specs.Settling.{CanResume, Resumes, IsNext}
use Rattle.sv_history.specs.History.{own_acts, refusal, IsLogOf}
use Rattle.sv_history.proofs.AlwaysTold.{polled_byte_exists}
use Rattle.sv_laws.proofs.NoneLate.{oldest_resumable, resumable_call_waits}
use Rattle.sv_laws.proofs.EveryLog.Fit.{Fit, AllSuit}
use Rattle.sv_laws.proofs.EveryLog.EachEvent.{settling_keeps, fit_event, fit_log, fit_step}

-- An event's own acts, which follow the log of a history, keep the property.
abbrev pub EventsKeep : Config → (List Act → Type 0) → Type 0
EventsKeep config IsSo = (history : List PlainEvent) (event : PlainEvent) (polled : ℕ) (channel_log : List ChannelAct) (log : List Act)
    → IsLogOf config history log → refusal config channel_log event log ≡ None → Fit log → IsSo log
    → IsSo (own_acts config polled event log ++ log)

-- Each step keeps the property.
abbrev pub EachStepKeeps : Config → (List Act → Type 0) → Type 0
EachStepKeeps config IsSo = (log new : List Act) → Fit log → IsSo log → IsNext config log new → IsSo new

abbrev Both : (List Act → Type 0) → List Act → Type 0
Both IsSo log = Fit log × IsSo log

pub each_place : (config : Config) (IsSo : List Act → Type 0) → IsSo [] → EventsKeep config IsSo → EachStepKeeps config IsSo
    → (history : List PlainEvent) (log : List Act) → IsLogOf config history log → IsSo log
each_place config IsSo empty event step [] log (given, none) = rw none empty
each_place config IsSo empty event step (one ∷ history) log (before, polled, channel_log, is_event, was, hears, free, said, settles) =
    let fit = fit_log config history before was in
    let so = each_place config IsSo empty event step history before was in
    (settling_keeps config (Both IsSo) (λ log new both next. (fit_step config log new both.0 next, step log new both.0 both.1 next))
    settles.0 (own_acts config polled one before ++ before) log
    (fit_event config one polled channel_log before free fit, event history one polled channel_log before was free fit so) settles.1).1

-- If no step resumes a call, no suspended call can resume.
pub none_resumes : (config : Config) (log : List Act) → AllSuit (device_acts log) → ((new : List Act) → Resumes config log new → ⊥)
    → (c : ℕ) → CanResume (device_acts log) c → ⊥
none_resumes config log suits still c able = let found = oldest_resumable (device_acts log) suits in by found.0 found.1
  where
    by : (found : Option ℕ) → IsOldest (wait_acts (device_acts log)) (CanResume (device_acts log)) found → ⊥
    by None oldest = oldest c able
    by (Some d) oldest =
        let for = resumable_call_waits (device_acts log) d oldest.0 in
        let polled = polled_byte_exists (device_acts log) in
        still _ (d, for.0, polled.0, oldest, for.1, polled.1, refl)
