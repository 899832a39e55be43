-- Between two events no suspended call is past its deadline, and none can resume.
use Rattle.std.proofs.Common.{◌≡◌, ℕ, ◌+◌, ◌<◌, Bool, true, List, Option, Some, None, refl}
use Rattle.std.specs.Prelude.{not}
use Rattle.sv_links.specs.declared.waiting.Wait.{Wait}
use Rattle.sv_links.specs.Links.{holder}
use Rattle.sv_links.specs.Waiting.{waits, link, is_there, IsExpired, IsOldest}
use Rattle.sv_exchange.specs.Exchange.{has_ended}
use Rattle.sv_instrument.specs.Step.{is_answerable}
use Rattle.sv_history.specs.declared.event.Config.{Config}
use Rattle.sv_history.specs.Act.{Act, DeviceAct, device_acts, link_acts, wait_acts, instrument_acts, exchange_acts, ticks}
use Rattle.sv_history.specs.Settling.{CanResume, IsSettled}
use Rattle.sv_laws.specs.Laws.{NoneLate}
use Rattle.sv_history.proofs.AlwaysTold.{polled_byte_exists}
use Rattle.sv_laws.proofs.EveryLog.Fit.{AllSuit}
use Rattle.sv_laws.proofs.EveryLog.Known.{suspended_below_16}
use Rattle.sv_laws.proofs.EveryLog.Due.{Least, least_exists, oldest_expired_exists}
use Rattle.sv_laws.proofs.EveryLog.EachEvent.{fit_log}
use Rattle.sv_laws.proofs.EveryLog.Steps.{log_settled, settled_is_rested}
use Rattle.sv_laws.proofs.Facts.{true_is_not_false}

-- ---- the oldest suspended call that can resume

abbrev can_resume : List DeviceAct → ℕ → Bool
can_resume acts d = is_there (holder (link_acts acts)) (not (has_ended (exchange_acts acts))) (is_answerable (instrument_acts acts))
    (link d (wait_acts acts)) (waits d (wait_acts acts))

is_there_waits : (h : Option ℕ) (w r : Bool) (named : Option ℕ) (found : Option Wait) → is_there h w r named found ≡ true
    → (wait : Wait) × (found ≡ Some wait)
is_there_waits h w r named (Some wait) e = (wait, refl)
is_there_waits h w r named None e = absurd cc

pub resumable_call_waits : (acts : List DeviceAct) (d : ℕ) → CanResume acts d → (wait : Wait) × (waits d (wait_acts acts) ≡ Some wait)
resumable_call_waits acts d such = is_there_waits (holder (link_acts acts)) (not (has_ended (exchange_acts acts)))
    (is_answerable (instrument_acts acts)) (link d (wait_acts acts)) (waits d (wait_acts acts)) such

resumable_call_below_16 : (acts : List DeviceAct) → AllSuit acts → (d : ℕ) → CanResume acts d → d < 16
resumable_call_below_16 acts all d such = let for = resumable_call_waits acts d such in suspended_below_16 acts all d for.0 for.1

going_by : (acts : List DeviceAct) → AllSuit acts → (found : Option ℕ) → Least (wait_acts acts) (can_resume acts) 16 found
    → IsOldest (wait_acts acts) (CanResume acts) found
going_by acts all None h = λ d such. true_is_not_false (can_resume acts d) such (h d (resumable_call_below_16 acts all d such))
going_by acts all (Some c) h = (h.0, λ d such. h.1 d (resumable_call_below_16 acts all d such) such)

pub oldest_resumable : (acts : List DeviceAct) → AllSuit acts → (found : Option ℕ) × IsOldest (wait_acts acts) (CanResume acts) found
oldest_resumable acts all =
    let first = least_exists (wait_acts acts) (can_resume acts) 16 in (first.0, going_by acts all first.0 first.1)

-- ---- no suspended call is past its deadline or can resume

none_expired : (config : Config) (log : List Act) → IsSettled config log → (found : Option ℕ)
    → IsOldest (wait_acts (device_acts log)) (IsExpired (config.clock + ticks (device_acts log)) (wait_acts (device_acts log))) found
    → (c : ℕ) → IsExpired (config.clock + ticks (device_acts log)) (wait_acts (device_acts log)) c → ⊥
none_expired config log none None oldest c h = oldest c h
none_expired config log none (Some d) oldest c h = (settled_is_rested config log none).times _ (d, oldest.0.0, oldest, oldest.0.2, refl)

none_resumable : (config : Config) (log : List Act) → IsSettled config log → (found : Option ℕ)
    → IsOldest (wait_acts (device_acts log)) (CanResume (device_acts log)) found → (c : ℕ) → CanResume (device_acts log) c → ⊥
none_resumable config log none None oldest c h = oldest c h
none_resumable config log none (Some d) oldest c h =
    let for = resumable_call_waits (device_acts log) d oldest.0 in
    let polled = polled_byte_exists (device_acts log) in
    (settled_is_rested config log none).resumes _ (d, for.0, polled.0, oldest, for.1, polled.1, refl)

pub none_late : NoneLate
none_late config history log c was =
    let none = log_settled config history log was in
    let all = (fit_log config history log was).suits in
    let due = oldest_expired_exists (config.clock + ticks (device_acts log)) (device_acts log) all in
    let going = oldest_resumable (device_acts log) all in
    (none_expired config log none due.0 due.1 c, none_resumable config log none going.0 going.1 c)
