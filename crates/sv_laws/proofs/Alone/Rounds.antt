-- Rounds of commands, and of queries whose response is read, report no query error: the law
-- `NoQueryError`.
use Rattle.std.proofs.Common.{◌≡◌, ℕ, List, [], ◌∷◌, ◌++◌, refl, sym, ap, subst, ◌∙◌}
use Rattle.std.specs.Prelude.{filter}
use Rattle.sv_errors.specs.declared.code.Code.{Code}
use Rattle.sv_history.specs.declared.event.Config.{Config}
use Rattle.sv_history.specs.Event.{PlainEvent, Turn}
use Rattle.sv_history.specs.Act.{Act, device_acts, instrument_acts, exchange_acts}
use Rattle.sv_history.specs.History.{IsLogOf}
use Rattle.sv_laws.specs.QueryAlone.{IsAtRest, IsQuiet, Rounds, Start, Quiet, Command, Asked, Held, is_query_error, query_errors, NoQueryError}
use Rattle.sv_laws.proofs.OneLog.{one_log}
use Rattle.sv_laws.proofs.Alone.Texts.{nothing_due}
use Rattle.sv_laws.proofs.Alone.Unbegun.{all_executed_is_at_rest}
use Rattle.sv_laws.proofs.Alone.Quiet.{same_start, quiet_same}
use Rattle.sv_laws.proofs.Alone.Asked.{query_alone, no_error}
use Rattle.sv_laws.proofs.Alone.Held.{held_alone}
use Rattle.sv_laws.proofs.Alone.Commands.{command_alone}

-- Message exchange is at rest, and exactly these query errors were reported.
abbrev RestsWithErrors : List Code → List Act → Type 0
RestsWithErrors errors log = IsAtRest (exchange_acts (device_acts log)) × (query_errors (instrument_acts (device_acts log)) ≡ errors)

quiet_event_keeps_rest : (c : ℕ) (config : Config) (event : PlainEvent) (history : List PlainEvent) (errors : List Code)
    (was log : List Act)
    → IsQuiet c event
    → IsLogOf config history was → RestsWithErrors errors was → IsLogOf config (event ∷ history) log → RestsWithErrors errors log
quiet_event_keeps_rest c config event history errors was log quiet is_was (rest, codes) is_log =
    let still = all_executed_is_at_rest config history was is_was rest.text_left in
    let same = quiet_same config _ _ _ (nothing_due (exchange_acts (device_acts was)) still.0) c history (event ∷ []) was log is_was
    (same_start config history was is_was still.1) (quiet, tt) is_log in
    (subst IsAtRest (sym same.exchange) rest, ap (filter is_query_error) same.codes ∙ codes)

pub rounds_keep_rest : (c lid : ℕ) (config : Config) (past history : List PlainEvent) (start log : List Act) → IsLogOf config past start
    → IsAtRest (exchange_acts (device_acts start)) → Rounds c lid config past history → IsLogOf config history log
    → RestsWithErrors (query_errors (instrument_acts (device_acts start))) log
rounds_keep_rest c lid config past history start log is_start rest Start is_log =
    subst (RestsWithErrors (query_errors (instrument_acts (device_acts start)))) (one_log config past start log is_start is_log)
    (rest, refl)
rounds_keep_rest c lid config past history start log is_start rest (Quiet {history = before} event quiet more) is_log =
    quiet_event_keeps_rest c config event before _ is_log.0 log quiet is_log.4
    (rounds_keep_rest c lid config past before start is_log.0 is_start rest more is_log.4) is_log
rounds_keep_rest c lid config past history start log is_start rest (Command {history = older} command sent was is writes more) is_log =
    let so = rounds_keep_rest c lid config past older start was is_start rest more writes.was in
    let done = command_alone c lid command sent config older was log is so.0 writes is_log in
    (done.0, done.1 ∙ so.1)
rounds_keep_rest c lid config past history start log is_start rest
    (Asked {history = older} asked sent answer most between was before asks more)
    is_log =
    let so = rounds_keep_rest c lid config past older start was is_start rest more asks.writes.was in
    let answered = query_alone c lid asked sent answer most config older between was before log so.0 asks is_log in (
      answered.rest,
      ap (filter is_query_error) (no_error c lid asked sent answer most config older between was before log so.0 asks
          is_log) ∙ so.1,
    )
rounds_keep_rest c lid config past history start log is_start rest
    (Held {history = older} query what sent most between later was before last asks
    idle fits more) is_log =
    let so = rounds_keep_rest c lid config past older start was is_start rest more asks.writes.was in
    let answered = held_alone c lid query what sent most config older between later was before last so.0 asks idle in
    let room = fits answered.end in
    let told = answered.told room in
    subst (RestsWithErrors (query_errors (instrument_acts (device_acts start))))
    (one_log config (later ++ Turn c ∷ (between ++ Turn c ∷ older)) last log asks.is_log is_log)
    (told.rest, ap (filter is_query_error) told.none ∙ so.1)

pub no_query_error : NoQueryError
no_query_error = rounds_keep_rest
