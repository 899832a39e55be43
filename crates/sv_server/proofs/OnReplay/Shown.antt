-- After the line of a port is written, its peer takes the bytes that the line shows. This Took is
-- never refused.
use Rattle.std.proofs.Common.{◌≡◌, ◌≢◌, ℕ, ◌<◌, ◌≤◌, ◌||◌, not, Bool, true, false, List, [], ◌∷◌, ◌++◌, length, nat_lt, Some, None, refl, sym, ap, inl, inr, subst, ◌∙◌, arith}
use Rattle.std.specs.Prelude.{Option, Result, Ok, Err, IsErr, ⊤}
use Rattle.std.proofs.lemmas.Bool.{le-ltb, cases_lt, cond-false}
use Rattle.sv_history.specs.declared.event.Config.{Config}
use Rattle.sv_history.specs.declared.event.Did.{Did}
use Rattle.sv_history.specs.declared.event.Refused.{Refused}
use Rattle.sv_history.specs.declared.event.Refused.TheVariants.{NoMemory, ConnInUse, NoConn, NoRoom, NotSent, NoDial, NotRefusable, BadChannel, BadInput, TimeOver}
use Rattle.sv_history.specs.declared.event.Port.{Port}
use Rattle.sv_history.specs.declared.event.Port.TheVariants.{Conn, Intr}
use Rattle.sv_history.specs.Event.{PlainEvent, Took}
use Rattle.sv_links.specs.Channels.{ChannelAct, ChannelTaken, waiting as channel_waiting}
use Rattle.sv_history.specs.Act.{Act, On, BytesTaken, OnDevice, Channel, of, device_acts}
use Rattle.sv_history.specs.Requests.{HearsOf}
use Rattle.sv_history.specs.Interrupts.{has_channel}
use Rattle.sv_history.specs.PolledStatus.{IsPolled}
use Rattle.sv_history.proofs.StillSettled.{still_settled, channel_settled}
use Rattle.sv_server.proofs.OnServer.Steps.{polled_now}
use Rattle.sv_history.proofs.Telling.{channel_open_by_channel_log}
use Rattle.sv_server.proofs.OnDevice.Channels.{channel_within, channel_shut_is}
use Rattle.sv_history.specs.Connection.{is_open, waiting, waiting_on}
use Rattle.sv_history.specs.History.{refusal, took_refusal, own_acts, wants_memory, is_shut, is_channel_shut}
use Rattle.sv_server.specs.Server.State.{State, Represents}
use Rattle.sv_server.specs.Server.Inside.Acting.{Acts, IsRefusal}
use Rattle.sv_print.specs.declared.writing.WriteFault.{WriteFault}
use Rattle.std.specs.Io.KnownBytes.{Appends}
use Rattle.sv_history.specs.Print.{with_took, port_line}
use Rattle.sv_history.specs.Limits.{max_output}
use Rattle.sv_print.specs.TakenByWriter.{IsFront, IsTakenByWriter}
use Rattle.sv_server.specs.Replay.Inside.Showing.{StandsBy, ShowsPort, log_with_took, told_with_took}
use Rattle.sv_laws.proofs.NothingLost.{channel_open_if_some_wait, open_waiting}

-- An open connection has a number up to 15.
pub waits_within : (c : ℕ) (state : State) (config : Config) (log : List Act) → Represents state config log → is_open (of c log) ≡ true
    → c ≤ 15
waits_within c state config log rep o = elim (cases_lt c 16) [
  | inl below_it ↦ omega arith
  | inr above ↦ (let shut : is_open (of c log) ≡ false = ap is_open (rep.beyond c above) in absurd
      (let z : true ≡ false = sym o ∙ shut in cc))
]

-- A Took of all bytes that wait isn't refused.
took_of_all_allowed : (count : ℕ) (bytes : List ℕ) → count ≡ length bytes → took_refusal count bytes ≡ None
took_of_all_allowed count bytes e = cond-false (nat_lt (length bytes) count) _ _ (le-ltb (length bytes) count (omega arith))

pub took_of_conn_allowed : (c count : ℕ) (config : Config) (channel_log : List ChannelAct) (log : List Act) → c ≤ 15
    → is_open (of c log) ≡ true → count ≡ length (waiting (of c log)) → refusal config channel_log (Took (Conn c) count) log ≡ None
took_of_conn_allowed c count config channel_log log within o e =
    let shut : is_shut c log ≡ false = ap (λ (b : Bool). b || not (is_open (of c log))) (le-ltb 15 c within) ∙ ap not o in
    cond-false (is_shut c log) _ _ shut ∙ took_of_all_allowed count (waiting (of c log)) e

took_of_channel_allowed : (c count : ℕ) (config : Config) (channel_log : List ChannelAct) (log : List Act) → c ≤ 15
    → has_channel c (device_acts log) ≡ true
    → count ≡ length (channel_waiting c channel_log) → refusal config channel_log (Took (Intr c) count) log ≡ None
took_of_channel_allowed c count config channel_log log within there e =
    cond-false (is_channel_shut c log) _ _ (channel_shut_is c log true (omega arith) there)
    ∙ took_of_all_allowed count (channel_waiting c channel_log) e

-- So the Took is applied.
allowed_isnt_refused : (config : Config) (event : PlainEvent) (channel_log : List ChannelAct) (log : List Act) (r : Refused)
    → HearsOf (device_acts log) channel_log → refusal config channel_log event log ≡ None → IsRefusal config event log (Some r) → ⊥
allowed_isnt_refused config event channel_log log r tells none why = absurd (let z : None ≡ Some r = sym none ∙ why channel_log tells in cc)

took_needs_no_memory : (port : Port) (count : ℕ) (config : Config) (log : List Act) (polled : ℕ) (result : Result Did Refused) (new : State)
    → IsPolled polled (device_acts log) → wants_memory (device_acts (own_acts config polled (Took port count) log)) ≡ false
    → Acts config (Took port count) log result new → result ≢ Err NoMemory
took_needs_no_memory port count config log polled result new said none acts e = absurd (let z : true ≡ false =
    sym ((subst (λ (r : Result Did Refused). Acts config (Took port count) log r new) e acts).1 polled said) ∙ none in cc)

took_is_applied : (event : PlainEvent) (config : Config) (channel_log : List ChannelAct) (log : List Act) (polled : ℕ)
    (result : Result Did Refused)
    (new : State)
    → IsPolled polled (device_acts log) → HearsOf (device_acts log) channel_log → refusal config channel_log event log ≡ None
    → Acts config event log result new → result ≢ Err NoMemory → Represents new config (own_acts config polled event log ++ log)
took_is_applied event config channel_log log polled (Ok what) new said tells none (free_of, done, rep) other = rep polled said
took_is_applied event config channel_log log polled (Err NoMemory) new said tells none h other = absurd (other refl)
took_is_applied event config channel_log log polled (Err ConnInUse) new said tells none h other =
    absurd (allowed_isnt_refused config event channel_log log ConnInUse tells none h)
took_is_applied event config channel_log log polled (Err NoConn) new said tells none h other =
    absurd (allowed_isnt_refused config event channel_log log NoConn tells none h)
took_is_applied event config channel_log log polled (Err NoRoom) new said tells none h other =
    absurd (allowed_isnt_refused config event channel_log log NoRoom tells none h)
took_is_applied event config channel_log log polled (Err NotSent) new said tells none h other =
    absurd (allowed_isnt_refused config event channel_log log NotSent tells none h)
took_is_applied event config channel_log log polled (Err NoDial) new said tells none h other =
    absurd (allowed_isnt_refused config event channel_log log NoDial tells none h)
took_is_applied event config channel_log log polled (Err NotRefusable) new said tells none h other =
    absurd (allowed_isnt_refused config event channel_log log NotRefusable tells none h)
took_is_applied event config channel_log log polled (Err BadChannel) new said tells none h other =
    absurd (allowed_isnt_refused config event channel_log log BadChannel tells none h)
took_is_applied event config channel_log log polled (Err BadInput) new said tells none h other =
    absurd (allowed_isnt_refused config event channel_log log BadInput tells none h)
took_is_applied event config channel_log log polled (Err TimeOver) new said tells none h other =
    absurd (allowed_isnt_refused config event channel_log log TimeOver tells none h)

-- The history and the logs after the Took.
with_some : (port : Port) (bytes : List ℕ) (history : List PlainEvent) → 0 < length bytes
    → with_took port bytes history ≡ Took port (length bytes) ∷ history
with_some port [] history some = absurd (omega arith)
with_some port (byte ∷ bytes) history some = refl

log_with_some : (c : ℕ) (bytes : List ℕ) (log : List Act) → 0 < length bytes
    → log_with_took (Conn c) bytes log ≡ On c (BytesTaken (length bytes)) ∷ log
log_with_some c [] log some = absurd (omega arith)
log_with_some c (byte ∷ bytes) log some = refl

told_with_conn : (c : ℕ) (bytes : List ℕ) (channel_log : List ChannelAct) → told_with_took (Conn c) bytes channel_log ≡ channel_log
told_with_conn c [] channel_log = refl
told_with_conn c (byte ∷ bytes) channel_log = refl

log_with_channel : (c : ℕ) (bytes : List ℕ) (log : List Act) → 0 < length bytes
    → log_with_took (Intr c) bytes log ≡ OnDevice (Channel (ChannelTaken c (length bytes))) ∷ log
log_with_channel c [] log some = absurd (omega arith)
log_with_channel c (byte ∷ bytes) log some = refl

told_with_channel : (c : ℕ) (bytes : List ℕ) (channel_log : List ChannelAct) → 0 < length bytes
    → told_with_took (Intr c) bytes channel_log ≡ ChannelTaken c (length bytes) ∷ channel_log
told_with_channel c [] channel_log some = absurd (omega arith)
told_with_channel c (byte ∷ bytes) channel_log some = refl

-- After the Took of all bytes that wait, the server stands for the longer history.
pub stands_after_took : (port : Port) (bytes : List ℕ) (config : Config) (history : List PlainEvent) (channel_log : List ChannelAct)
    (log : List Act)
    (old new : State) (result : Result Did Refused) → StandsBy old config history channel_log log
    → bytes ≡ waiting_on channel_log port log → 0 < length bytes → length bytes ≤ max_output
    → Acts config (Took port (length bytes)) log result new → StandsBy new config (with_took port (waiting_on channel_log port log) history)
    (told_with_took port (waiting_on channel_log port log) channel_log)
    (log_with_took port (waiting_on channel_log port log) log)
stands_after_took (Intr c) bytes config history channel_log log old new result (is_log, rep, settled, tells) is some few acts =
    let act = ChannelTaken c (length bytes) in
    let some_wait : 0 < length (channel_waiting c channel_log) = rw (← is) some in
    let o = channel_open_if_some_wait c channel_log some_wait in
    let within = channel_within old.device config (device_acts log) channel_log c rep.device tells o in
    let there : has_channel c (device_acts log) ≡ true = sym (channel_open_by_channel_log c (device_acts log) channel_log tells) ∙ o in
    let none = took_of_channel_allowed c (length bytes) config channel_log log within there (ap (λ (l : List ℕ). length l) is) in
    let (polled, said) = polled_now old.device config (device_acts log) rep.device in
    let makes = took_needs_no_memory (Intr c) (length bytes) config log polled result new said refl acts in
    let new_rep = took_is_applied (Took (Intr c) (length bytes)) config channel_log log polled result new said tells none acts makes in
    let still = channel_settled act config log settled in
    rw (
      with_some (Intr c) (channel_waiting c channel_log) history some_wait,
      log_with_channel c (channel_waiting c channel_log) log some_wait,
      told_with_channel c (channel_waiting c channel_log) channel_log some_wait,
      ← is,
    ) (
      (log, polled, channel_log, (omega (arith, within), omega arith), is_log, tells, none, said, (0, (still, refl))),
      new_rep,
      still,
      (channel_log, tells, refl),
    )
stands_after_took (Conn c) bytes config history channel_log log old new result (is_log, rep, settled, tells) is some few acts =
    let some_wait : 0 < length (waiting (of c log)) = rw (← is) some in
    let o = open_waiting (of c log) some_wait in
    let within = waits_within c old config log rep o in
    let none = took_of_conn_allowed c (length bytes) config channel_log log within o (ap (λ (l : List ℕ). length l) is) in
    let (polled, said) = polled_now old.device config (device_acts log) rep.device in
    let makes = took_needs_no_memory (Conn c) (length bytes) config log polled result new said refl acts in
    let new_rep = took_is_applied (Took (Conn c) (length bytes)) config channel_log log polled result new said tells none acts makes in
    let still = still_settled c (BytesTaken (length bytes)) config log settled in
    rw (
      with_some (Conn c) (waiting (of c log)) history some_wait,
      log_with_some c (waiting (of c log)) log some_wait,
      told_with_conn c (waiting (of c log)) channel_log,
      ← is,
    ) (
      (log, polled, channel_log, (omega (arith, within), omega arith), is_log, tells, none, said, (0, (still, refl))),
      new_rep,
      still,
      tells,
    )

-- ---- what is written

-- No bytes wait, so nothing is written or taken.
pub nothing_shown : (port : Port) (bytes : List ℕ) (config : Config) (history : List PlainEvent) (channel_log : List ChannelAct)
    (log : List Act)
    (state : State) (first last : Option (List ℕ)) → StandsBy state config history channel_log log → bytes ≡ waiting_on channel_log port log
    → length bytes ≤ 0 → Appends first last (port_line port bytes)
    → (line : List ℕ) × Appends first last line × ShowsPort port config history channel_log log (Ok tt) state line
nothing_shown port [] config history channel_log log state first last s is none put = ([], put, rw (← is) (refl, s))
nothing_shown port (byte ∷ bytes) config history channel_log log state first last s is none put = absurd (omega arith)

-- The writer failed in the line, so nothing is taken.
pub part_shown_if_writer_fails : (port : Port) (bytes : List ℕ) (config : Config) (history : List PlainEvent)
    (channel_log : List ChannelAct)
    (log : List Act)
    (state : State) (first last : Option (List ℕ)) (e : WriteFault) (r : Result ⊤ WriteFault)
    → StandsBy state config history channel_log log
    → bytes ≡ waiting_on channel_log port log → IsErr r → IsTakenByWriter first last (Err e) (port_line port bytes)
    → (line : List ℕ) × Appends first last line × ShowsPort port config history channel_log log r state line
part_shown_if_writer_fails port bytes config history channel_log log state first last e (Ok all) s is failed taken = absurd cc
part_shown_if_writer_fails port bytes config history channel_log log state first last e (Err f) s is failed (part, front, put) =
    (part, put, (subst (λ (l : List ℕ). IsFront part (port_line port l)) is front, s))
