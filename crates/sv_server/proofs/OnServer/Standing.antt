-- After an event and the steps that are due after it, the server stands for the longer history.
use Rattle.std.proofs.Common.{◌≡◌, ℕ, zero, ap, Bool, true, false, List, ◌∷◌, ◌++◌, None, Some, refl, ◌∙◌}
use Rattle.std.specs.Prelude.{Option, Result, Ok, Err, IsErr, IsErrAnd}
use Rattle.sv_history.specs.declared.event.Config.{Config}
use Rattle.sv_history.specs.declared.event.Did.{Did}
use Rattle.sv_history.specs.declared.event.Refused.{Refused}
use Rattle.sv_history.specs.declared.event.Refused.TheVariants.{NoMemory, ConnInUse, NoConn, NoRoom, NotSent, NoDial, NotRefusable, BadChannel, BadInput, TimeOver}
use Rattle.sv_history.specs.declared.event.Port.TheVariants.{Conn, Intr}
use Rattle.sv_history.specs.Event.{PlainEvent, IsEvent, Open, Bytes, Took}
use Rattle.sv_history.specs.Act.{Act, Opened, Piece, BytesTaken, device_acts}
use Rattle.sv_history.specs.PolledStatus.{IsPolled}
use Rattle.sv_history.specs.Settling.{IsSettled}
use Rattle.sv_links.specs.Channels.{ChannelAct, ChannelTaken}
use Rattle.sv_history.specs.Requests.{HearsOf}
use Rattle.sv_history.specs.History.{own_acts, refusal, Answers}
use Rattle.sv_server.specs.Server.State.{State, Represents, StandsFor}
use Rattle.sv_server.specs.Server.Inside.Acting.{Acts, IsRefusal, Settled, is_quiet}
use Rattle.sv_history.proofs.StillSettled.{still_settled, channel_settled, settling_ends_settled}
use Rattle.sv_server.proofs.OnServer.Steps.{polled_now, channel_log_exists}

-- An event was applied, and all steps that are due after it were taken.
pub stands_acted : (config : Config) (history : List PlainEvent) (event : PlainEvent) (old new : State) → (s : StandsFor old config history)
    → IsEvent event → IsRefusal config event s.log None
    → ((polled : ℕ) → IsPolled polled (device_acts s.log) → Settled config (own_acts config polled event s.log ++ s.log) new)
    → StandsFor new config (event ∷ history)
stands_acted config history event old new s is_event free settles =
    let (polled, said) = polled_now old.device config (device_acts s.log) s.represents.device in
    let (channel_log, tells) = channel_log_exists old.device config (device_acts s.log) s.represents.device in
    let (last, steps, held) = settles polled said in
    record {
      log = last;
      is_log = (s.log, polled, channel_log, is_event, s.is_log, tells, free channel_log tells, said, steps);
      represents = held;
      settled = settling_ends_settled steps.0 config (own_acts config polled event s.log ++ s.log) last steps.1;
    }

stands_after : (config : Config) (history : List PlainEvent) (event : PlainEvent) (old mid new : State) (did : Did)
    → StandsFor old config history → IsEvent event → ((k : Config) (log : List Act) → Represents old k log → Acts k event log (Ok did) mid)
    → ((k : Config) (log : List Act) → Represents mid k log → Settled k log new) → StandsFor new config (event ∷ history)
stands_after config history event old mid new did s is_event acts settles =
    let (free, done, makes) = acts config s.log s.represents in
    stands_acted config history event old new s is_event free
    (λ polled said. settles config (own_acts config polled event s.log ++ s.log) (makes polled said))

-- After an Open, a Bytes or a Took no step is due, if none was due before.
quiet_settled : (config : Config) (polled : ℕ) (event : PlainEvent) (log : List Act) → is_quiet event ≡ true → IsSettled config log
    → IsSettled config (own_acts config polled event log ++ log)
quiet_settled config polled (Open c role) log quiet none = still_settled c (Opened role) config log none
quiet_settled config polled (Bytes c piece) log quiet none = still_settled c (Piece piece) config log none
quiet_settled config polled (Took (Conn c) count) log quiet none = still_settled c (BytesTaken count) config log none
quiet_settled config polled (Took (Intr c) count) log quiet none = channel_settled (ChannelTaken c count) config log none
quiet_settled config polled _ log quiet none = absurd cc

stands_at_once : (config : Config) (history : List PlainEvent) (event : PlainEvent) (old mid : State) (did : Did)
    → is_quiet event ≡ true → StandsFor old config history → IsEvent event
    → ((k : Config) (log : List Act) → Represents old k log → Acts k event log (Ok did) mid) → StandsFor mid config (event ∷ history)
stands_at_once config history event old mid did quiet s is_event acts =
    let (free, done, makes) = acts config s.log s.represents in
    let (polled, said) = polled_now old.device config (device_acts s.log) s.represents.device in
    let (channel_log, tells) = channel_log_exists old.device config (device_acts s.log) s.represents.device in
    let none = quiet_settled config polled event s.log quiet s.settled in
    record {
      log = own_acts config polled event s.log ++ s.log;
      is_log = (s.log, polled, channel_log, is_event, s.is_log, tells, free channel_log tells, said, (zero, (none, refl)));
      represents = makes polled said;
      settled = none;
    }

pub stands_unless : (config : Config) (history : List PlainEvent) (event : PlainEvent) (old mid new : State) (did : Did) (quiet : Bool)
    → is_quiet event ≡ quiet → StandsFor old config history → IsEvent event
    → ((k : Config) (log : List Act) → Represents old k log → Acts k event log (Ok did) mid)
    → ((k : Config) (log : List Act) → Represents mid k log → quiet ≡ false → Settled k log new) → (quiet ≡ true → new ≡ mid)
    → StandsFor new config (event ∷ history)
stands_unless config history event old mid new did true quiet s is_event acts settles same =
    rw (same refl) (stands_at_once config history event old mid did quiet s is_event acts)
stands_unless config history event old mid new did false loud s is_event acts settles same =
    stands_after config history event old mid new did s is_event acts (λ k log rep. settles k log rep refl)

-- ---- refusals

-- The interrupt channels have a log, and it determines why the event is refused.
refusal_is_known : (config : Config) (event : PlainEvent) (log : List Act) (what : Option Refused) (old : State) → Represents old config log
    → IsRefusal config event log what
    → (channel_log : List ChannelAct) × HearsOf (device_acts log) channel_log × (refusal config channel_log event log ≡ what)
refusal_is_known config event log what old rep why =
    let (channel_log, tells) = channel_log_exists old.device config (device_acts log) rep.device in
    (channel_log, tells, why channel_log tells)

-- The result is the one that the log determines.
pub answers_by_log : (config : Config) (event : PlainEvent) (log : List Act) (r : Result Did Refused) (old new : State)
    → Represents old config log → Acts config event log r new → Answers config event log r
answers_by_log config event log (Ok what) old new rep (none, does, more) =
    let (channel_log, tells, free) = refusal_is_known config event log None old rep none in (channel_log, tells, (free, does))
answers_by_log config event log (Err NoMemory) old new rep (none, wants) =
    let (channel_log, tells, free) = refusal_is_known config event log None old rep none in
    let (polled, said) = polled_now old.device config (device_acts log) rep.device in
    (channel_log, tells, (free, polled, said, wants polled said))
answers_by_log config event log (Err ConnInUse) old new rep why = refusal_is_known config event log (Some ConnInUse) old rep why
answers_by_log config event log (Err NoConn) old new rep why = refusal_is_known config event log (Some NoConn) old rep why
answers_by_log config event log (Err NoRoom) old new rep why = refusal_is_known config event log (Some NoRoom) old rep why
answers_by_log config event log (Err NotSent) old new rep why = refusal_is_known config event log (Some NotSent) old rep why
answers_by_log config event log (Err NoDial) old new rep why = refusal_is_known config event log (Some NoDial) old rep why
answers_by_log config event log (Err NotRefusable) old new rep why = refusal_is_known config event log (Some NotRefusable) old rep why
answers_by_log config event log (Err BadChannel) old new rep why = refusal_is_known config event log (Some BadChannel) old rep why
answers_by_log config event log (Err BadInput) old new rep why = refusal_is_known config event log (Some BadInput) old rep why
answers_by_log config event log (Err TimeOver) old new rep why = refusal_is_known config event log (Some TimeOver) old rep why

pub error_passed_on : {A E : Type 0} (r : Result A E) (e : E) → IsErr r → IsErrAnd r (λ x. x ≡ e) → r ≡ Err e
error_passed_on (Ok a) e failed is = absurd cc
error_passed_on (Err x) e failed is = ap Err is

-- An event of a connection or a channel that isn't open is refused.
pub no_connection : (config : Config) (event : PlainEvent) (log : List Act) (r : Result Did Refused) (passed : Refused) (new : State)
    {IsShut : Type 0} → IsErr r × IsErrAnd r (λ x. x ≡ passed) → (passed ≡ NoConn) × IsShut
    → (IsShut → IsRefusal config event log (Some NoConn)) → Acts config event log r new
no_connection config event log r passed new (failed, is) (none, shut) why = rw (error_passed_on r passed failed is ∙ ap Err none) (why shut)
