-- The driver makes events from what the wire's methods return. The server's methods allow each of
-- these events. So the server applies them.
use Rattle.std.proofs.Common.{◌≡◌, ℕ, ◌<◌, ◌≤◌, Bool, true, false, List, [], ◌∷◌, length, Option, Some, None, Result, Ok, Err, refl, sym, ap, subst, ◌∙◌, arith, le-ltb}
use Rattle.std.specs.Prelude.{min, not, ◌||◌}
use Rattle.sv_links.specs.Channels.{ChannelAct, waiting as channel_waiting}
use Rattle.sv_history.specs.declared.event.Config.{Config}
use Rattle.sv_history.specs.declared.event.Dial.{Dial}
use Rattle.sv_history.specs.declared.event.Did.{Did}
use Rattle.sv_history.specs.declared.event.Did.TheVariants.{Done}
use Rattle.sv_history.specs.declared.event.Refused.{Refused}
use Rattle.sv_history.specs.declared.event.Refused.TheVariants.{NoMemory}
use Rattle.sv_history.specs.declared.event.Role.{Role}
use Rattle.sv_history.specs.declared.event.Port.{Port}
use Rattle.sv_history.specs.declared.event.Port.TheVariants.{Conn, Intr}
use Rattle.sv_history.specs.Event.{PlainEvent, Open, Bytes, Turn, Refuse, Took, Close, Dialed, port_number}
use Rattle.sv_history.specs.Act.{Act, ConnAct, PortClosed, of, device_acts}
use Rattle.sv_history.specs.Connection.{is_open, room, is_faulted, open_role}
use Rattle.sv_history.specs.Interrupts.{has_channel}
use Rattle.sv_history.specs.Requests.{HearsOf}
use Rattle.sv_history.specs.History.{is_port_shut, IsLogOf, Answers, history_after}
use Rattle.sv_laws.proofs.Brought.{IsClear}
use Rattle.sv_history.specs.Print.{is_no_memory}
use Rattle.sv_history.proofs.AlwaysTold.{channel_log_exists}
use Rattle.sv_history.proofs.Telling.{channel_open_by_channel_log}
use Rattle.sv_history.proofs.Unrecorded.{nothing_faulted}
use Rattle.sv_laws.proofs.OneLog.{one_log}
use Rattle.sv_laws.proofs.NothingLost.{nothing_lost, open_room, open_waiting, some_role, channel_open_if_some_wait}
use Rattle.sv_laws.proofs.CanBeRefused.{can_be_refused}
use Rattle.sv_laws.proofs.ShutIsClear.{shut_is_clear}
use Rattle.sv_serve.specs.declared.wire.Answer.{Answer}
use Rattle.sv_serve.specs.declared.wire.Answer.TheVariants.{Got}
use Rattle.sv_serve.specs.Heard.{Heard}
use Rattle.sv_serve.specs.DriverView.{DriverView}
use Rattle.sv_serve.specs.Steps.{Given, ClosesChannelOn, ClosesChannel, dialed_of, longest_piece}
use Rattle.sv_serve.specs.Asked.{IsOpen, HasRoom, IsFaulted, Wants, Waits, IsLowest}
use Rattle.sv_serve.specs.Premises.{IsSuited, Handed, FoundNone, MayFindNone, FindsNoneIf}
use Rattle.sv_laws.specs.Laws.{Suits}
use Rattle.sv_replay.specs.Entry.{stimulus_event, IsAccepted}
use Rattle.sv_replay.specs.declared.entry.Stimulus.{Stimulus}
use Rattle.sv_replay.specs.declared.entry.Stimulus.TheVariants as stimuli
use Rattle.std.proofs.lemmas.Bool.{not-true}

-- ---- an event that is allowed is applied

pub suited_is_applied : {W : Type 0} (config : Config) (event : PlainEvent) (at : DriverView W) (log : List Act)
    (result : Result Did Refused)
    → IsLogOf config at.history log → Answers config event log result → IsSuited event config at → result ≡ Ok Done
suited_is_applied config event at log result was answers (other, channel_log, also, tells, suits) =
    nothing_lost config at.history event channel_log other result also tells suits
    (subst (λ (l : List Act). Answers config event l result) (one_log config at.history log other was also) answers)

pub refused : {W : Type 0} (config : Config) (c : ℕ) (at : DriverView W) (log : List Act) (result : Result Did Refused)
    → IsLogOf config at.history log → Answers config (Refuse c) log result → FoundNone c config at → result ≡ Ok Done
refused config c at log result was answers (other, also, none) = can_be_refused config at.history c other result also none
    (subst (λ (l : List Act). Answers config (Refuse c) l result) (one_log config at.history log other was also) answers)

-- ---- open connections and interrupt channels

pub not_shut : (c : ℕ) (log : List Act) → c < 16 → is_open (of c log) ≡ true → is_port_shut (Conn c) log ≡ false
not_shut c log lt opened = ap (λ (b : Bool). b || not (is_open (of c log))) (le-ltb 15 c (omega (arith, lt))) ∙ ap not opened

open_by : {W : Type 0} (c : ℕ) (config : Config) (at : DriverView W) (log : List Act) → c < 16 → IsLogOf config at.history log
    → is_open (of c log) ≡ true → IsOpen (Conn c) config at true
open_by c config at log lt was opened = (log, was, sym (ap not (not_shut c log lt opened)))

pub room_means_open : {W : Type 0} (c room : ℕ) (config : Config) (at : DriverView W) → c < 16 → 0 < room → HasRoom c config at room
    → IsOpen (Conn c) config at true
room_means_open c room config at lt some (log, was, is) =
    open_by c config at log lt was (open_room (of c log) (subst (λ (n : ℕ). 0 < n) is some))

pub waiting_means_open : {W : Type 0} (c : ℕ) (bytes : List ℕ) (config : Config) (at : DriverView W) → c < 16 → 0 < length bytes
    → Waits (Conn c) config at bytes → IsOpen (Conn c) config at true
waiting_means_open c bytes config at lt some (log, channel_log, was, tells, is) =
    open_by c config at log lt was (open_waiting (of c log) (subst (λ (l : List ℕ). 0 < length l) is some))

clear_faulted : (acts : List ConnAct) → IsClear acts → false ≡ is_faulted acts
clear_faulted [] h = nothing_faulted [] refl
clear_faulted (PortClosed ∷ acts) h = nothing_faulted [] refl
clear_faulted (_ ∷ acts) h = absurd h

pub faulted_open : {W : Type 0} (c : ℕ) (config : Config) (at : DriverView W) → c < 16 → IsFaulted c config at true
    → IsOpen (Conn c) config at true
faulted_open c config at lt (log, was, is) = open_by c config at log lt was (some_role (open_role (of c log)) (λ none.
    let z : true ≡ false = is ∙ sym (clear_faulted (of c log) (shut_is_clear config at.history log c was none)) in cc))

pub channel_open : (c : ℕ) (channel_log : List ChannelAct) (log : List Act) → c < 16 → HearsOf (device_acts log) channel_log
    → 0 < length (channel_waiting c channel_log) → is_port_shut (Intr c) log ≡ false
channel_open c channel_log log lt tells some =
    ap (λ (b : Bool). b || not (has_channel c (device_acts log))) (le-ltb 15 c (omega (arith, lt)))
    ∙ ap not (sym (channel_open_by_channel_log c (device_acts log) channel_log tells)
    ∙ channel_open_if_some_wait c channel_log some)

-- ---- events that are allowed

not_not : (b : Bool) → false ≡ not (not b) → b ≡ false
not_not true e = absurd cc
not_not false e = refl

pub open_suits : {W : Type 0} (c : ℕ) (role : Role) (config : Config) (at : DriverView W) → IsLowest (Some c) config at
    → IsSuited (Open c role) config at
open_suits c role config at (lt, (log, was, is), lower) =
    let channel_log = channel_log_exists (device_acts log) in
    (log, channel_log.0, was, channel_log.1, (lt, not_not (is_open (of c log)) (is ∙ rw (le-ltb 15 c (omega (arith, lt))) refl)))

pub bytes_suit : {W : Type 0} (c room : ℕ) (bytes : List ℕ) (config : Config) (at : DriverView W) → c < 16 → 0 < room
    → length bytes ≤ min room longest_piece → HasRoom c config at room → IsSuited (Bytes c bytes) config at
bytes_suit c n bytes config at lt some few (log, was, is) =
    let channel_log = channel_log_exists (device_acts log) in (
      log,
      channel_log.0,
      was,
      channel_log.1,
      (lt, subst (λ (m : ℕ). 0 < m) is some, subst (λ (m : ℕ). length bytes ≤ m) is (grind (arith, few))),
    )

pub close_suits : {W : Type 0} (port : Port) (config : Config) (at : DriverView W) → IsOpen port config at true
    → IsSuited (Close port) config at
close_suits port config at (log, was, is) =
    let channel_log = channel_log_exists (device_acts log) in
    (log, channel_log.0, was, channel_log.1, not-true (is_port_shut port log) (sym is))

pub took_suits : {W : Type 0} (port : Port) (n : ℕ) (config : Config) (at : DriverView W) → port_number port < 16
    → Handed port (Got n) config at → IsSuited (Took port n) config at
took_suits port n config at lt (bytes, (log, channel_log, was, tells, is), some, few) =
    (log, channel_log, was, tells, (lt, subst (λ (l : List ℕ). 0 < length l) is some, subst (λ (l : List ℕ). n ≤ length l) is few))

channel_closes : {W : Type 0} (c : ℕ) (answer : Answer ℕ) (config : Config) (at : DriverView W) → c < 16
    → Handed (Intr c) answer config at → IsSuited (Close (Intr c)) config at
channel_closes c answer config at lt (bytes, (log, channel_log, was, tells, is), some, few) =
    (log, channel_log, was, tells, channel_open c channel_log log lt tells (subst (λ (l : List ℕ). 0 < length l) is some))

pub channel_suits : {W : Type 0} (port : Port) (c : ℕ) (answer : Answer ℕ) (config : Config) (at : DriverView W) → port ≡ Intr c
    → port_number port < 16 → Handed port answer config at → IsSuited (Close (Intr c)) config at
channel_suits port c answer config at is lt handed = channel_closes c answer config at (subst (λ p. port_number p < 16) is lt)
    (subst (λ p. Handed p answer config at) is handed)

conn_open : {W : Type 0} (c : ℕ) (answer : Answer ℕ) (config : Config) (at : DriverView W) → c < 16
    → Handed (Conn c) answer config at → IsOpen (Conn c) config at true
conn_open c answer config at lt (bytes, waits, some, few) = waiting_means_open c bytes config at lt some waits

pub handed_means_open : {W : Type 0} (port : Port) (c : ℕ) (answer : Answer ℕ) (config : Config) (at : DriverView W) → port ≡ Conn c
    → port_number port < 16 → Handed port answer config at → IsOpen (Conn c) config at true
handed_means_open port c answer config at is lt handed = conn_open c answer config at (subst (λ p. port_number p < 16) is lt)
    (subst (λ p. Handed p answer config at) is handed)

pub dialed_suits : {W : Type 0} (c : ℕ) (dial : Dial) (ok : Bool) (config : Config) (at : DriverView W) → c < 16
    → Wants c config at (Some dial) → IsSuited (Dialed c ok) config at
dialed_suits c dial ok config at lt (log, was, is) =
    let channel_log = channel_log_exists (device_acts log) in (log, channel_log.0, was, channel_log.1, (lt, dial, sym is))

-- ---- while no event comes, the server's answers stay the same

closes_on_same_history : {W : Type 0} (hears : W → Heard → W → Type 0) (c : ℕ) (found : Option Dial) (config : Config)
    (before after : DriverView W)
    → ClosesChannelOn hears c found config before after → after.history ≡ before.history
closes_on_same_history hears c None config before after is = ap (λ m. m.history) is
closes_on_same_history hears c (Some dial) config before after (between, (wire, was, is), notes) =
    ap (λ m. m.history) notes ∙ ap (λ m. m.history) is

pub closes_channel_same_history : {W : Type 0} (hears : W → Heard → W → Type 0) (c : ℕ) (config : Config) (before after : DriverView W)
    → ClosesChannel hears c config before after → after.history ≡ before.history
closes_channel_same_history hears c config before after h = closes_on_same_history hears c (dialed_of c before) config before after h

pub still_suited : {W : Type 0} (event : PlainEvent) (config : Config) (before after : DriverView W) → after.history ≡ before.history
    → IsSuited event config before → IsSuited event config after
still_suited event config before after same (log, channel_log, was, tells, suits) =
    (log, channel_log, subst (λ (h : List PlainEvent). IsLogOf config h log) (sym same) was, tells, suits)

pub still_wants : {W : Type 0} (c : ℕ) (found dial : Option Dial) (config : Config) (before after : DriverView W)
    → after.history ≡ before.history → found ≡ dial → Wants c config before found → Wants c config after dial
still_wants c found dial config before after same is (log, was, wants) =
    (log, subst (λ (h : List PlainEvent). IsLogOf config h log) (sym same) was, sym is ∙ wants)

pub still_open : {W : Type 0} (port : Port) (found answer : Bool) (config : Config) (before after : DriverView W)
    → after.history ≡ before.history → found ≡ answer → IsOpen port config before found → IsOpen port config after answer
still_open port found answer config before after same equal (log, was, is) =
    (log, subst (λ (h : List PlainEvent). IsLogOf config h log) (sym same) was, sym equal ∙ is)

pub still_lowest : {W : Type 0} (number : Option ℕ) (config : Config) (before after : DriverView W) → after.history ≡ before.history
    → IsLowest number config before → IsLowest number config after
still_lowest (Some c) config before after same (lt, free, lower) = (
  lt,
  still_open (Conn c) false false config before after same refl free,
  λ d less. still_open (Conn d) true true config before after same refl (lower d less),
)
still_lowest None config before after same all = λ d less. still_open (Conn d) true true config before after same refl (all d less)

-- ---- out of memory

-- A Turn that runs out of memory leaves its call to be taken, and memory for it is still refused.
pub turn_may_find_no_memory : {W : Type 0} (c : ℕ) (result : Result Did Refused) (config : Config) (before after : DriverView W)
    → Given (Turn c) result config before after → MayFindNone c result config after
turn_may_find_no_memory c result config before after (log, was, answers, is) none =
    let same : after.history ≡ before.history =
    ap (λ m. m.history) is ∙ ap (λ (r : Result Did Refused). history_after (Turn c) r before.history) none in (
      log,
      subst (λ (h : List PlainEvent). IsLogOf config h log) (sym same) was,
      subst (λ (r : Result Did Refused). Answers config
          (Turn c) log r) none answers,
    )

no_memory : (refused : Refused) → is_no_memory refused ≡ true → refused ≡ NoMemory
no_memory NoMemory e = refl
no_memory _ e = absurd cc

pub finds_no_memory : {W : Type 0} (c : ℕ) (answer : Result Did Refused) (refused : Refused) (so : Bool) (config : Config)
    (at : DriverView W)
    → answer ≡ Err refused → so ≡ is_no_memory refused → MayFindNone c answer config at → FindsNoneIf c so config at
finds_no_memory c answer refused so config at is same may told = may (is ∙ ap Err (no_memory refused (sym same ∙ told)))

-- A stimulus that the server accepts is an event that the server's queries allow.
pub stimulus_suits : (stimulus : Stimulus) (channel_log : List ChannelAct) (log : List Act) → IsAccepted stimulus
    → Suits (stimulus_event stimulus) channel_log log
stimulus_suits (stimuli.Input channel microvolts) channel_log log h = h
stimulus_suits stimuli.External channel_log log h = tt
