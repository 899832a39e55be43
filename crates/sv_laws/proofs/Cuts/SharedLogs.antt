-- Two histories differ only in how program text was accepted, and in the calls that were taken
-- before. The same further events add the same bytes after both.
use Rattle.std.proofs.Common.{◌≡◌, ℕ, List, [], ◌∷◌, ◌++◌, refl, sym, ap, subst, ◌∙◌}
use Rattle.std.specs.Prelude.{◌↔◌}
use Rattle.std.proofs.lemmas.List.{append_cancel_left}
use Rattle.sv_links.specs.Channels.{ChannelAct}
use Rattle.sv_history.specs.declared.event.Config.{Config}
use Rattle.sv_history.specs.declared.event.Port.{Port}
use Rattle.sv_history.specs.declared.event.Port.TheVariants.{Conn, Intr}
use Rattle.sv_history.specs.Event.{PlainEvent}
use Rattle.sv_history.specs.Act.{Act, ConnAct, DeviceAct, On, OnDevice, of, device_acts}
use Rattle.sv_history.specs.Requests.{HearsOf}
use Rattle.sv_history.specs.History.{IsLogOf}
use Rattle.sv_laws.specs.Adding.{all_replies, Adds}
use Rattle.sv_laws.proofs.Facts.{relation_of_equals}
use Rattle.sv_laws.proofs.OneLog.{one_log, sends_in_other_history}
use Rattle.sv_laws.proofs.Cuts.SameDevice.{SameDevice, act_keeps_same_device, same_device_sym, Tells, tells_act}
use Rattle.sv_laws.proofs.Cuts.SharedSteps.{SameCalls}
use Rattle.sv_laws.proofs.Cuts.SharedEvents.{SameNext}
use Rattle.sv_laws.proofs.Cuts.KeptLogs.{IsKept, kept_through_event}
use Rattle.sv_laws.proofs.Cuts.SameAhead.{SameAhead, acts_keep_same_ahead, next_call_ahead, next_request_ahead}

-- ---- the acts of the device

-- The state of the device is the same, and so are the logs of the interrupt channels that it leads
-- to.
pub record SameShared (acts other : List DeviceAct) : Type 0 where
  pub device : SameDevice acts other
  pub tells : Tells acts other
  pub back : Tells other acts

pub acts_keep_same_shared : (adds log other : List Act) → SameShared (device_acts log) (device_acts other)
    → SameShared (device_acts (adds ++ log)) (device_acts (adds ++ other))
acts_keep_same_shared [] log other v = v
acts_keep_same_shared (On c act ∷ adds) log other v = acts_keep_same_shared adds log other v
acts_keep_same_shared (OnDevice act ∷ adds) log other v =
    let so = acts_keep_same_shared adds log other v in
    let here = device_acts (adds ++ log) in
    let there = device_acts (adds ++ other) in
    record {
      device = act_keeps_same_device act here there so.device;
      tells = tells_act act here there so.device so.tells;
      back = tells_act act there here (same_device_sym here there so.device) so.back;
    }

-- ---- the two logs

-- The state of the device is the same. The connections are the same, but for the replies `first`
-- and `second` at the beginning of each.
pub record SameLogs (first second : ℕ → List ℕ) (log other : List Act) : Type 0 where
  pub shared : SameShared (device_acts log) (device_acts other)
  pub open shared use *
  pub each : (d : ℕ) → SameAhead (first d) (second d) (of d log) (of d other)

acts_keep_same_logs : (first second : ℕ → List ℕ) (adds log other : List Act) → SameLogs first second log other
    → SameLogs first second (adds ++ log) (adds ++ other)
acts_keep_same_logs first second adds log other v = record {
  shared = acts_keep_same_shared adds log other v.shared;
  each = λ d. acts_keep_same_ahead (first d) (second d) d adds log other (v.each d);
}

same_calls : (first second : ℕ → List ℕ) (log other : List Act) → SameLogs first second log other → SameCalls log other
same_calls first second log other v = record { device = v.device; calls = λ d. (v.each d).call }

logs_kept : (first second : ℕ → List ℕ) → IsKept (SameLogs first second)
logs_kept first second = record { calls = same_calls first second; more = acts_keep_same_logs first second }

logs_next : (first second : ℕ → List ℕ) (log other : List Act) → SameLogs first second log other → SameNext log other
logs_next first second log other v = record {
  now = same_calls first second log other v;
  calls = λ d. next_call_ahead (first d) (second d) (of d log) (of d other) (v.each d);
  requests = λ d. next_request_ahead (first d) (second d) (of d log) (of d other) (v.each d);
}

-- The same further events keep the two logs the same.
events_keep_same_logs : (config : Config) (first second : ℕ → List ℕ) (one two events : List PlainEvent)
    → ((a b : List Act) → IsLogOf config one a → IsLogOf config two b → SameLogs first second a b) → (log also : List Act)
    → IsLogOf config (events ++ one) log → IsLogOf config (events ++ two) also → SameLogs first second log also
events_keep_same_logs config first second one two [] base log also = base log also
events_keep_same_logs config first second one two (event ∷ events) base log also =
    kept_through_event (SameLogs first second) (logs_kept first second) (logs_next first second) config event (events ++ one)
    (events ++ two) log also
    (events_keep_same_logs config first second one two events base)

-- ---- the bytes added on a port

ahead_back : (first second : List ℕ) (acts others : List ConnAct) → SameAhead first second acts others → SameAhead second first others acts
ahead_back first second acts others v = record {
  role = sym v.role;
  call = sym v.call;
  no_call = sym v.no_call;
  ahead = λ more. sym (v.ahead more);
  sends = (v.sends.0, v.sends.2, v.sends.1);
}

logs_back : (first second : ℕ → List ℕ) (log other : List Act) → SameLogs first second log other → SameLogs second first other log
logs_back first second log other v = assumption (
  same_device_sym (device_acts log) (device_acts other) v.device,
  (λ (d : ℕ). ahead_back (first d) (second d) (of d log) (of d other) (v.each d)),
)

-- The log of the interrupt channels depends only on the history, which has one log.
hears_in : (config : Config) (history : List PlainEvent) (found log : List Act) (channel_log : List ChannelAct)
    → IsLogOf config history found
    → IsLogOf config history log → HearsOf (device_acts found) channel_log → HearsOf (device_acts log) channel_log
hears_in config history found log channel_log x y hears =
    subst (λ (l : List Act). HearsOf (device_acts l) channel_log) (one_log config history found log x y) hears

-- The two histories with their logs, which are `SameLogs`. `first` and `second` are all replies on
-- each connection so far.
pub record Begun (config : Config) (first second : ℕ → List ℕ) (one two : List PlainEvent) : Type 0 where
  pub a : List Act
  pub b : List Act
  pub was : IsLogOf config one a
  pub also : IsLogOf config two b
  pub one_sent : (d : ℕ) → all_replies (of d a) ≡ first d
  pub two_sent : (d : ℕ) → all_replies (of d b) ≡ second d
  pub same : SameLogs first second a b

begun_back : (config : Config) (first second : ℕ → List ℕ) (one two : List PlainEvent) → Begun config first second one two
    → Begun config second first two one
begun_back config first second one two h = record {
  a = h.b;
  b = h.a;
  was = h.also;
  also = h.was;
  one_sent = h.two_sent;
  two_sent = h.one_sent;
  same = logs_back first second h.a h.b h.same;
}

behind_same : (config : Config) (first second : ℕ → List ℕ) (one two events : List PlainEvent) (log also : List Act)
    → Begun config first second one two → IsLogOf config (events ++ one) log → IsLogOf config (events ++ two) also
    → SameLogs first second log also
behind_same config first second one two events log also h x y =
    events_keep_same_logs config first second one two events
    (λ a b p q. relation_of_equals (SameLogs first second) h.a h.b a b (one_log config one a h.a p h.was)
    (one_log config two b h.b q h.also) h.same)
    log also x y

adds_to : (port : Port) (config : Config) (first second : ℕ → List ℕ) (one two events : List PlainEvent) (log also : List Act)
    (bytes : List ℕ) → Begun config first second one two → IsLogOf config (events ++ one) log → IsLogOf config (events ++ two) also
    → Adds port config one events bytes → Adds port config two events bytes
adds_to (Conn d) config first second one two events log also bytes h x y
    (before, (found, channel_log, is_found, hears, so), (later, heard, is_later, hearing, then_so)) =
    let v = behind_same config first second one two events log also h x y in
    let here : before ≡ first d =
    so ∙ ap (λ (l : List Act). all_replies (of d l)) (one_log config one found h.a is_found h.was) ∙ h.one_sent d in
    let all : before ++ bytes ≡ first d ++ (v.each d).sends.0 =
    then_so ∙ ap (λ (l : List Act). all_replies (of d l)) (one_log config (events ++ one) later log is_later x) ∙ (v.each d).sends.1 in
    let same : bytes ≡ (v.each d).sends.0 =
    append_cancel_left (first d) bytes (v.each d).sends.0 (ap (λ (l : List ℕ). l ++ bytes) (sym here) ∙ all) in (
      second d,
      (
        h.b,
        channel_log,
        h.also,
        h.same.tells channel_log (hears_in config one found h.a channel_log is_found h.was hears),
        sym (h.two_sent d),
      ),
      (
        also,
        heard,
        y,
        v.tells heard (hears_in config (events ++ one) later log heard is_later x hearing),
        ap (λ (l : List ℕ). second d ++ l) same ∙ sym (v.each d).sends.2,
      ),
    )
adds_to (Intr d) config first second one two events log also bytes h x y (before, sends, adds) =
    let v = behind_same config first second one two events log also h x y in (
      before,
      sends_in_other_history (Intr d) config one two h.a h.b before h.was h.also
          (λ channel_log hears. (channel_log, h.same.tells channel_log hears, refl)) sends,
      sends_in_other_history (Intr d) config (events ++ one) (events ++ two) log also (before ++ bytes) x y
          (λ channel_log hears. (channel_log, v.tells channel_log hears, refl)) adds,
    )

pub same_bytes_added : (port : Port) (config : Config) (first second : ℕ → List ℕ) (one two events : List PlainEvent) (log also : List Act)
    (bytes : List ℕ) → Begun config first second one two → IsLogOf config (events ++ one) log → IsLogOf config (events ++ two) also
    → Adds port config one events bytes ↔ Adds port config two events bytes
same_bytes_added port config first second one two events log also bytes h x y = (
  adds_to port config first second one two events log also bytes h x y,
  adds_to port config second first two one events also log bytes (begun_back config first second one two h) y x,
)
