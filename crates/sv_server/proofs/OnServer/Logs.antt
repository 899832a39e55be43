-- After an event of one connection, the server has the state that the log with the event's acts
-- determines.
use Rattle.std.proofs.Common.{◌≡◌, ◌≢◌, ℕ, ◌<◌, Bool, true, false, Some, List, [], ◌∷◌, ◌++◌, append_assoc, length, get_or, set, refl, sym, ap, subst, ◌∙◌, arith, inl, inr}
use Rattle.std.specs.Prelude.{is_some, not, map}
use Rattle.std.specs.List.{AllByRecursion}
use Rattle.std.proofs.lemmas.Bool.{lt-ltb, le-ltb, cases_eq, cases_lt}
use Rattle.std.proofs.lemmas.List.{get_or-set_same, get_or-set_other, map-append}
use Rattle.sv_links.specs.declared.waiting.Entry.{Entry}
use Rattle.sv_links.specs.Links.{closing}
use Rattle.sv_links.specs.Waiting.{Left}
use Rattle.sv_links.specs.Channels.{ChannelClosed}
use Rattle.sv_links.specs.Queue.{without}
use Rattle.sv_history.specs.declared.event.Config.{Config}
use Rattle.sv_server.specs.Device.Inside.Outcome.{MayWait}
use Rattle.sv_server.specs.Server.Inside.Ending.{Concludes}
use Rattle.sv_history.specs.Act.{Act, ConnAct, DeviceAct, CallTaken, PortClosed, Linked, Waited, Channel, Ticked, On, OnDevice, of, device_acts, link_acts}
use Rattle.sv_history.specs.Connection.{is_open, is_busy, pending_call}
use Rattle.sv_history.specs.CoreCall.{creates_link}
use Rattle.sv_history.specs.Request.{core_call}
use Rattle.sv_history.specs.Effect.{Effect, acts_of}
use Rattle.sv_server.specs.Connection.Representation.{Connection, IsConnection}
use Rattle.sv_server.specs.Device.Representation.{IsDevice, Device as KeptDevice}
use Rattle.sv_server.specs.Server.State.{State, Represents, IsTaken}
use Rattle.sv_history.specs.History.{is_shut}
use Rattle.sv_history.proofs.Projections.{of_own_act, of_other_act, of_device_acts, device_acts_append, of_effect, of_others_effect, device_effect}
use Rattle.sv_server.proofs.OnDevice.Effects.{own_acts_after_taken, other_acts_after_taken, device_taken}
use Rattle.sv_history.specs.Queries.{IsUsed}
use Rattle.sv_server.proofs.OnServer.Used.{nonempty_with_front, used_after_act, used_act, used_same}
use Rattle.sv_server.proofs.OnServer.Taken.{taken_after_act, taken_after_leaving, taken_after_append}
use mathlib.Core.Bool.{not-not}

-- A stored connection has the state that its acts determine.
pub connection_of : (state : State) (config : Config) (log : List Act) (c : ℕ) (kept : Connection) → Represents state config log → c < 16
    → kept ≡ get_or state.connections c kept → IsConnection kept (of c log)
connection_of state config log c kept rep lt e = subst (λ (k : Connection). IsConnection k (of c log)) (sym e) (rep.each c kept lt)

-- A connection is open exactly if its state has a role.
pub is_open_by_role : (kept : Connection) (acts : List ConnAct) (b : Bool) → IsConnection kept acts → is_some kept.role ≡ b
    → is_open acts ≡ b
is_open_by_role kept acts b is e = ap is_some (sym is.role) ∙ e

pub shut_is : (c : ℕ) (log : List Act) (b : Bool) → c < 16 → is_open (of c log) ≡ b → is_shut c log ≡ not b
shut_is c log b lt e = rw (le-ltb 15 c (omega arith), e) refl

-- The same for every number. A connection above 15 is never open.
pub open_known : (state : State) (config : Config) (log : List Act) (c : ℕ) (b : Bool) → Represents state config log
    → is_open (of c log) ≡ b → b ≡ not (is_shut c log)
open_known state config log c b rep is = elim (cases_lt c 16) [
  | inl below ↦ rw (shut_is c log b below is) (sym (not-not b))
  | inr above ↦
      let shut : is_open (of c log) ≡ false = ap is_open (rep.beyond c above) in
      rw (lt-ltb 15 c (omega arith)) (sym is ∙ shut)
]

-- One connection and the device act, and all other connections stay.
pub acted : (state : State) (config : Config) (log new : List Act) (c : ℕ) (kept : Connection) (device : KeptDevice)
    → Represents state config log → length state.connections ≡ 16 → c < 16
    → IsConnection kept (of c new) → IsDevice device config (device_acts new) → ((d : ℕ) → d ≢ c → of d new ≡ of d log)
    → AllByRecursion (IsTaken new) device.waiting → (n : ℕ) → IsUsed n new
    → Represents (record { connections = set state.connections c kept; device = device; connections_used = n }) config new
acted state config log new c kept device rep sixteen lt mine all others taken n connections_used = record {
  each = λ d other below. elim (cases_eq d c) [
    | inl e ↦
        let at : get_or (set state.connections c kept) d other ≡ kept =
        ap (λ (n : ℕ). get_or (set state.connections c kept) n other) e ∙ get_or-set_same state.connections c kept other (omega arith) in
        rw (at, e) mine
    | inr ne ↦
        let at : get_or (set state.connections c kept) d other ≡ get_or state.connections d other =
        get_or-set_other state.connections c d kept other ne in
        rw (at, others d ne) (rep.each d other below)
  ];
  beyond = λ d h. others d (λ e. absurd (omega arith)) ∙ rep.beyond d h;
  connections_used = connections_used;
  device = all;
  taken = taken;
}

-- One connection acts, and all else stays.
pub stands_after_own_act : (state : State) (config : Config) (log : List Act) (c : ℕ) (old new : Connection) (act : ConnAct)
    → Represents state config log → length state.connections ≡ 16 → c < 16 → old ≡ get_or state.connections c old
    → (IsConnection old (of c log) → IsConnection new (act ∷ of c log))
    → ((call : List ℕ) → pending_call (of c log) ≡ Some call → pending_call (act ∷ of c log) ≡ Some call)
    → (n : ℕ) → IsUsed n (On c act ∷ log)
    → Represents (record state { connections = set state.connections c new; connections_used = n }) config (On c act ∷ log)
stands_after_own_act state config log c old new act rep sixteen lt e goes known n connections_used =
    acted state config log (On c act ∷ log) c new state.device rep sixteen lt
    (rw of_own_act (goes (connection_of state config log c old rep lt e))) rep.device (λ d ne. of_other_act c d act log ne)
    (taken_after_act c log (On c act ∷ log) state.device.waiting (λ d ne. of_other_act c d act log ne)
    (λ call h. ap pending_call (of_own_act c act log) ∙ known call h) rep.taken) n connections_used

-- A connection that isn't busy has no pending call.
pub idle_has_no_call : (kept : Connection) (acts : List ConnAct) (call : List ℕ) → IsConnection kept acts → kept.busy ≡ false
    → pending_call acts ≡ Some call → ⊥
idle_has_no_call kept acts call is idle known = let z : false ≡ true = sym idle ∙ is.busy ∙ ap is_some known in absurd cc

-- Only the device acts.
pub stands_after_device_acts : (state : State) (config : Config) (log : List Act) (device : KeptDevice) (adds : List DeviceAct)
    → Represents state config log → IsDevice device config (adds ++ device_acts log) → device.waiting ≡ state.device.waiting
    → Represents (record state { device = device }) config (map OnDevice adds ++ log)
stands_after_device_acts state config log device adds rep all same = record {
  each = λ c other below. rw (of_device_acts c adds log) (rep.each c other below);
  beyond = λ c above. of_device_acts c adds log ∙ rep.beyond c above;
  connections_used = used_same state.connections_used log (map OnDevice adds ++ log) rep.connections_used (λ c. of_device_acts c adds log);
  device = rw (device_acts_append adds log) all;
  taken = rw same (taken_after_act 0 log (map OnDevice adds ++ log) state.device.waiting (λ d ne. of_device_acts d adds log)
      (λ call known. ap pending_call (of_device_acts 0 adds log) ∙ known) rep.taken);
}

-- A Tick adds its own act and further acts of the device.
pub stands_after_tick : (state : State) (config : Config) (log : List Act) (device : KeptDevice) (adds : List DeviceAct)
    → Represents state config log → IsDevice device config (adds ++ Ticked ∷ device_acts log) → device.waiting ≡ state.device.waiting
    → Represents (record state { device = device }) config ((map OnDevice adds ++ OnDevice Ticked ∷ []) ++ log)
stands_after_tick state config log device adds rep all same =
    let parts : (map OnDevice adds ++ OnDevice Ticked ∷ []) ++ log ≡ map OnDevice (adds ++ Ticked ∷ []) ++ log =
    ap (λ (l : List Act). l ++ log) (sym (map-append OnDevice adds (Ticked ∷ []))) in
    rw parts (stands_after_device_acts state config log device (adds ++ Ticked ∷ []) rep
    (rw (append_assoc adds (Ticked ∷ []) (device_acts log)) all) same)

-- The acts of closing a connection: its call leaves the queue, its links are destroyed, and its
-- channel closes.
abbrev closed_acts : ℕ → List Act → List Act
closed_acts c log = map OnDevice (Channel (ChannelClosed c) ∷ map Linked (closing c (link_acts (device_acts log))) ++ Waited (Left c) ∷ [])
    ++ On c PortClosed ∷ []

stands_after_close : (state : State) (config : Config) (log : List Act) (c : ℕ) (old new : Connection) (device : KeptDevice)
    → Represents state config log → length state.connections ≡ 16 → c < 16 → old ≡ get_or state.connections c old
    → (IsConnection old (of c log) → IsConnection new (PortClosed ∷ of c log))
    → ((acts : List DeviceAct) → IsDevice state.device config acts
    → IsDevice device config (Channel (ChannelClosed c) ∷ map Linked (closing c (link_acts acts)) ++ Waited (Left c) ∷ acts))
    → device.waiting ≡ without c state.device.waiting → of c log ≢ []
    → Represents (record state { connections = set state.connections c new; device = device }) config (closed_acts c log ++ log)
stands_after_close state config log c old new device rep sixteen lt e goes freed left there =
    let links = map Linked (closing c (link_acts (device_acts log))) in
    let adds = Channel (ChannelClosed c) ∷ links ++ Waited (Left c) ∷ [] in
    let others = λ (d : ℕ) (ne : d ≢ c). of_device_acts d adds (On c PortClosed ∷ log) ∙ of_other_act c d PortClosed log ne in
    rw (append_assoc (map OnDevice adds) (On c PortClosed ∷ []) log)
    (acted state config log (map OnDevice adds ++ On c PortClosed ∷ log) c new device rep sixteen lt
    (rw (of_device_acts c adds (On c PortClosed ∷ log), of_own_act) (goes (connection_of state config log c old rep lt e)))
    (subst (λ (acts : List DeviceAct). IsDevice device config acts)
    (sym (device_acts_append adds (On c PortClosed ∷ log)
    ∙ append_assoc (Channel (ChannelClosed c) ∷ links) (Waited (Left c) ∷ []) (device_acts log))) (freed (device_acts log) rep.device))
    others
    (rw left (taken_after_leaving c log (map OnDevice adds ++ On c PortClosed ∷ log) state.device.waiting others rep.taken))
    state.connections_used
    (used_same state.connections_used (On c PortClosed ∷ log) (map OnDevice adds ++ On c PortClosed ∷ log)
    (used_act state.connections_used c PortClosed log rep.connections_used there) (λ d. of_device_acts d adds (On c PortClosed ∷ log))))

-- The same for the number that the event names.
pub stands_after_close_of : (state : State) (config : Config) (log : List Act) (c named : ℕ) (old new : Connection) (device : KeptDevice)
    → c ≡ named → Represents state config log → length state.connections ≡ 16 → c < 16 → old ≡ get_or state.connections c old
    → (IsConnection old (of c log) → IsConnection new (PortClosed ∷ of c log))
    → ((acts : List DeviceAct) → IsDevice state.device config acts
    → IsDevice device config (Channel (ChannelClosed c) ∷ map Linked (closing c (link_acts acts)) ++ Waited (Left c) ∷ acts))
    → device.waiting ≡ without c state.device.waiting → of c log ≢ []
    → Represents (record state { connections = set state.connections c new; device = device }) config
    (closed_acts named log ++ log)
stands_after_close_of state config log c named old new device same rep sixteen lt e goes freed left there =
    subst (λ (n : ℕ). Represents (record state { connections = set state.connections c new; device = device }) config
    (closed_acts n log ++ log)) same (stands_after_close state config log c old new device rep sixteen lt e goes freed left there)

-- A connection with a pending call is busy.
pub pending_call_is_busy : (acts : List ConnAct) (call : List ℕ) → pending_call acts ≡ Some call → is_busy acts ≡ false → ⊥
pending_call_is_busy acts call known idle = let z : true ≡ false = sym (ap is_some known) ∙ idle in cc

-- After a Turn, each suspended call of the queue still was taken and has no reply.
pub taken_after_turn : (c : ℕ) (log : List Act) (call : List ℕ) (effect : Effect) (old new : List Entry)
    → is_busy (of c log) ≡ false → AllByRecursion (IsTaken log) old → MayWait (effect.own ≡ []) c (creates_link (core_call call)) old new
    → AllByRecursion (IsTaken ((acts_of c effect ++ On c (CallTaken call) ∷ []) ++ log)) new
taken_after_turn c log call effect old new idle taken (inl same) =
    rw same (taken_after_act c log ((acts_of c effect ++ On c (CallTaken call) ∷ []) ++ log) old
    (λ d ne. other_acts_after_taken c d effect call log ne) (λ other known. absurd {0} (pending_call_is_busy (of c log) other known idle))
    taken)
taken_after_turn c log call effect old new idle taken (inr (none, (entry, mine, is, makes))) =
    let after : List Act = (acts_of c effect ++ On c (CallTaken call) ∷ []) ++ log in
    let here : of c after ≡ CallTaken call ∷ of c log =
    own_acts_after_taken c effect call log ∙ ap (λ (own : List ConnAct). own ++ CallTaken call ∷ of c log) none in
    rw is (taken_after_append after (without c old) entry
    (taken_after_leaving c log after old (λ d ne. other_acts_after_taken c d effect call log ne) taken)
    (call, ap pending_call (ap (λ (d : ℕ). of d after) mine ∙ here), makes))

-- A Turn takes the next call of an open connection.
pub turned : (state : State) (config : Config) (log : List Act) (c : ℕ) (call : List ℕ) (effect : Effect) (kept : Connection)
    (device : KeptDevice)
    → Represents state config log → length state.connections ≡ 16 → c < 16 → is_busy (of c log) ≡ false
    → Concludes effect config (CallTaken call ∷ of c log) (device_acts log) kept device
    → MayWait (effect.own ≡ []) c (creates_link (core_call call)) state.device.waiting device.waiting → of c log ≢ []
    → Represents (record state { connections = set state.connections c kept; device = device }) config
    ((acts_of c effect ++ On c (CallTaken call) ∷ []) ++ log)
turned state config log c call effect kept device rep sixteen lt idle (mine, all) held there =
    acted state config log _ c kept device rep sixteen lt (rw (own_acts_after_taken c effect call log) mine)
    (rw (device_taken c effect call log) all)
    (λ d ne. other_acts_after_taken c d effect call log ne)
    (taken_after_turn c log call effect state.device.waiting device.waiting idle rep.taken held) state.connections_used
    (used_after_act state.connections_used c log ((acts_of c effect ++ On c (CallTaken call) ∷ []) ++ log) rep.connections_used there
    (λ z. nonempty_with_front effect.own (CallTaken call ∷ of c log) (λ y. absurd cc) (sym (own_acts_after_taken c effect call log) ∙ z))
    (λ d ne. other_acts_after_taken c d effect call log ne))

-- A suspended call resumes or times out.
pub stands_after_call_continues : (state : State) (config : Config) (log : List Act) (c : ℕ) (effect : Effect) (kept : Connection)
    (device : KeptDevice)
    → Represents state config log → length state.connections ≡ 16 → c < 16
    → Concludes effect config (of c log) (device_acts log) kept device
    → AllByRecursion (IsTaken (acts_of c effect ++ log)) device.waiting → of c log ≢ []
    → Represents (record state { connections = set state.connections c kept; device = device }) config (acts_of c effect ++ log)
stands_after_call_continues state config log c effect kept device rep sixteen lt (mine, all) taken there =
    acted state config log _ c kept device rep sixteen lt (rw (of_effect c effect log) mine) (rw (device_effect c effect log) all)
    (λ d ne. of_others_effect c d effect log ne) taken state.connections_used
    (used_after_act state.connections_used c log (acts_of c effect ++ log) rep.connections_used there
    (λ z. nonempty_with_front effect.own (of c log) there (sym (of_effect c effect log) ∙ z)) (λ d ne. of_others_effect c d effect log ne))
