-- After Turn, the server has the state and gives the result that the log determines.
use Rattle.std.proofs.Common.{◌≡◌, ℕ, ◌<◌, Bool, true, false, cond, List, [], ◌∷◌, ◌++◌, length, set, append_assoc, append-nil, Option, Some, None, refl, sym, ap, subst, ◌∙◌}
use Rattle.std.specs.Prelude.{◌||◌, is_none, Ok, Err}
use Rattle.sv_links.specs.declared.waiting.Entry.{Entry}
use Rattle.sv_links.specs.Waiting.{waits}
use Rattle.sv_history.specs.declared.event.Config.{Config}
use Rattle.sv_history.specs.declared.event.Did.{Did}
use Rattle.sv_history.specs.declared.event.Did.TheVariants.{Done, Idle}
use Rattle.sv_history.specs.declared.event.Refused.{Refused}
use Rattle.sv_history.specs.declared.event.Refused.TheVariants.{NoMemory}
use Rattle.sv_history.specs.Event.{Turn}
use Rattle.sv_history.specs.Act.{Act, DeviceAct, CallTaken, On, of, device_acts, wait_acts}
use Rattle.sv_history.specs.Connection.{next_call, is_busy}
use Rattle.sv_history.specs.Effect.{Effect, acts_of}
use Rattle.sv_history.specs.Execution.{request_effect, aborts}
use Rattle.sv_history.specs.History.{is_shut, abort_acts, taken_acts, wants_memory}
use Rattle.sv_server.specs.Connection.Representation.{Connection}
use Rattle.sv_server.specs.Device.Representation.{Device as KeptDevice}
use Rattle.sv_server.specs.Server.State.{State, Represents}
use Rattle.sv_server.specs.Server.Inside.Acting.{Acts, Turns}
use Rattle.sv_history.proofs.Projections.{device_effect}
use Rattle.sv_server.proofs.OnDevice.Effects.{device_taken}
use Rattle.sv_server.proofs.OnServer.Used.{unshut_used}
use Rattle.sv_server.proofs.OnServer.Logs.{acted, turned}
use Rattle.sv_server.proofs.OnServer.Aborting.{request_aborts}

-- ---- a Turn that is refused

-- Taking a record needs memory if the effect of its request does.
adds_of : (c : ℕ) (effect : Effect) (call : List ℕ) → device_acts (acts_of c effect ++ On c (CallTaken call) ∷ []) ≡ effect.adds
adds_of c effect call = device_effect c effect (On c (CallTaken call) ∷ []) ∙ append-nil effect.adds

taken_needs_memory : (c : ℕ) (call : List ℕ) (effect : Effect) (aborted : Option ℕ) (log : List Act)
    → ((d : ℕ) → aborted ≡ Some d → effect.adds ≡ []) → wants_memory effect.adds ≡ true
    → wants_memory (device_acts (taken_acts c call effect aborted log)) ≡ true
taken_needs_memory c call effect None log none wants = ap wants_memory (adds_of c effect call) ∙ wants
taken_needs_memory c call effect (Some d) log none wants =
    absurd (let z : wants_memory [] ≡ true = ap wants_memory (sym (none d refl)) ∙ wants in cc)

pub turn_refused : (config : Config) (c : ℕ) (log : List Act) (old : List Entry) (r : Refused) (kept : Connection) (device : KeptDevice)
    (new : State) → is_shut c log ≡ false → Turns config c log old (Err r) kept device → Acts config (Turn c) log (Err r) new
turn_refused config c log old NoMemory kept device new open_now (none, call, request, (next, asks, wants)) = (
  λ channel_log tells. rw open_now none,
  λ polled said. rw (asks, next)
      (taken_needs_memory c call (request_effect config polled c request (device_acts log)) (aborts request (device_acts log)) log
      (λ d e. (request_aborts config polled c request (device_acts log) d e).0) (wants polled said)),
)
turn_refused config c log old _ kept device new open_now why = λ channel_log tells. rw open_now why

-- ---- a Turn that finds no call

none_next : (found : Option (List ℕ)) → is_none found ≡ true → found ≡ None
none_next None e = refl
none_next (Some call) e = absurd cc

-- After a call was taken, the suspended call that it ends, if any, is ended.
abbrev pub EndsCall : Option ℕ → State → State → Type 0
EndsCall aborted state new = (k : Config) (mid : List Act) → Represents state k mid
    → ((d : ℕ) → aborted ≡ Some d → waits d (wait_acts (device_acts mid)) ≡ None → ⊥) → Represents new k (abort_acts aborted mid ++ mid)

turn_idle : (state new : State) (config : Config) (log : List Act) (c : ℕ) (aborted : Option ℕ) (kept : Connection) (device : KeptDevice)
    → Represents state config log → length state.connections ≡ 16 → c < 16 → is_shut c log ≡ false
    → Turns config c log state.device.waiting (Ok (Idle, aborted)) kept device
    → EndsCall aborted (record state { connections = set state.connections c kept; device = device }) new
    → Acts config (Turn c) log (Ok Idle) new
turn_idle state new config log c aborted kept device rep sixteen lt open_now (none, idle, nothing, mine, all, same) ends = (
  λ channel_log tells. rw open_now none,
  rw idle refl,
  λ polled said.
      let mid = acted state config log log c kept device rep sixteen lt mine all (λ d ne. refl) (rw same rep.taken) state.connections_used
      rep.connections_used in
      rw (none_next (next_call (of c log)) idle)
      (rw nothing at (ends config log mid (λ d e. absurd {0} (let z : None ≡ Some d = sym nothing ∙ e in cc)))),
)

-- ---- a Turn that takes a call

not_busy_of_found : (a b : Bool) (found : Option (List ℕ)) (call : List ℕ) → cond (a || b) None found ≡ Some call → b ≡ false
not_busy_of_found true b found call e = absurd cc
not_busy_of_found false true found call e = absurd cc
not_busy_of_found false false found call e = refl

pub not_busy : (c : ℕ) (log : List Act) (call : List ℕ) → next_call (of c log) ≡ Some call → is_busy (of c log) ≡ false
not_busy c log call e = not_busy_of_found _ (is_busy (of c log)) _ call e

turn_done : (state new : State) (config : Config) (log : List Act) (c : ℕ) (aborted : Option ℕ) (kept : Connection)
    (device : KeptDevice)
    → Represents state config log → length state.connections ≡ 16 → c < 16 → is_shut c log ≡ false
    → Turns config c log state.device.waiting (Ok (Done, aborted)) kept device
    → EndsCall aborted (record state { connections = set state.connections c kept; device = device }) new
    → Acts config (Turn c) log (Ok Done) new
turn_done state new config log c aborted kept device rep sixteen lt open_now (none, idle, call, request, is, (next, asks, so)) ends = (
  λ channel_log tells. rw open_now none,
  rw idle refl,
  λ polled said.
      let effect = request_effect config polled c request (device_acts log) in
      let acts = acts_of c effect ++ On c (CallTaken call) ∷ [] in
      let (done, held) = so polled said in
      let mid = turned state config log c call effect kept device rep sixteen lt (not_busy c log call next) done held
      (unshut_used c log open_now) in
      let waiting = λ (d : ℕ) (e : aborted ≡ Some d).
      let (empty, does) = request_aborts config polled c request (device_acts log) d (sym is ∙ e) in
      let same = device_taken c effect call log ∙ ap (λ (adds : List DeviceAct). adds ++ device_acts log) empty in
      subst (λ (b : List DeviceAct). waits d (wait_acts b) ≡ None → ⊥) (sym same) does in
      let all = ends config (acts ++ log) mid waiting in
      rw (asks, next, ← is)
      (subst (λ (l : List Act). Represents new config l) (sym (append_assoc (abort_acts aborted (acts ++ log)) acts log)) all),
)

-- ---- a Turn that isn't refused

pub turn_ends : (state new : State) (config : Config) (log : List Act) (c : ℕ) (did : Did) (aborted : Option ℕ) (kept : Connection)
    (device : KeptDevice)
    → Represents state config log → length state.connections ≡ 16 → c < 16 → is_shut c log ≡ false
    → Turns config c log state.device.waiting (Ok (did, aborted)) kept device
    → EndsCall aborted (record state { connections = set state.connections c kept; device = device }) new
    → Acts config (Turn c) log (Ok did) new
turn_ends state new config log c Idle aborted kept device rep sixteen lt open_now so ends =
    turn_idle state new config log c aborted kept device rep sixteen lt open_now so ends
turn_ends state new config log c Done aborted kept device rep sixteen lt open_now so ends =
    turn_done state new config log c aborted kept device rep sixteen lt open_now so ends
