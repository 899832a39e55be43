-- After a suspended call resumes or times out, the server has the state that its log determines.
use Rattle.std.proofs.Common.{◌≡◌, ℕ, ◌<◌, ◌≤◌, Bool, true, false, eqb, List, [], ◌∷◌, ◌++◌, length, set, Option, Some, None, refl, sym, ap, subst, ◌∙◌, inl, inr}
use Rattle.std.specs.Prelude.{is_none, ◌&&◌, option_map, map}
use Rattle.std.specs.List.{AllByRecursion}
use Rattle.std.proofs.lemmas.Bool.{cases_Bool, eqb-true}
use Rattle.sv_links.specs.declared.waiting.Entry.{Entry}
use Rattle.sv_links.specs.declared.waiting.Wait.{Wait}
use Rattle.sv_links.specs.declared.waiting.Wait.TheVariants.{Lock}
use Rattle.sv_links.specs.Links.{is_locked_out, holder}
use Rattle.sv_links.specs.Waiting.{WaitAct, waits, is_there, is_lock}
use Rattle.sv_links.specs.Queue.{IsEntry, entry_of, creates, creations, without}
use Rattle.sv_layers.specs.Act.{Act as InstrumentAct}
use Rattle.sv_history.specs.declared.event.Config.{Config}
use Rattle.sv_history.specs.Act.{Act, Applied, OnDevice, of, device_acts, link_acts, wait_acts, instrument_acts}
use Rattle.sv_history.specs.Connection.{pending_call}
use Rattle.sv_history.specs.Request.{core_call}
use Rattle.sv_history.specs.Effect.{Effect, acts_of}
use Rattle.sv_history.specs.Settling.{CanResume, InstrumentDoes}
use Rattle.sv_server.specs.Connection.Representation.{Connection}
use Rattle.sv_server.specs.Device.Representation.{Device as KeptDevice}
use Rattle.sv_history.specs.CoreCall.{creates_link}
use Rattle.sv_server.specs.Server.State.{State, Represents, IsTaken}
use Rattle.sv_server.specs.Server.Inside.Ending.{Concludes, ConcludesResumed, HasPlaceOfLink}
use Rattle.sv_server.specs.declared.device.resuming.WakeReason.TheVariants.{Able}
use Rattle.sv_server.specs.Server.Inside.Acting.{TakesStep}
use Rattle.sv_server.specs.Device.Inside.Outcome.{InstrumentSteps, MayResume, MayWaitAnew}
use Rattle.sv_history.proofs.Projections.{of_others_effect}
use Rattle.sv_server.proofs.OnDevice.Effects.{acts_of_effect_without_own}
use Rattle.sv_server.proofs.OnServer.Taken.{taken_after_leaving, taken_anew, holds_for_entry}
use Rattle.sv_server.proofs.OnServer.Used.{unanswered_used}
use Rattle.sv_server.proofs.OnServer.Logs.{stands_after_device_acts, stands_after_call_continues}
use Rattle.std.proofs.lemmas.Option.{same_Some}

-- ---- the suspended call of a connection

entry_conn : (c : ℕ) (xs : List Entry) (entry : Entry) → entry_of c xs ≡ Some entry → entry.conn ≡ c
entry_conn c [] entry e = absurd cc
entry_conn c (x ∷ xs) entry e = elim (cases_Bool (eqb x.conn c)) [
  | inl at ↦ let same : Some x ≡ Some entry = rw at at e in ap conn_of (sym same) ∙ eqb-true x.conn c at
  | inr at ↦ entry_conn c xs entry (rw at at e)
]
  where
    conn_of : Option Entry → ℕ
    conn_of (Some x) = x.conn
    conn_of None = 0

entry_there : (c : ℕ) (acts : List WaitAct) (found : Option Entry) → waits c acts ≡ option_map (λ entry. entry.wait) found
    → (waits c acts ≡ None → ⊥) → (entry : Entry) × (found ≡ Some entry)
entry_there c acts None all does = absurd (does all)
entry_there c acts (Some entry) all does = (entry, refl)

pub suspended_was_taken : (state : State) (config : Config) (log : List Act) (c : ℕ) → Represents state config log
    → (waits c (wait_acts (device_acts log)) ≡ None → ⊥) → (call : List ℕ) × (pending_call (of c log) ≡ Some call)
suspended_was_taken state config log c rep does =
    let (entry, found) = entry_there c (wait_acts (device_acts log)) (entry_of c state.device.waiting) (rep.device.4.all c) does in
    let (call, known, makes) = holds_for_entry (IsTaken log) c state.device.waiting entry rep.taken found in
    (call, subst (λ (d : ℕ). pending_call (of d log) ≡ Some call) (entry_conn c state.device.waiting entry found) known)

-- Only a connection below 16 has a suspended call.
pub suspended_is_below_16 : (state : State) (config : Config) (log : List Act) (c : ℕ) → Represents state config log
    → (waits c (wait_acts (device_acts log)) ≡ None → ⊥) → 16 ≤ c → ⊥
suspended_is_below_16 state config log c rep does above =
    let (call, known) = suspended_was_taken state config log c rep does in
    let none : pending_call (of c log) ≡ None = ap pending_call (rep.beyond c above) in
    let z : Some call ≡ None = sym known ∙ none in cc

-- ---- a suspended call times out

pub stands_after_time_out : (state : State) (config : Config) (log : List Act) (c : ℕ) (effect : Effect) (kept : Connection)
    (device : KeptDevice)
    → Represents state config log → length state.connections ≡ 16 → c < 16
    → Concludes effect config (of c log) (device_acts log) kept device → device.waiting ≡ without c state.device.waiting
    → (call : List ℕ) → pending_call (of c log) ≡ Some call
    → Represents (record state { connections = set state.connections c kept; device = device }) config (acts_of c effect ++ log)
stands_after_time_out state config log c effect kept device rep sixteen lt done left call known =
    stands_after_call_continues state config log c effect kept device rep sixteen lt done
    (rw left (taken_after_leaving c log (acts_of c effect ++ log) state.device.waiting (λ d ne. of_others_effect c d effect log ne)
    rep.taken))
    (unanswered_used (of c log) call known)

-- ---- a suspended call resumes

taken_after_resume : (c : ℕ) (log : List Act) (call : List ℕ) (effect : Effect) (old new : List Entry) → pending_call (of c log) ≡ Some call
    → MayWaitAnew (effect.own ≡ []) c (creates_link (core_call call)) old new → AllByRecursion (IsTaken log) old
    → AllByRecursion (IsTaken (acts_of c effect ++ log)) new
taken_after_resume c log call effect old new known (inl left) taken =
    rw left (taken_after_leaving c log (acts_of c effect ++ log) old (λ d ne. of_others_effect c d effect log ne) taken)
taken_after_resume c log call effect old new known (inr (none, wait, deadline, is, other)) taken =
    rw is (taken_anew c wait deadline log (acts_of c effect ++ log) old (λ d. acts_of_effect_without_own c d effect log none)
    (λ its e. let same : call ≡ its = same_Some call its (sym known ∙ e) in
    ap (λ (l : List ℕ). creates_link (core_call l)) (sym same) ∙ other) taken)

pub stands_after_resume : (state : State) (config : Config) (log : List Act) (c : ℕ) (call : List ℕ) (effect : Effect) (kept : Connection)
    (device : KeptDevice)
    → Represents state config log → length state.connections ≡ 16 → c < 16 → pending_call (of c log) ≡ Some call
    → ConcludesResumed effect c (core_call call) config (of c log) (device_acts log) state.device.waiting kept device
    → Represents (record state { connections = set state.connections c kept; device = device }) config (acts_of c effect ++ log)
stands_after_resume state config log c call effect kept device rep sixteen lt known (done, waits) =
    stands_after_call_continues state config log c effect kept device rep sixteen lt done
    (taken_after_resume c log call effect state.device.waiting device.waiting known waits rep.taken) (unanswered_used (of c log) call known)

-- A create_link that can resume finds the lock free.
lock_free_if_resumable : (locked : Option ℕ) (can_write can_read : Bool) (wait : Wait) (lid : Option ℕ)
    → is_there locked can_write can_read lid (Some wait) ≡ true → wait ≡ Lock → lid ≡ None → is_locked_out locked None ≡ false
lock_free_if_resumable None can_write can_read wait lid there w l = refl
lock_free_if_resumable (Some other) can_write can_read Lock None there w l = absurd cc
lock_free_if_resumable (Some other) can_write can_read Lock (Some lid) there w l = absurd cc
lock_free_if_resumable (Some other) can_write can_read _ lid there w l = absurd cc

there_as : (locked : Option ℕ) (can_write can_read : Bool) (wait : Wait) (lid named : Option ℕ) (waited : Option Wait)
    → waited ≡ Some wait → named ≡ lid → is_there locked can_write can_read named waited ≡ true
    → is_there locked can_write can_read lid (Some wait) ≡ true
there_as locked can_write can_read wait lid named waited w l there =
    subst (λ (o : Option ℕ). is_there locked can_write can_read o (Some wait) ≡ true) l
    (subst (λ (o : Option Wait). is_there locked can_write can_read named o ≡ true) w there)

creates_for : (wait : Wait) (lid : Option ℕ) → (is_lock (Some wait) && is_none lid) ≡ true → (wait ≡ Lock) × (lid ≡ None)
creates_for Lock None e = (refl, refl)
creates_for Lock (Some lid) e = absurd cc
creates_for _ lid e = absurd cc

pub may_resume : (kept : KeptDevice) (entry : Entry) (log : List Act) (call : List ℕ)
    → CanResume (device_acts log) entry.conn → IsEntry (wait_acts (device_acts log)) entry
    → (creates entry ≡ true → creations (without entry.conn kept.waiting) < creations kept.waiting)
    → (creates_link (core_call call) ≡ true → creates entry ≡ true)
    → MayResume (Able entry.wait) entry.conn (HasPlaceOfLink (core_call call) entry.conn kept (device_acts log)) (device_acts log)
may_resume kept entry log call able is fewer makes = (
  λ none. let z : Some entry.wait ≡ None = sym is.0 ∙ none in cc,
  λ creates_it.
      let so = makes creates_it in
      let (w, l) = creates_for entry.wait entry.lid so in (
        fewer so,
        lock_free_if_resumable (holder (link_acts (device_acts log))) _ _ entry.wait entry.lid
            (there_as (holder (link_acts (device_acts log))) _ _ entry.wait entry.lid _ _ is.0 is.2 able) w l,
      ),
)

-- ---- the instrument takes a step

no_instrument_step : (IsSuch : List InstrumentAct → List InstrumentAct → Type 0) (log : List Act)
    → ((new : List InstrumentAct) → IsSuch (instrument_acts (device_acts log)) new → ⊥) → (new : List Act) → InstrumentDoes IsSuch log new
    → ⊥
no_instrument_step IsSuch log none new (adds, such, is) = none (adds ++ instrument_acts (device_acts log)) such

pub instrument_takes_step : (IsSuch : List InstrumentAct → List InstrumentAct → Type 0) (state : State) (device : KeptDevice)
    (config : Config)
    (log : List Act) (done : Bool)
    → Represents state config log → InstrumentSteps IsSuch done config (device_acts log) state.device device
    → device.waiting ≡ state.device.waiting
    → TakesStep (λ k. InstrumentDoes IsSuch) done config log state (record state { device = device })
instrument_takes_step IsSuch state device config log false rep (none, same) kept =
    (no_instrument_step IsSuch log none, ap (λ (b : KeptDevice). record state { device = b }) same)
instrument_takes_step IsSuch state device config log true rep (adds, such, held) kept = (
  map OnDevice (map Applied adds) ++ log,
  (adds, such, refl),
  stands_after_device_acts state config log device (map Applied adds) rep
      held kept,
)
