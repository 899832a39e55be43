-- A call has the same outcome after two logs that agree in everything on which the outcome depends.
use Rattle.std.proofs.Common.{◌≡◌, ℕ, false, List, ◌∷◌, ◌++◌, [], Option, Some, None, refl, ap, ◌∙◌, inl, inr, ◌⊎◌}
use Rattle.std.specs.Prelude.{pos}
use Rattle.sv_vxi.specs.declared.arguments.GenericCall.TheVariants.{Trigger}
use Rattle.sv_vxi.specs.Arguments.{LinkCall, DeviceWrite, DeviceRead, Generic, DeviceLock, DeviceUnlock, DeviceEnableSrq, Arguments, CreateLink, OnLink, CreateIntrChan, DestroyIntrChan, is_create_link}
use Rattle.sv_links.specs.declared.waiting.Wait.{Wait}
use Rattle.sv_links.specs.declared.waiting.Wait.TheVariants.{Lock}
use Rattle.sv_links.specs.Links.{owner, is_of, holder}
use Rattle.sv_links.specs.Waiting.{WaitAct, Left}
use Rattle.sv_links.specs.Channels.{peer}
use Rattle.sv_exchange.specs.Exchange.{has_ended, response}
use Rattle.sv_layers.specs.Act.{scan_acts}
use Rattle.sv_instrument.specs.Step.{is_answerable}
use Rattle.sv_history.specs.declared.event.Config.{Config}
use Rattle.sv_history.specs.Act.{DeviceAct, Waited, link_acts, wait_acts, channel_acts, instrument_acts, exchange_acts, ticks}
use Rattle.sv_history.specs.CallOutcome.{CallOutcome}
use Rattle.sv_history.specs.CoreCall.{CoreCall, lid_of}
use Rattle.sv_history.specs.CoreChannel.{owns, link_call, own_call}
use Rattle.sv_history.specs.Admission.{Stop, Fails, Awaits, device_wait, stop_of, admission}
use Rattle.sv_history.specs.Effect.{call_effect}
use Rattle.sv_history.specs.Resuming.{next_wait, resume_outcome, resume_effect}

-- Two logs agree in everything on which a call of this connection depends, unless it is a
-- create_link.
pub record SameGround (c : ℕ) (acts other : List DeviceAct) : Type 0 where
  pub ended : has_ended (exchange_acts acts) ≡ has_ended (exchange_acts other)
  pub answerable : is_answerable (instrument_acts acts) ≡ is_answerable (instrument_acts other)
  pub responds : response (exchange_acts acts) ≡ response (exchange_acts other)
  pub scanned : scan_acts (instrument_acts acts) ≡ scan_acts (instrument_acts other)
  pub owned : (n : ℕ) → is_of c (owner n (link_acts acts)) ≡ is_of c (owner n (link_acts other))
  pub held : holder (link_acts acts) ≡ holder (link_acts other)
  pub opened : peer c (channel_acts acts) ≡ peer c (channel_acts other)
  pub clock : ticks acts ≡ ticks other

-- The call isn't a create_link, or both logs have the same links and suspended calls.
abbrev pub NoCreateOrSameLinks : Arguments → List DeviceAct → List DeviceAct → Type 0
NoCreateOrSameLinks arguments acts other = (is_create_link arguments ≡ false)
    ⊎ ((link_acts acts ≡ link_acts other) × (wait_acts acts ≡ wait_acts other))

-- ---- what stops a call

owns_same : (c : ℕ) (named : Option ℕ) (acts other : List DeviceAct) → SameGround c acts other → owns c named acts ≡ owns c named other
owns_same c None acts other ground = refl
owns_same c (Some n) acts other ground = ground.owned n

wait_same : (c : ℕ) (call : LinkCall) (acts other : List DeviceAct) → SameGround c acts other
    → device_wait call acts ≡ device_wait call other
wait_same c (DeviceWrite io_timeout lock_timeout flags bytes) acts other ground = rw ground.ended refl
wait_same c (DeviceRead request_size io_timeout lock_timeout flags term_char) acts other ground = rw ground.answerable refl
wait_same c _ acts other ground = refl

pub stop_same : (c : ℕ) (arguments : Arguments) (acts other : List DeviceAct) → NoCreateOrSameLinks arguments acts other
    → SameGround c acts other → stop_of c arguments acts ≡ stop_of c arguments other
stop_same c (CreateLink client_id lock_device lock_timeout device) acts other (inl none) ground = absurd cc
stop_same c (CreateLink client_id lock_device lock_timeout device) acts other (inr same) ground = rw (same.0, same.1) refl
stop_same c (OnLink named call) acts other may ground =
    rw (wait_same c call acts other ground, owns_same c (lid_of (Some named)) acts other ground, ground.held) refl
stop_same c (CreateIntrChan host_addr host_port prog_num prog_vers prog_family) acts other may ground = rw ground.opened refl
stop_same c DestroyIntrChan acts other may ground = refl

-- ---- what a call does

link_call_same : (polled c n : ℕ) (call : LinkCall) (acts other : List DeviceAct) → SameGround c acts other
    → link_call polled c n call acts ≡ link_call polled c n call other
link_call_same polled c n (DeviceWrite io_timeout lock_timeout flags bytes) acts other ground = rw ground.ended refl
link_call_same polled c n (DeviceRead request_size io_timeout lock_timeout flags term_char) acts other ground =
    rw (ground.answerable, ground.responds) refl
link_call_same polled c n (Generic Trigger flags lock_timeout io_timeout) acts other ground = rw ground.scanned refl
link_call_same polled c n (DeviceLock flags lock_timeout) acts other ground = rw ground.held refl
link_call_same polled c n DeviceUnlock acts other ground = rw ground.held refl
link_call_same polled c n (DeviceEnableSrq enable handle) acts other ground = rw (ground.owned n) refl
link_call_same polled c n _ acts other ground = refl

own_call_same : (config : Config) (polled c : ℕ) (arguments : Arguments) (acts other : List DeviceAct)
    → NoCreateOrSameLinks arguments acts other
    → SameGround c acts other → own_call config polled c arguments acts ≡ own_call config polled c arguments other
own_call_same config polled c (CreateLink client_id lock_device lock_timeout device) acts other (inl none) ground = absurd cc
own_call_same config polled c (CreateLink client_id lock_device lock_timeout device) acts other (inr same) ground = rw same.0 refl
own_call_same config polled c (OnLink (pos n) call) acts other may ground = link_call_same polled c n call acts other ground
own_call_same config polled c DestroyIntrChan acts other may ground = rw ground.opened refl
own_call_same config polled c _ acts other may ground = refl

admission_same : (config : Config) (polled c : ℕ) (arguments : Arguments) (stop : Option Stop) (acts other : List DeviceAct)
    → NoCreateOrSameLinks arguments acts other → SameGround c acts other
    → admission config polled c arguments stop acts ≡ admission config polled c arguments stop other
admission_same config polled c arguments None acts other may ground = own_call_same config polled c arguments acts other may ground
admission_same config polled c arguments (Some (Fails error)) acts other may ground = refl
admission_same config polled c arguments (Some (Awaits wait timeout)) acts other may ground = rw ground.clock refl

pub admitted_same : (config : Config) (polled c : ℕ) (arguments : Arguments) (acts other : List DeviceAct)
    → NoCreateOrSameLinks arguments acts other → SameGround c acts other
    → admission config polled c arguments (stop_of c arguments acts) acts
    ≡ admission config polled c arguments (stop_of c arguments other) other
admitted_same config polled c arguments acts other may ground =
    ap (λ (stop : Option Stop). admission config polled c arguments stop acts) (stop_same c arguments acts other may ground)
    ∙ admission_same config polled c arguments (stop_of c arguments other) acts other may ground

-- ---- what a call does when it resumes

next_same : (c : ℕ) (wait : Wait) (arguments : Arguments) (acts other : List DeviceAct) → SameGround c acts other
    → next_wait wait arguments acts ≡ next_wait wait arguments other
next_same c Lock (OnLink named call) acts other ground = wait_same c call acts other ground
next_same c _ _ acts other ground = refl

resume_outcome_same : (config : Config) (polled c : ℕ) (arguments : Arguments) (next : Option (Wait × ℕ)) (acts other : List DeviceAct)
    → NoCreateOrSameLinks arguments acts other → SameGround c acts other
    → resume_outcome config polled c arguments next acts ≡ resume_outcome config polled c arguments next other
resume_outcome_same config polled c arguments (Some wait) acts other may ground = rw ground.clock refl
resume_outcome_same config polled c arguments None acts other may ground =
    let behind : SameGround c (Waited (Left c) ∷ acts) (Waited (Left c) ∷ other) = assumption in
    let made : NoCreateOrSameLinks arguments (Waited (Left c) ∷ acts) (Waited (Left c) ∷ other) =
    elim may [ inl none ↦ inl none | inr same ↦ inr (same.0, ap (λ (l : List WaitAct). Left c ∷ l) same.1) ] in
    ap (λ (what : CallOutcome). record what { adds = what.adds ++ Waited (Left c) ∷ [] })
    (own_call_same config polled c arguments (Waited (Left c) ∷ acts) (Waited (Left c) ∷ other) made behind)

pub resumed_same : (config : Config) (polled c : ℕ) (wait : Wait) (call : CoreCall) (acts other : List DeviceAct)
    → NoCreateOrSameLinks call.arguments acts other → SameGround c acts other
    → resume_effect config polled c wait (Some call) acts ≡ resume_effect config polled c wait (Some call) other
resumed_same config polled c wait call acts other may ground = ap (call_effect call.xid)
    (ap (λ (next : Option (Wait × ℕ)). resume_outcome config polled c call.arguments next acts)
    (next_same c wait call.arguments acts other ground)
    ∙ resume_outcome_same config polled c call.arguments (next_wait wait call.arguments other) acts other may ground)
