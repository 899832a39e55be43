-- The acts that a call of the core channel adds to the acts of the device when it is executed.
use Rattle.std.proofs.Common.{◌≡◌, ℕ, ◌+◌, Bool, true, false, cond, List, length, nat_lt, Option, Some, None, refl, sym, ap, ◌∙◌, inl, inr}
use Rattle.std.specs.Prelude.{pos, not, is_some, ◌&&◌, ⊤}
use Rattle.std.proofs.lemmas.Bool.{cases_Bool}
use Rattle.sv_logs.proofs.Each.{Each}
use Rattle.sv_vxi.specs.declared.error_code.ErrorCode.TheVariants.{InvalidLink, NotAccessible, OutOfResources}
use Rattle.sv_vxi.specs.declared.arguments.GenericCall.TheVariants.{Readstb, Trigger, Clear}
use Rattle.sv_vxi.specs.Arguments.{DeviceWrite, DeviceRead, Generic, DeviceLock, DeviceUnlock, DeviceEnableSrq, DestroyLink, Arguments, CreateLink, OnLink, DestroyIntrChan, link, max_handle, is_create_link}
use Rattle.sv_links.specs.declared.waiting.Wait.{Wait}
use Rattle.sv_links.specs.declared.waiting.Wait.TheVariants.{Lock}
use Rattle.sv_links.specs.Links.{Made, links_made, owner, is_of, holder, is_this, is_locked_out, lids_left}
use Rattle.sv_links.specs.Channels.{SrqEnabled, ChannelOpened, ChannelTaken}
use Rattle.sv_laws.proofs.Facts.{some_injective}
use Rattle.sv_laws.proofs.LinksAlike.{owner_is_of}
use Rattle.sv_exchange.specs.Exchange.{has_ended, response, is_something}
use Rattle.sv_exchange.specs.Limits.{max_message}
use Rattle.sv_instrument.specs.Step.{is_answerable}
use Rattle.sv_history.specs.declared.event.Config.{Config}
use Rattle.sv_history.specs.Act.{DeviceAct, Linked, Waited, Channel, Ticked, link_acts, instrument_acts, exchange_acts}
use Rattle.sv_history.specs.CoreCall.{lid_of}
use Rattle.sv_history.specs.CoreChannel.{owns, own_call}
use Rattle.sv_history.specs.Interrupts.{has_channel}
use Rattle.sv_history.specs.Admission.{Stop, Fails, Awaits, stop_of}

-- An act that a call of connection `c` may add when it is executed. Only a create_link makes a
-- link, and it gets the next number. Service requests are enabled only for a link of this
-- connection. No call is suspended or leaves the queue, no channel opens, no peer takes bytes, and
-- no time passes.
abbrev pub IsActOfCall : ℕ → Arguments → List DeviceAct → DeviceAct → Type 0
IsActOfCall c arguments acts (Linked (Made lid conn)) = (lid ≡ links_made (link_acts acts) + 1) × (conn ≡ c)
    × (is_create_link arguments ≡ true)
IsActOfCall c arguments acts (Waited act) = ⊥
IsActOfCall c arguments acts (Channel (SrqEnabled lid conn handle)) = (conn ≡ c) × (owner lid (link_acts acts) ≡ Some conn)
IsActOfCall c arguments acts (Channel (ChannelOpened conn what)) = ⊥
IsActOfCall c arguments acts (Channel (ChannelTaken conn count)) = ⊥
IsActOfCall c arguments acts Ticked = ⊥
IsActOfCall c arguments acts _ = ⊤

-- All acts that the call adds are such acts, and the call has a result.
abbrev AreDone : Config → ℕ → ℕ → Arguments → List DeviceAct → Type 0
AreDone config polled c arguments acts = Each (IsActOfCall c arguments) (own_call config polled c arguments acts).adds acts
    × (is_some (own_call config polled c arguments acts).result ≡ true)

own_call_acts_and_result : (config : Config) (polled c : ℕ) (arguments : Arguments) (acts : List DeviceAct)
    → AreDone config polled c arguments acts
own_call_acts_and_result config polled c (CreateLink client_id true lock_timeout device) acts =
    elim (cases_Bool (lids_left (link_acts acts))) [
      | inl e ↦ rw e ((tt, ((refl, refl, refl), tt)), refl)
      | inr e ↦ rw e (tt, refl)
    ]
own_call_acts_and_result config polled c (CreateLink client_id false lock_timeout device) acts =
    elim (cases_Bool (lids_left (link_acts acts))) [
      | inl e ↦ rw e (((refl, refl, refl), tt), refl)
      | inr e ↦ rw e (tt, refl)
    ]
own_call_acts_and_result config polled c (OnLink (pos n) (DeviceWrite io_timeout lock_timeout flags bytes)) acts =
    elim (cases_Bool (nat_lt max_message (length bytes))) [
      | inl e ↦ rw e (tt, refl)
      | inr e ↦ elim (cases_Bool (has_ended (exchange_acts acts))) [ inl k ↦ rw (e, k) (tt, refl) | inr k ↦ rw (e, k) ((tt, tt), refl) ]
    ]
own_call_acts_and_result config polled c (OnLink (pos n) (DeviceRead request_size io_timeout lock_timeout flags term_char)) acts =
    elim (cases_Bool (is_answerable (instrument_acts acts))) [
      | inl k ↦ elim (cases_Bool (is_something (response (exchange_acts acts)))) [
        | inl e ↦ rw (k, e) ((tt, tt), refl)
        | inr e ↦ rw (k, e) ((tt, (tt, tt)), refl)
      ]
      | inr k ↦ elim (cases_Bool (is_something (response (exchange_acts acts)))) [
        | inl e ↦ rw (k, e) ((tt, tt), refl)
        | inr e ↦ rw (k, e) (tt, refl)
      ]
    ]
own_call_acts_and_result config polled c (OnLink (pos n) (Generic Readstb flags lock_timeout io_timeout)) acts = ((tt, tt), refl)
own_call_acts_and_result config polled c (OnLink (pos n) (Generic Trigger flags lock_timeout io_timeout)) acts = ((tt, tt), refl)
own_call_acts_and_result config polled c (OnLink (pos n) (Generic Clear flags lock_timeout io_timeout)) acts = ((tt, tt), refl)
own_call_acts_and_result config polled c (OnLink (pos n) (DeviceLock flags lock_timeout)) acts =
    elim (cases_Bool (is_locked_out (holder (link_acts acts)) (Some n))) [ inl e ↦ rw e (tt, refl) | inr e ↦ rw e ((tt, tt), refl) ]
own_call_acts_and_result config polled c (OnLink (pos n) DeviceUnlock) acts =
    elim (cases_Bool (is_this n (holder (link_acts acts)))) [ inl e ↦ rw e ((tt, tt), refl) | inr e ↦ rw e (tt, refl) ]
own_call_acts_and_result config polled c (OnLink (pos n) (DeviceEnableSrq true handle)) acts =
    elim (cases_Bool (is_of c (owner n (link_acts acts)))) [
      | inl e ↦ elim (cases_Bool (nat_lt max_handle (length handle))) [
        | inl k ↦ rw (e, k) (tt, refl)
        | inr k ↦ rw (e, k) (((refl, owner_is_of c (owner n (link_acts acts)) e), tt), refl)
      ]
      | inr e ↦ rw e (tt, refl)
    ]
own_call_acts_and_result config polled c (OnLink (pos n) (DeviceEnableSrq false handle)) acts =
    elim (cases_Bool (is_of c (owner n (link_acts acts)))) [ inl e ↦ rw e ((tt, tt), refl) | inr e ↦ rw e (tt, refl) ]
own_call_acts_and_result config polled c (OnLink (pos n) DestroyLink) acts = ((tt, tt), refl)
own_call_acts_and_result config polled c DestroyIntrChan acts =
    elim (cases_Bool (has_channel c acts)) [ inl e ↦ rw e ((tt, tt), refl) | inr e ↦ rw e (tt, refl) ]
own_call_acts_and_result config polled c _ acts = (tt, refl)

pub each_act_is_of_call : (config : Config) (polled c : ℕ) (arguments : Arguments) (acts : List DeviceAct)
    → Each (IsActOfCall c arguments) (own_call config polled c arguments acts).adds acts
each_act_is_of_call config polled c arguments acts = (own_call_acts_and_result config polled c arguments acts).0

pub executed_call_has_result : (config : Config) (polled c : ℕ) (arguments : Arguments) (acts : List DeviceAct)
    → is_some (own_call config polled c arguments acts).result ≡ true
executed_call_has_result config polled c arguments acts = (own_call_acts_and_result config polled c arguments acts).1

-- ---- a call that is suspended

pub owns_means_owner : (c : ℕ) (named : Option ℕ) (acts : List DeviceAct) (n : ℕ) → owns c named acts ≡ true → named ≡ Some n
    → owner n (link_acts acts) ≡ Some c
owns_means_owner c (Some m) acts n e is =
    ap (λ (k : ℕ). owner k (link_acts acts)) (sym (some_injective m n is)) ∙ owner_is_of c (owner m (link_acts acts)) e
owns_means_owner c None acts n e is = absurd cc

awaits_means_own : (own : Bool) (rest : Option Stop) (wait : Wait) (until : Option ℕ)
    → cond (not own) (Some (Fails InvalidLink)) rest ≡ Some (Awaits wait until) → own ≡ true
awaits_means_own false rest wait until e = absurd cc
awaits_means_own true rest wait until e = refl

-- The link that a suspended call names belongs to the connection of the call.
pub suspended_names_own_link : (c : ℕ) (arguments : Arguments) (acts : List DeviceAct) (wait : Wait) (until : Option ℕ) (n : ℕ)
    → stop_of c arguments acts ≡ Some (Awaits wait until) → lid_of (link arguments) ≡ Some n → owner n (link_acts acts) ≡ Some c
suspended_names_own_link c (OnLink lid call) acts wait until n e is =
    owns_means_owner c (lid_of (Some lid)) acts n (awaits_means_own (owns c (lid_of (Some lid)) acts) _ wait until e) is
suspended_names_own_link c _ acts wait until n e is = absurd cc

create_link_waits_for_lock : (named more asks locked : Bool) (timeout : ℕ) (wait : Wait) (until : Option ℕ)
    → cond (not named) (Some (Fails NotAccessible)) (cond (not more) (Some (Fails OutOfResources))
    (cond (asks && locked) (Some (Awaits Lock (Some timeout))) None)) ≡ Some (Awaits wait until) → wait ≡ Lock
create_link_waits_for_lock false more asks locked timeout wait until e = absurd cc
create_link_waits_for_lock true false asks locked timeout wait until e = absurd cc
create_link_waits_for_lock true true true true timeout wait until e = cc
create_link_waits_for_lock true true true false timeout wait until e = absurd cc
create_link_waits_for_lock true true false locked timeout wait until e = absurd cc

-- A create_link is suspended only for the lock, and names no link.
pub suspended_create_link : (c : ℕ) (arguments : Arguments) (acts : List DeviceAct) (wait : Wait) (until : Option ℕ)
    → stop_of c arguments acts ≡ Some (Awaits wait until) → is_create_link arguments ≡ true
    → (wait ≡ Lock) × (lid_of (link arguments) ≡ None)
suspended_create_link c (CreateLink client_id lock_device lock_timeout device) acts wait until e is =
    (create_link_waits_for_lock _ _ lock_device _ lock_timeout wait until e, refl)
suspended_create_link c _ acts wait until e is = absurd cc
