-- A call that asks for the lock, and succeeds, takes it. A device_unlock that succeeds frees it.
use Rattle.std.proofs.Common.{◌≡◌, ◌≢◌, ℕ, ◌+◌, Bool, true, false, cond, List, [], ◌∷◌, ◌++◌, Option, Some, None, refl, sym, ap, subst, ◌∙◌, inl, inr, ◌⊎◌}
use Rattle.std.specs.Prelude.{not, pos}
use Rattle.std.proofs.lemmas.Bool.{eqb-true}
use Rattle.sv_vxi.specs.declared.error_code.ErrorCode.TheVariants.{NoError, NoLock, OutOfResources, Locked as DeviceLocked}
use Rattle.sv_vxi.specs.Arguments.{DeviceLock, Arguments, CreateLink, OnLink}
use Rattle.sv_vxi.specs.Results.{Outcome, Link, Plain}
use Rattle.sv_links.specs.Links.{Made, Locked, Unlocked, is_this, links_made, lids_left, holder, is_locked_out}
use Rattle.sv_exchange.specs.Limits.{max_message}
use Rattle.sv_history.specs.declared.event.Config.{Config}
use Rattle.sv_history.specs.Act.{DeviceAct, Linked, link_acts}
use Rattle.sv_history.specs.CallOutcome.{CallOutcome, answer_with, only}
use Rattle.sv_history.specs.CoreChannel.{own_call}
use Rattle.sv_laws.specs.LockFair.{AsksForLock, LockIsTaken, LockIsFreed}
use Rattle.sv_laws.proofs.LinksAlike.{locked_link_is_holder, holder_was_not_unlocked}

-- The result is that of a device_lock that succeeds, or of a create_link that made this link.
abbrev Succeeds : ℕ → ℕ → ℕ → Option Outcome → Type 0
Succeeds lid abort_port most result =
    (result ≡ Some (Plain NoError)) ⊎ (result ≡ Some (Link NoError (pos lid) abort_port most))

-- The link holds the lock after a call with this outcome.
abbrev HoldsLock : ℕ → List DeviceAct → CallOutcome → Type 0
HoldsLock lid acts outcome = holder (link_acts (outcome.adds ++ acts)) ≡ Some lid

-- A device_lock that succeeds gives its link the lock.
device_lock_holds : (out : Bool) (n lid abort_port most : ℕ) (acts : List DeviceAct) → n ≡ lid
    → let outcome = cond out (only (Plain DeviceLocked)) (answer_with (Linked (Locked n) ∷ []) (Plain NoError)) in
    Succeeds lid abort_port most outcome.result → HoldsLock lid acts outcome
device_lock_holds true n lid abort_port most acts same (inl done) = absurd cc
device_lock_holds true n lid abort_port most acts same (inr done) = absurd cc
device_lock_holds false n lid abort_port most acts same done = locked_link_is_holder n (link_acts acts) ∙ ap (λ (m : ℕ). Some m) same

-- A create_link that asks for the lock and succeeds gives its new link the lock.
create_link_holds : (left : Bool) (c n port size lid abort_port most : ℕ) (acts : List DeviceAct)
    → let outcome = cond (not left) (only (Link OutOfResources (pos 0) 0 0))
    (answer_with (Linked (Locked n) ∷ Linked (Made n c) ∷ []) (Link NoError (pos n) port size)) in
    Succeeds lid abort_port most outcome.result → HoldsLock lid acts outcome
create_link_holds false c n port size lid abort_port most acts (inl done) = absurd cc
create_link_holds false c n port size lid abort_port most acts (inr done) = absurd cc
create_link_holds true c n port size lid abort_port most acts (inl done) = absurd cc
create_link_holds true c n port size lid abort_port most acts (inr done) =
    let same : n ≡ lid = cc in locked_link_is_holder n (Made n c ∷ link_acts acts) ∙ ap (λ (m : ℕ). Some m) same

call_holds : (config : Config) (polled c lid abort_port most : ℕ) (arguments : Arguments) (acts : List DeviceAct)
    → AsksForLock lid arguments → Succeeds lid abort_port most (own_call config polled c arguments acts).result
    → HoldsLock lid acts (own_call config polled c arguments acts)
call_holds config polled c lid abort_port most (OnLink (pos n) (DeviceLock flags lock_timeout)) acts asks done =
    device_lock_holds (is_locked_out (holder (link_acts acts)) (Some n)) n lid abort_port most acts asks done
call_holds config polled c lid abort_port most (CreateLink client_id true lock_timeout device) acts asks done =
    create_link_holds (lids_left (link_acts acts)) c (links_made (link_acts acts) + 1) config.abort max_message lid abort_port most acts
    done
call_holds config polled c lid abort_port most (CreateLink client_id false lock_timeout device) acts asks done = absurd cc
call_holds config polled c lid abort_port most _ acts asks done = absurd asks

pub lock_is_taken : LockIsTaken
lock_is_taken config polled c lid abort_port most arguments acts outcome is asks done =
    subst (HoldsLock lid acts) (sym is) (call_holds config polled c lid abort_port most arguments acts asks
    (subst (λ (o : CallOutcome). Succeeds lid abort_port most o.result) is done))

-- ---- device_unlock

-- A device_unlock that succeeds was called on the lock holder, which then holds the lock no more.
unlock_frees_holder : (same : Bool) (lid : ℕ) (acts : List DeviceAct)
    → let outcome = cond same (answer_with (Linked (Unlocked lid) ∷ []) (Plain NoError)) (only (Plain NoLock)) in
    outcome.result ≡ Some (Plain NoError) → (same ≡ true) × (holder (link_acts (outcome.adds ++ acts)) ≢ Some lid)
unlock_frees_holder true lid acts done = (refl, (λ now. holder_was_not_unlocked lid lid (link_acts acts) now refl))
unlock_frees_holder false lid acts done = absurd cc

this_is_holder : (held : Option ℕ) (lid : ℕ) → is_this lid held ≡ true → held ≡ Some lid
this_is_holder None lid same = absurd cc
this_is_holder (Some other) lid same = ap (λ (n : ℕ). Some n) (eqb-true other lid same)

pub lock_is_freed : LockIsFreed
lock_is_freed config polled c lid acts outcome is done =
    let so = unlock_frees_holder (is_this lid (holder (link_acts acts))) lid acts
    (subst (λ (o : CallOutcome). o.result ≡ Some (Plain NoError)) is done) in (
      this_is_holder (holder (link_acts acts)) lid so.0,
      subst (λ (o : CallOutcome). holder (link_acts (o.adds ++ acts)) ≢ Some lid) (sym is) so.1,
    )
