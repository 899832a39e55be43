-- The invariant `Fit`, and acts that keep it: each act of the device suits the acts before it, and
-- each link and each suspended call belongs to an open core channel.
use Rattle.std.proofs.Common.{◌≡◌, ◌≢◌, ℕ, ◌+◌, ◌<◌, true, List, [], ◌∷◌, ◌++◌, Option, Some, None, refl, sym, ap, subst, ◌∙◌, inl, inr, ◌⊎◌}
use Rattle.std.specs.Prelude.{map, ⊤}
use Rattle.std.proofs.lemmas.Bool.{cases_eq}
use Rattle.sv_logs.proofs.Each.{Each}
use Rattle.sv_vxi.specs.Arguments.{is_create_link}
use Rattle.sv_links.specs.declared.waiting.Wait.{Wait}
use Rattle.sv_links.specs.declared.waiting.Wait.TheVariants.{Lock}
use Rattle.sv_links.specs.Links.{Made, Destroyed, links_made, owner}
use Rattle.sv_links.specs.Waiting.{WaitAct, Entered, waits, link}
use Rattle.sv_links.specs.Channels.{SrqEnabled}
use Rattle.sv_laws.proofs.LinksAlike.{owner_before_destroy, owner_before_made}
use Rattle.sv_laws.proofs.CallsAlike.{SameCall, connection_of, foreign_act_keeps_call, same_call_refl}
use Rattle.sv_history.specs.declared.event.Role.TheVariants.{Core}
use Rattle.sv_history.specs.Act.{Act, ConnAct, DeviceAct, Linked, Waited, Channel, On, OnDevice, of, device_acts, link_acts, wait_acts}
use Rattle.sv_history.specs.Connection.{open_role, pending_call}
use Rattle.sv_history.specs.CoreCall.{CoreCall}
use Rattle.sv_history.specs.Request.{core_call_in}
use Rattle.sv_history.specs.Effect.{Effect, acts_of}
use Rattle.sv_history.proofs.Projections.{of_device_acts, device_acts_append, of_effect, of_others_effect, device_effect}

-- The act suits the acts before it. A link that is made gets the next number. A call that is
-- suspended is of a connection from 0 to 15, and the link that it names belongs to this connection.
-- Service requests are enabled for a link by the connection that owns it.
abbrev pub SuitsBefore : List DeviceAct → DeviceAct → Type 0
SuitsBefore acts (Linked (Made lid conn)) = lid ≡ links_made (link_acts acts) + 1
SuitsBefore acts (Waited (Entered conn named wait last)) = (conn < 16) × ((n : ℕ) → named ≡ Some n → owner n (link_acts acts) ≡ Some conn)
SuitsBefore acts (Channel (SrqEnabled lid conn handle)) = owner lid (link_acts acts) ≡ Some conn
SuitsBefore acts _ = ⊤

abbrev pub AllSuit : List DeviceAct → Type 0
AllSuit [] = ⊤
AllSuit (act ∷ acts) = SuitsBefore acts act × AllSuit acts

-- The pending call of the connection is a call of the core channel. If it is a create_link, it
-- waits for the lock and names no link.
abbrev pub IsCall : Wait → Option ℕ → List ConnAct → Type 0
IsCall wait named acts = (call : CoreCall) × (core_call_in (pending_call acts) ≡ Some call)
    × (is_create_link call.arguments ≡ true → (wait ≡ Lock) × (named ≡ None))

abbrev pub SuspendedIsOnCore : ℕ → List ConnAct → List WaitAct → Type 0
SuspendedIsOnCore c own acts = (wait : Wait) → waits c acts ≡ Some wait → (open_role own ≡ Some Core) × IsCall wait (link c acts) own

pub record Fit (log : List Act) : Type 0 where
  pub suits : AllSuit (device_acts log)
  pub core : (n c : ℕ) → owner n (link_acts (device_acts log)) ≡ Some c → open_role (of c log) ≡ Some Core
  pub held : (c : ℕ) → SuspendedIsOnCore c (of c log) (wait_acts (device_acts log))

pub suit_more : (adds acts : List DeviceAct) → Each SuitsBefore adds acts → AllSuit acts → AllSuit (adds ++ acts)
suit_more [] acts h all = all
suit_more (act ∷ adds) acts h all = (h.0, suit_more adds acts h.1 all)

-- If the connection has no suspended call, `IsHeld` holds.
pub none_suspended_is_on_core : (c : ℕ) (own : List ConnAct) (acts : List WaitAct) → waits c acts ≡ None → SuspendedIsOnCore c own acts
none_suspended_is_on_core c own acts none = λ wait is. absurd (let z : None ≡ Some wait = sym none ∙ is in cc)

-- ---- acts of one connection

-- The act suits the acts before it. If it makes a link, this link belongs to connection `c`, and
-- `May` holds. If it is an act of a suspended call, it is one of connection `c`.
abbrev pub IsActBy : ℕ → Type 0 → List DeviceAct → DeviceAct → Type 0
IsActBy c May acts (Linked (Made lid conn)) = (lid ≡ links_made (link_acts acts) + 1) × (conn ≡ c) × May
IsActBy c May acts (Waited (Entered conn named wait last)) =
    (conn ≡ c) × (conn < 16) × ((n : ℕ) → named ≡ Some n → owner n (link_acts acts) ≡ Some conn)
IsActBy c May acts (Waited act) = connection_of act ≡ c
IsActBy c May acts (Channel (SrqEnabled lid conn handle)) = owner lid (link_acts acts) ≡ Some conn
IsActBy c May acts _ = ⊤

by_suits : (c : ℕ) (May : Type 0) (adds acts : List DeviceAct) → Each (IsActBy c May) adds acts → Each SuitsBefore adds acts
by_suits c May [] acts h = tt
by_suits c May (act ∷ adds) acts h = (one act (adds ++ acts) h.0, by_suits c May adds acts h.1)
  where
    one : (act : DeviceAct) (acts : List DeviceAct) → IsActBy c May acts act → SuitsBefore acts act
    one (Linked (Made lid conn)) acts h = h.0
    one (Waited (Entered conn named wait last)) acts h = (h.1, h.2)
    one (Channel (SrqEnabled lid conn handle)) acts h = h
    one _ acts h = tt

-- Such acts leave the suspended calls of other connections as they are.
pub acts_by_keep_other_calls : (c d : ℕ) (May : Type 0) (adds acts : List DeviceAct) → d ≢ c → Each (IsActBy c May) adds acts
    → SameCall d (wait_acts (adds ++ acts)) (wait_acts acts)
acts_by_keep_other_calls c d May [] acts ne h = same_call_refl d (wait_acts acts)
acts_by_keep_other_calls c d May (Waited act ∷ adds) acts ne h = foreign_act_keeps_call d act (wait_acts (adds ++ acts)) (wait_acts acts)
    (λ e. ne (sym e ∙ conn_is act (adds ++ acts) h.0)) (acts_by_keep_other_calls c d May adds acts ne h.1)
  where
    conn_is : (act : WaitAct) (acts : List DeviceAct) → IsActBy c May acts (Waited act) → connection_of act ≡ c
    conn_is (Entered conn named wait last) acts h = h.0
    conn_is _ acts h = h
acts_by_keep_other_calls c d May (_ ∷ adds) acts ne h = acts_by_keep_other_calls c d May adds acts ne h.1

-- After such acts, the owner of a link is the one before, or it is connection `c` and `May` holds.
owner_after_acts_by : (c n d : ℕ) (May : Type 0) (adds acts : List DeviceAct) → Each (IsActBy c May) adds acts
    → owner n (link_acts (adds ++ acts)) ≡ Some d → (owner n (link_acts acts) ≡ Some d) ⊎ ((d ≡ c) × May)
owner_after_acts_by c n d May [] acts h is = inl is
owner_after_acts_by c n d May (Linked (Made lid conn) ∷ adds) acts h is =
    elim (owner_before_made n d lid conn (link_acts (adds ++ acts)) is) [
      | inl was ↦ owner_after_acts_by c n d May adds acts h.1 was
      | inr same ↦ inr (same ∙ h.0.1, h.0.2)
    ]
owner_after_acts_by c n d May (Linked (Destroyed lid) ∷ adds) acts h is =
    owner_after_acts_by c n d May adds acts h.1 (owner_before_destroy n d lid (link_acts (adds ++ acts)) is).1
owner_after_acts_by c n d May (_ ∷ adds) acts h is = owner_after_acts_by c n d May adds acts h.1 is

-- If the connection's acts and its suspended call are the same, `IsHeld` still holds.
pub same_call_stays_on_core : (c : ℕ) (own now : List ConnAct) (acts after : List WaitAct) → now ≡ own → SameCall c after acts
    → SuspendedIsOnCore c own acts → SuspendedIsOnCore c now after
same_call_stays_on_core c own now acts after same call held = λ wait is.
    let was = held wait (sym call.wait ∙ is) in (
      ap open_role same ∙ was.0,
      (
        was.1.0,
        ap (λ (l : List ConnAct). core_call_in (pending_call l)) same ∙ was.1.1,
        (λ makes. ((was.1.2 makes).0, call.named ∙ (was.1.2 makes).1)),
      ),
    )

-- ---- effects that keep the invariant

abbrev pub IsCore : ℕ → List Act → Type 0
IsCore c log = open_role (of c log) ≡ Some Core

-- What holds of connection `c` after the effect, and of each other connection before, holds of each
-- connection after the effect.
pub each_after_effect : (IsSo : ℕ → List ConnAct → Type 0) (c : ℕ) (effect : Effect) (log : List Act) → IsSo c (effect.own ++ of c log)
    → ((d : ℕ) → d ≢ c → IsSo d (of d log)) → (d : ℕ) → IsSo d (of d (acts_of c effect ++ log))
each_after_effect IsSo c effect log mine others d = elim (cases_eq d c) [
  | inl e ↦ subst (λ (n : ℕ). IsSo n (of n (acts_of c effect ++ log))) (sym e) (subst (IsSo c) (sym (of_effect c effect log)) mine)
  | inr ne ↦ subst (IsSo d) (sym (of_others_effect c d effect log ne)) (others d ne)
]

pub fit_effect : (c : ℕ) (effect : Effect) (log : List Act) → Fit log → Each (IsActBy c (IsCore c log)) effect.adds (device_acts log)
    → open_role (effect.own ++ of c log) ≡ open_role (of c log)
    → SuspendedIsOnCore c (effect.own ++ of c log) (wait_acts (effect.adds ++ device_acts log)) → Fit (acts_of c effect ++ log)
fit_effect c effect log fit by role held =
    let new = acts_of c effect ++ log in
    let acts = device_effect c effect log in
    record {
      suits = subst AllSuit (sym acts)
          (suit_more effect.adds (device_acts log) (by_suits c (IsCore c log) effect.adds (device_acts log) by) fit.suits);
      core = λ n d is. elim (owner_after_acts_by c n d (IsCore c log) effect.adds (device_acts log) by
          (subst (λ (l : List DeviceAct). owner n (link_acts l) ≡ Some d) acts is)) [
            | inl was ↦ roles d (fit.core n d was)
            | inr may ↦ roles d (ap (λ (e : ℕ). open_role (of e log)) may.0 ∙ may.1)
          ];
      held = λ d. subst (λ (l : List DeviceAct). SuspendedIsOnCore d (of d new) (wait_acts l)) (sym acts)
          (each_after_effect (λ d own. SuspendedIsOnCore d own (wait_acts (effect.adds ++ device_acts log))) c effect log held (λ d ne.
          same_call_stays_on_core d (of d log) (of d log) (wait_acts (device_acts log)) (wait_acts (effect.adds ++ device_acts log)) refl
          (acts_by_keep_other_calls c d (IsCore c log) effect.adds (device_acts log) ne by) (fit.held d)) d);
    }
  where
    roles : (d : ℕ) → open_role (of d log) ≡ Some Core → open_role (of d (acts_of c effect ++ log)) ≡ Some Core
    roles = each_after_effect (λ d own. open_role (of d log) ≡ Some Core → open_role own ≡ Some Core) c effect log (λ is. role ∙ is)
        (λ d ne is. is)

-- An act of one connection keeps `Fit` if it keeps the connection's role, and `IsHeld` holds after
-- it.
pub fit_after_act : (c : ℕ) (act : ConnAct) (log : List Act) → Fit log → open_role (act ∷ of c log) ≡ open_role (of c log)
    → SuspendedIsOnCore c (act ∷ of c log) (wait_acts (device_acts log)) → Fit (On c act ∷ log)
fit_after_act c act log fit role held = fit_effect c (record { own = act ∷ []; adds = [] }) log fit tt role held

-- An effect of connection `c` keeps `Fit` if it keeps the connection's role and leaves it no
-- suspended call.
pub fit_without_suspended : (c : ℕ) (effect : Effect) (log : List Act) → Fit log
    → Each (IsActBy c (IsCore c log)) effect.adds (device_acts log)
    → open_role (effect.own ++ of c log) ≡ open_role (of c log) → waits c (wait_acts (effect.adds ++ device_acts log)) ≡ None
    → Fit (acts_of c effect ++ log)
fit_without_suspended c effect log fit by role none = fit_effect c effect log fit by role
    (none_suspended_is_on_core c (effect.own ++ of c log) (wait_acts (effect.adds ++ device_acts log)) none)

pub fit_after_act_without_suspended : (c : ℕ) (act : ConnAct) (log : List Act) → Fit log → open_role (act ∷ of c log) ≡ open_role (of c log)
    → waits c (wait_acts (device_acts log)) ≡ None → Fit (On c act ∷ log)
fit_after_act_without_suspended c act log fit role none =
    fit_after_act c act log fit role (none_suspended_is_on_core c (act ∷ of c log) (wait_acts (device_acts log)) none)

-- Acts of the device keep `Fit` if they suit, and concern neither links nor suspended calls.
pub fit_after_device_acts : (adds : List DeviceAct) (log : List Act) → Fit log → AllSuit (adds ++ device_acts log)
    → link_acts (adds ++ device_acts log) ≡ link_acts (device_acts log) → wait_acts (adds ++ device_acts log) ≡ wait_acts (device_acts log)
    → Fit (map OnDevice adds ++ log)
fit_after_device_acts adds log fit suits links calls = record {
  suits = rw (device_acts_append adds log) suits;
  core = λ n c is. rw (of_device_acts c adds log) (fit.core n c (rw (device_acts_append adds log, links) at is));
  held = λ c. rw (device_acts_append adds log, calls, of_device_acts c adds log) (fit.held c);
}
