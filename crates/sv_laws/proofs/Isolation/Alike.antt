-- Two logs that are alike for a connection whose link holds the lock. They stay so after acts of
-- other connections in one of them, and after the same acts in both.
use Rattle.std.proofs.Common.{◌≡◌, ◌≢◌, ℕ, ◌+◌, Bool, true, false, eqb, List, [], ◌∷◌, ◌++◌, Option, Some, refl, sym, ap, subst, ◌∙◌, inl, inr}
use Rattle.std.specs.Prelude.{⊤, ◌↔◌, ◌==◌, if◌then◌else◌}
use Rattle.std.proofs.lemmas.Bool.{cases_Bool, ne_eqb}
use Rattle.sv_logs.proofs.Each.{Each}
use Rattle.sv_links.specs.declared.waiting.Wait.{Wait}
use Rattle.sv_links.specs.declared.waiting.Wait.TheVariants.{Input as ForInput, Response}
use Rattle.sv_links.specs.Links.{LinkAct, Destroyed, owner, is_of, holder}
use Rattle.sv_links.specs.Waiting.{WaitAct, Entered, Left}
use Rattle.sv_links.specs.Channels.{ChannelAct, SrqEnabled, SrqDisabled, ChannelOpened, ChannelClosed, Requested, ChannelTaken, peer}
use Rattle.sv_laws.proofs.Facts.{some_injective}
use Rattle.sv_laws.proofs.LinksAlike.{OwnsAlike, IsForeignLink, MakesNone, owns_alike_foreign_act, owns_alike_same_act, same_act_same_holder, owner_of_holder_kept, is_of_owner, owner_is_of}
use Rattle.sv_laws.proofs.CallsAlike.{SameCall, connection_of, foreign_act_keeps_call, call_sym, same_act_keeps_call}
use Rattle.sv_laws.proofs.ChannelsAlike.{SameChannel, IsForeignChannel, foreign_act_keeps_channel, same_act_keeps_channel, channel_sym}
use Rattle.sv_layers.specs.Act.{Act as InstrumentAct}
use Rattle.sv_layers.specs.StatusByte.{IsRaised}
use Rattle.sv_history.specs.Act.{Act, ConnAct, DeviceAct, Linked, Waited, Channel, Applied, Ticked, On, OnDevice, of, device_acts, link_acts, wait_acts, channel_acts, instrument_acts, ticks}
use Rattle.sv_history.specs.Requests.{HearsOf, link_told, request_told}
use Rattle.sv_laws.specs.Isolation.{NoOtherWaits}
use Rattle.sv_history.proofs.Projections.{of_other_act}
use Rattle.sv_history.proofs.Telling.{peer_after_act}
use Rattle.sv_laws.proofs.EveryLog.Fit.{AllSuit}
use Rattle.sv_laws.proofs.EveryLog.Known.{asks_elsewhere}

-- ---- the acts of the device

-- All that the calls of connection `c` depend on is the same in both logs. In both, link `lid` of
-- this connection holds the lock, and no read or write of another connection waits for the device.
pub record View (c lid : ℕ) (acts other : List DeviceAct) : Type 0 where
  pub instrument : instrument_acts acts ≡ instrument_acts other
  pub clock : ticks acts ≡ ticks other
  pub owns : OwnsAlike c (link_acts acts) (link_acts other)
  pub call : SameCall c (wait_acts acts) (wait_acts other)
  pub opened : peer c (channel_acts acts) ≡ peer c (channel_acts other)
  pub held : holder (link_acts acts) ≡ Some lid
  pub also : holder (link_acts other) ≡ Some lid
  pub mine : owner lid (link_acts acts) ≡ Some c
  pub rests : NoOtherWaits c (wait_acts acts)
  pub rest : NoOtherWaits c (wait_acts other)

pub owner_in_other_log : (c lid : ℕ) (acts other : List DeviceAct) → View c lid acts other → owner lid (link_acts other) ≡ Some c
owner_in_other_log c lid acts other view = owner_is_of c (owner lid (link_acts other))
    (sym (view.owns lid) ∙ is_of_owner c lid (link_acts acts) view.mine)

-- An act of another connection: on its own links, on its own call, which isn't suspended to wait
-- for the device, or on its own interrupt channel.
abbrev pub IsForeign : ℕ → List DeviceAct → DeviceAct → Type 0
IsForeign c acts (Linked act) = IsForeignLink c act (link_acts acts)
IsForeign c acts (Waited (Entered conn named wait last)) = (conn ≢ c) × (wait ≢ ForInput) × (wait ≢ Response)
IsForeign c acts (Waited (Left conn)) = conn ≢ c
IsForeign c acts (Channel (SrqEnabled lid conn handle)) = (conn ≢ c) × (is_of c (owner lid (link_acts acts)) ≡ false)
IsForeign c acts (Channel (SrqDisabled lid)) = is_of c (owner lid (link_acts acts)) ≡ false
IsForeign c acts (Channel (ChannelOpened conn what)) = conn ≢ c
IsForeign c acts (Channel (ChannelClosed conn)) = conn ≢ c
IsForeign c acts (Channel (ChannelTaken conn count)) = conn ≢ c
IsForeign c acts _ = ⊥

-- An act of this connection or of no connection; it makes no link.
abbrev pub IsOwn : ℕ → DeviceAct → Type 0
IsOwn c (Linked act) = MakesNone act
IsOwn c (Waited act) = connection_of act ≡ c
IsOwn c _ = ⊤

-- ---- no read or write of another connection waits for the device

rest_entered : (c conn : ℕ) (named : Option ℕ) (wait : Wait) (last : Option ℕ) (acts : List WaitAct) → wait ≢ ForInput → wait ≢ Response
    → NoOtherWaits c acts → NoOtherWaits c (Entered conn named wait last ∷ acts)
rest_entered c conn named wait last acts input response rest d ne = elim (cases_Bool (eqb conn d)) [
  | inl e ↦ rw e ((λ is. input (some_injective wait ForInput is)), (λ is. response (some_injective wait Response is)))
  | inr e ↦ rw e (rest d ne)
]

rest_left : (c conn : ℕ) (acts : List WaitAct) → NoOtherWaits c acts → NoOtherWaits c (Left conn ∷ acts)
rest_left c conn acts rest d ne = elim (cases_Bool (eqb conn d)) [
  | inl e ↦ rw e ((λ is. absurd cc), (λ is. absurd cc))
  | inr e ↦ rw e (rest d ne)
]

rest_own : (c : ℕ) (act : WaitAct) (acts : List WaitAct) → connection_of act ≡ c → NoOtherWaits c acts → NoOtherWaits c (act ∷ acts)
rest_own c (Left conn) acts same rest d ne = rw (ne_eqb conn d (λ e. ne (sym e ∙ same))) (rest d ne)
rest_own c _ acts same rest d ne = rw (ne_eqb _ d (λ e. ne (sym e ∙ same))) (rest d ne)

-- ---- after acts

peer_foreign : (c : ℕ) (acts : List DeviceAct) (act : ChannelAct) (more : List ChannelAct) → IsForeign c acts (Channel act)
    → peer c (act ∷ more) ≡ peer c more
peer_foreign c acts (ChannelOpened conn what) more h = rw (ne_eqb conn c h) refl
peer_foreign c acts (ChannelClosed conn) more h = rw (ne_eqb conn c h) refl
peer_foreign c acts _ more h = refl

pub foreign_act_keeps_view : (c lid : ℕ) (act : DeviceAct) (acts other : List DeviceAct) → IsForeign c acts act
    → holder (link_acts (act ∷ acts)) ≡ Some lid → View c lid acts other → View c lid (act ∷ acts) other
foreign_act_keeps_view c lid (Linked act) acts other h now view = assumption (
  owns_alike_foreign_act c act (link_acts acts) (link_acts other) h view.owns,
  now,
  owner_of_holder_kept c lid act (link_acts acts) now view.mine,
)
foreign_act_keeps_view c lid (Waited (Entered conn named wait last)) acts other h now view = assumption (
  foreign_act_keeps_call c (Entered conn named wait last) (wait_acts acts) (wait_acts other) h.0 view.call,
  rest_entered c conn named wait last (wait_acts acts) h.1 h.2 view.rests,
)
foreign_act_keeps_view c lid (Waited (Left conn)) acts other h now view = assumption (
  foreign_act_keeps_call c (Left conn) (wait_acts acts) (wait_acts other) h view.call,
  rest_left c conn (wait_acts acts) view.rests,
)
foreign_act_keeps_view c lid (Channel act) acts other h now view = assumption (peer_foreign c acts act (channel_acts acts) h ∙ view.opened)
foreign_act_keeps_view c lid _ acts other h now view = absurd h

-- A suspended call of another connection leaves the queue in the other log.
pub leaving_call_keeps_view : (c lid d : ℕ) (acts other : List DeviceAct) → d ≢ c → View c lid acts other
    → View c lid acts (Waited (Left d) ∷ other)
leaving_call_keeps_view c lid d acts other ne view =
    let back = call_sym c (wait_acts acts) (wait_acts other) view.call in
    assumption (
      call_sym c (Left d ∷ wait_acts other) (wait_acts acts) (foreign_act_keeps_call c (Left d) (wait_acts other) (wait_acts acts) ne back),
      rest_left c d (wait_acts other) view.rest,
    )

pub same_act_keeps_view : (c lid : ℕ) (act : DeviceAct) (acts other : List DeviceAct) → IsOwn c act
    → holder (link_acts (act ∷ acts)) ≡ Some lid → View c lid acts other → View c lid (act ∷ acts) (act ∷ other)
same_act_keeps_view c lid (Linked act) acts other h now view = assumption (
  owns_alike_same_act c act (link_acts acts) (link_acts other) h view.owns,
  now,
  same_act_same_holder lid act (link_acts acts) (link_acts other) view.also now,
  owner_of_holder_kept c lid act (link_acts acts) now view.mine,
)
same_act_keeps_view c lid (Waited act) acts other h now view = assumption (
  same_act_keeps_call c act (wait_acts acts) (wait_acts other) view.call,
  rest_own c act (wait_acts acts) h view.rests,
  rest_own c act (wait_acts other) h view.rest,
)
same_act_keeps_view c lid (Channel act) acts other h now view =
    assumption (peer_after_act c act (channel_acts acts) (channel_acts other) view.opened)
same_act_keeps_view c lid (Applied act) acts other h now view = assumption (ap (λ (l : List InstrumentAct). act ∷ l) view.instrument)
same_act_keeps_view c lid Ticked acts other h now view = assumption (ap (λ (n : ℕ). n + 1) view.clock)

-- ---- the logs of the interrupt channels

-- For each log of the interrupt channels that the one list of acts leads to, the other list leads
-- to one that is the same for the channel of connection `c`.
abbrev pub TellsAs : ℕ → List DeviceAct → List DeviceAct → Type 0
TellsAs c acts other = (channel_log : List ChannelAct) → HearsOf acts channel_log
    → (also : List ChannelAct) × HearsOf other also × SameChannel c channel_log also

foreign_told : (c : ℕ) (acts : List DeviceAct) (channel_log : List ChannelAct) (act : ChannelAct) → AllSuit acts → HearsOf acts channel_log
    → IsForeign c acts (Channel act) → IsForeignChannel c act channel_log
foreign_told c acts channel_log (SrqEnabled lid conn handle) all hears h = (h.0, asks_elsewhere c lid acts channel_log all hears h.1)
foreign_told c acts channel_log (SrqDisabled lid) all hears h = asks_elsewhere c lid acts channel_log all hears h
foreign_told c acts channel_log _ all hears h = h

foreign_link : (c : ℕ) (acts : List DeviceAct) (channel_log also : List ChannelAct) (act : LinkAct) → AllSuit acts
    → HearsOf acts channel_log
    → IsForeignLink c act (link_acts acts) → SameChannel c channel_log also → SameChannel c (link_told act channel_log) also
foreign_link c acts channel_log also (Destroyed lid) all hears h same =
    foreign_act_keeps_channel c (SrqDisabled lid) channel_log also (asks_elsewhere c lid acts channel_log all hears h) same
foreign_link c acts channel_log also _ all hears h same = same

pub tells_foreign : (c : ℕ) (act : DeviceAct) (acts other : List DeviceAct) → AllSuit acts → IsForeign c acts act → TellsAs c acts other
    → TellsAs c (act ∷ acts) other
tells_foreign c (Linked act) acts other all h tells = λ channel_log (before, hears, is).
    let so = tells before hears in
    (so.0, so.1, rw is (foreign_link c acts before so.0 act all hears h so.2))
tells_foreign c (Waited act) acts other all h tells = tells
tells_foreign c (Channel act) acts other all h tells = λ channel_log (before, hears, is).
    let so = tells before hears in
    (so.0, so.1, rw is (foreign_act_keeps_channel c act before so.0 (foreign_told c acts before act all hears h) so.2))
tells_foreign c (Applied act) acts other all h tells = absurd h
tells_foreign c Ticked acts other all h tells = absurd h

-- The same with the act in the other log.
pub tells_back : (c : ℕ) (act : DeviceAct) (acts other : List DeviceAct) → AllSuit acts → IsForeign c acts act → TellsAs c other acts
    → TellsAs c other (act ∷ acts)
tells_back c (Linked act) acts other all h tells = λ channel_log hears.
    let so = tells channel_log hears in (
      link_told act so.0,
      (so.0, so.1, refl),
      channel_sym c (link_told act so.0) channel_log
          (foreign_link c acts so.0 channel_log act all so.1 h (channel_sym c channel_log so.0 so.2)),
    )
tells_back c (Waited act) acts other all h tells = tells
tells_back c (Channel act) acts other all h tells = λ channel_log hears.
    let so = tells channel_log hears in (
      act ∷ so.0,
      (so.0, so.1, refl),
      channel_sym c (act ∷ so.0) channel_log
          (foreign_act_keeps_channel c act so.0 channel_log (foreign_told c acts so.0 act all so.1 h)
          (channel_sym c channel_log so.0 so.2)),
    )
tells_back c (Applied act) acts other all h tells = absurd h
tells_back c Ticked acts other all h tells = absurd h

same_link : (c : ℕ) (channel_log also : List ChannelAct) (act : LinkAct) → SameChannel c channel_log also
    → SameChannel c (link_told act channel_log) (link_told act also)
same_link c channel_log also (Destroyed lid) same = same_act_keeps_channel c (SrqDisabled lid) channel_log also same
same_link c channel_log also _ same = same

same_request : (c : ℕ) (channel_log also : List ChannelAct) (raised : Bool) → SameChannel c channel_log also
    → SameChannel c (request_told raised channel_log) (request_told raised also)
same_request c channel_log also true same = same_act_keeps_channel c Requested channel_log also same
same_request c channel_log also false same = same

pub tells_same : (c : ℕ) (act : DeviceAct) (acts other : List DeviceAct) → instrument_acts acts ≡ instrument_acts other
    → TellsAs c acts other → TellsAs c (act ∷ acts) (act ∷ other)
tells_same c (Linked act) acts other instrument tells = λ channel_log (before, hears, is).
    let so = tells before hears in (link_told act so.0, (so.0, so.1, refl), rw is (same_link c before so.0 act so.2))
tells_same c (Waited act) acts other instrument tells = tells
tells_same c (Channel act) acts other instrument tells = λ channel_log (before, hears, is).
    let so = tells before hears in (act ∷ so.0, (so.0, so.1, refl), rw is (same_act_keeps_channel c act before so.0 so.2))
tells_same c (Applied act) acts other instrument tells = λ channel_log (before, raised, hears, raises, is).
    let so = tells before hears in (
      request_told raised so.0,
      (so.0, raised, so.1, subst (λ (l : List InstrumentAct). (raised ≡ true) ↔ IsRaised (act ∷ l)) instrument raises, refl),
      rw is (same_request c before so.0 raised so.2),
    )
tells_same c Ticked acts other instrument tells = tells

-- ---- logs

pub record Pair (c lid : ℕ) (log other : List Act) : Type 0 where
  pub own : of c log ≡ of c other
  pub view : View c lid (device_acts log) (device_acts other)
  pub tells : TellsAs c (device_acts log) (device_acts other)
  pub back : TellsAs c (device_acts other) (device_acts log)

abbrev pub IsForeignAct : ℕ → List Act → Act → Type 0
IsForeignAct c log (On d act) = d ≢ c
IsForeignAct c log (OnDevice act) = IsForeign c (device_acts log) act

abbrev pub IsOwnAct : ℕ → List Act → Act → Type 0
IsOwnAct c log (On d act) = ⊤
IsOwnAct c log (OnDevice act) = IsOwn c act

-- Link `lid` holds the lock after the act.
abbrev pub HoldsAfter : ℕ → List Act → Act → Type 0
HoldsAfter lid log act = holder (link_acts (device_acts (act ∷ log))) ≡ Some lid

-- Acts of other connections are added to the one log.
pub foreign_acts_keep_pair : (c lid : ℕ) (new log other : List Act) → Each (IsForeignAct c) new log → Each (HoldsAfter lid) new log
    → AllSuit (device_acts (new ++ log)) → Pair c lid log other → Pair c lid (new ++ log) other
foreign_acts_keep_pair c lid [] log other h locks all pair = pair
foreign_acts_keep_pair c lid (On d act ∷ new) log other h locks all pair =
    let so = foreign_acts_keep_pair c lid new log other h.1 locks.1 all pair in
    assumption (of_other_act d c act (new ++ log) (λ e. h.0 (sym e)) ∙ so.own)
foreign_acts_keep_pair c lid (OnDevice act ∷ new) log other h locks all pair =
    let so = foreign_acts_keep_pair c lid new log other h.1 locks.1 all.1 pair in
    assumption (
      foreign_act_keeps_view c lid act (device_acts (new ++ log)) (device_acts other) h.0 locks.0 so.view,
      tells_foreign c act (device_acts (new ++ log)) (device_acts other) all.1 h.0 so.tells,
      tells_back c act (device_acts (new ++ log)) (device_acts other) all.1 h.0 so.back,
    )

-- The same acts are added to both logs.
pub same_acts_keep_pair : (c lid : ℕ) (new log other : List Act) → Each (IsOwnAct c) new log → Each (HoldsAfter lid) new log
    → Pair c lid log other → Pair c lid (new ++ log) (new ++ other)
same_acts_keep_pair c lid [] log other h locks pair = pair
same_acts_keep_pair c lid (On d act ∷ new) log other h locks pair =
    let so = same_acts_keep_pair c lid new log other h.1 locks.1 pair in
    assumption (ap (λ (l : List ConnAct). if d == c then act ∷ l else l) so.own)
same_acts_keep_pair c lid (OnDevice act ∷ new) log other h locks pair =
    let so = same_acts_keep_pair c lid new log other h.1 locks.1 pair in
    record {
      own = so.own;
      view = same_act_keeps_view c lid act (device_acts (new ++ log)) (device_acts (new ++ other)) h.0 locks.0 so.view;
      tells = tells_same c act (device_acts (new ++ log)) (device_acts (new ++ other)) so.view.instrument so.tells;
      back = tells_same c act (device_acts (new ++ other)) (device_acts (new ++ log)) (sym so.view.instrument) so.back;
    }

-- An act by which the suspended call of another connection ends.
abbrev pub IsLeaving : ℕ → List Act → Act → Type 0
IsLeaving c log (On d act) = d ≢ c
IsLeaving c log (OnDevice (Waited (Left d))) = d ≢ c
IsLeaving c log (OnDevice _) = ⊥

-- Such acts are added to the other log.
pub leaving_acts_keep_pair : (c lid : ℕ) (new log other : List Act) → Each (IsLeaving c) new other → Pair c lid log other
    → Pair c lid log (new ++ other)
leaving_acts_keep_pair c lid [] log other h pair = pair
leaving_acts_keep_pair c lid (On d act ∷ new) log other h pair =
    let so = leaving_acts_keep_pair c lid new log other h.1 pair in
    assumption (so.own ∙ sym (of_other_act d c act (new ++ other) (λ e. h.0 (sym e))))
leaving_acts_keep_pair c lid (OnDevice (Waited (Left d)) ∷ new) log other h pair =
    let so = leaving_acts_keep_pair c lid new log other h.1 pair in
    assumption (leaving_call_keeps_view c lid d (device_acts log) (device_acts (new ++ other)) h.0 so.view)
leaving_acts_keep_pair c lid (OnDevice _ ∷ new) log other h pair = absurd h.0
