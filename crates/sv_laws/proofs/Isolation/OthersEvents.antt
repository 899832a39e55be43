-- While a link holds the lock, all acts of an event of another connection are foreign to the link's
-- connection (`IsForeignAct`), and so are the acts with which a call of another connection ends.
use Rattle.std.proofs.Common.{◌≡◌, ◌≢◌, ℕ, true, List, [], ◌∷◌, ◌++◌, Option, Some, None, sym, ap, subst, inl, inr}
use Rattle.std.specs.Prelude.{map, is_some, ◌&&◌}
use Rattle.std.proofs.lemmas.Bool.{cases_Bool}
use Rattle.sv_logs.proofs.Each.{Each, each_join}
use Rattle.sv_vxi.specs.declared.error_code.ErrorCode.TheVariants.{Abort}
use Rattle.sv_links.specs.Links.{LinkAct, owner, holder, closing, is_this}
use Rattle.sv_links.specs.Waiting.{Left, waits, link}
use Rattle.sv_laws.proofs.LinksAlike.{IsForeignLink, not_same}
use Rattle.sv_laws.proofs.Closed.{closing_is_foreign_to_others}
use Rattle.sv_history.specs.declared.event.Config.{Config}
use Rattle.sv_history.specs.declared.event.Port.TheVariants.{Conn, Intr}
use Rattle.sv_history.specs.Event.{PlainEvent, Open, Bytes, Turn, Refuse, Took, Close, Dialed}
use Rattle.sv_history.specs.Act.{Act, DeviceAct, CallTaken, PortClosed, Linked, Waited, On, OnDevice, of, device_acts, link_acts, wait_acts}
use Rattle.sv_history.specs.Connection.{next_call, pending_call}
use Rattle.sv_history.specs.CoreCall.{lid_of}
use Rattle.sv_history.specs.Effect.{acts_of}
use Rattle.sv_history.specs.Request.{Request, CoreRequest, AbortRequest, core_call_in, next_request}
use Rattle.sv_history.specs.AbortChannel.{owner_of, if_waiting}
use Rattle.sv_history.specs.Execution.{request_effect, aborts}
use Rattle.sv_history.specs.Refusing.{refusable}
use Rattle.sv_history.specs.History.{abort_acts, turn_acts, own_acts}
use Rattle.sv_laws.specs.Isolation.{is_foreign, aborted_link, LeavesLinksAlone}
use Rattle.sv_history.proofs.Projections.{link_acts_links}
use Rattle.sv_laws.proofs.EveryLog.Fit.{Fit}
use Rattle.sv_laws.proofs.EveryLog.EachEvent.{close_acts}
use Rattle.sv_laws.proofs.EveryLog.Known.{link_numbers_rise}
use Rattle.sv_laws.proofs.Isolation.Alike.{IsForeign, IsForeignAct}
use Rattle.sv_laws.proofs.Isolation.Shut.{others_call_is_foreign}
use Rattle.sv_laws.proofs.Isolation.OwnEvents.{IsOf, each_shared, each_effect, each_failed, each_connected, each_refused}

-- All acts of another connection `d` are foreign to connection `c`.
pub others_acts_are_foreign : (c d : ℕ) → d ≢ c → IsOf d (IsForeignAct c) (IsForeign c)
others_acts_are_foreign c d ne =
    record { own = λ log act. ne; shared = λ log act other. other; left = λ acts. ne; opened = λ acts peer. ne }

-- ---- a Turn

where_owner : (found lid : Option ℕ) (acts : List DeviceAct) (e : ℕ) → if_waiting found lid acts ≡ Some e → found ≡ Some e
where_owner None lid acts e h = absurd cc
where_owner (Some d) None acts e h = absurd cc
where_owner (Some d) (Some n) acts e h = elim (cases_Bool (is_some (waits d (wait_acts acts)) && is_this n (link d (wait_acts acts)))) [
  | inl k ↦ rw k at h
  | inr k ↦ absurd (let z : None ≡ Some e = rw k at h in cc)
]

aborts_owner : (request : Request) (acts : List DeviceAct) (e : ℕ) → aborts request acts ≡ Some e
    → owner_of (aborted_link (Some request)) acts ≡ Some e
aborts_owner (AbortRequest xid lid) acts e h = where_owner (owner_of (lid_of (Some lid)) acts) (lid_of (Some lid)) acts e h
aborts_owner _ acts e h = absurd cc

foreign_abort : (c : ℕ) (found : Option ℕ) (log : List Act) → found ≢ Some c → Each (IsForeignAct c) (abort_acts found log) log
foreign_abort c (Some e) log ne =
    each_failed e (others_acts_are_foreign c e (λ same. ne (ap (λ (n : ℕ). Some n) same))) Abort (core_call_in (pending_call (of e log)))
    log
foreign_abort c None log ne = tt

foreign_request : (config : Config) (polled c d lid : ℕ) (request : Request) (acts : List DeviceAct)
    → holder (link_acts acts) ≡ Some lid → owner lid (link_acts acts) ≡ Some c → d ≢ c
    → Each (IsForeign c) (request_effect config polled d request acts).adds acts
foreign_request config polled c d lid (CoreRequest call) acts held mine ne =
    others_call_is_foreign config polled c d lid call.arguments acts held mine ne
foreign_request config polled c d lid _ acts held mine ne = tt

foreign_turn : (config : Config) (polled c d lid : ℕ) (found : Option (List ℕ)) (request : Option Request) (log : List Act)
    → holder (link_acts (device_acts log)) ≡ Some lid → owner lid (link_acts (device_acts log)) ≡ Some c → d ≢ c
    → owner_of (aborted_link request) (device_acts log) ≢ Some c → Each (IsForeignAct c) (turn_acts config polled d found request log) log
foreign_turn config polled c d lid (Some bytes) (Some request) log held mine ne left_alone =
    let effect = request_effect config polled d request (device_acts log) in
    let acts = acts_of d effect ++ On d (CallTaken bytes) ∷ [] in
    let ends = aborts request (device_acts log) in
    each_join (IsForeignAct c) (abort_acts ends (acts ++ log)) acts log
    (foreign_abort c ends (acts ++ log) (λ is. left_alone (aborts_owner request (device_acts log) c is)))
    (each_join (IsForeignAct c) (acts_of d effect) (On d (CallTaken bytes) ∷ []) log
    (each_effect d (others_acts_are_foreign c d ne) effect (On d (CallTaken bytes) ∷ log)
    (foreign_request config polled c d lid request (device_acts log) held mine ne)) (ne, tt))
foreign_turn config polled c d lid _ _ log held mine ne left_alone = tt

-- ---- a connection closes

foreign_links : (c : ℕ) (links : List LinkAct) (acts : List DeviceAct)
    → Each (λ before act. IsForeignLink c act before) links (link_acts acts) → Each (IsForeign c) (map Linked links) acts
foreign_links c [] acts h = tt
foreign_links c (act ∷ links) acts h = (
  subst (λ (before : List LinkAct). IsForeignLink c act before) (sym (link_acts_links links acts)) h.0,
  foreign_links c links acts h.1,
)

foreign_close : (c d : ℕ) (log : List Act) → Fit log → d ≢ c
    → Each (IsForeignAct c) (map OnDevice (close_acts d (device_acts log)) ++ On d PortClosed ∷ []) log
foreign_close c d log fit ne =
    let acts = device_acts log in
    let links = closing d (link_acts acts) in
    each_join (IsForeignAct c) (map OnDevice (close_acts d acts)) (On d PortClosed ∷ []) log
    (each_shared d (others_acts_are_foreign c d ne) (close_acts d acts) (On d PortClosed ∷ log) (
      ne,
      each_join (IsForeign c) (map Linked links) (Waited (Left d) ∷ []) acts
          (foreign_links c links (Waited (Left d) ∷ acts)
          (closing_is_foreign_to_others c d _ (link_acts acts) ne (link_numbers_rise acts fit.suits))) (ne, tt),
    ))
    (ne, tt)

-- ---- an event

pub foreign_event : (config : Config) (polled c lid : ℕ) (event : PlainEvent) (log : List Act) → Fit log
    → holder (link_acts (device_acts log)) ≡ Some lid → owner lid (link_acts (device_acts log)) ≡ Some c → is_foreign c event ≡ true
    → LeavesLinksAlone c event log → Each (IsForeignAct c) (own_acts config polled event log) log
foreign_event config polled c lid (Open d role) log fit held mine other left_alone = (not_same d c other, tt)
foreign_event config polled c lid (Bytes d piece) log fit held mine other left_alone = (not_same d c other, tt)
foreign_event config polled c lid (Turn d) log fit held mine other left_alone =
    foreign_turn config polled c d lid (next_call (of d log)) (next_request (of d log)) log held mine (not_same d c other)
    left_alone.0
foreign_event config polled c lid (Refuse d) log fit held mine other left_alone =
    each_refused d (others_acts_are_foreign c d (not_same d c other)) (next_call (of d log)) (refusable (of d log)) log
foreign_event config polled c lid (Took (Conn d) count) log fit held mine other left_alone = (not_same d c other, tt)
foreign_event config polled c lid (Took (Intr d) count) log fit held mine other left_alone = (not_same d c other, tt)
foreign_event config polled c lid (Close (Conn d)) log fit held mine other left_alone =
    foreign_close c d log fit (not_same d c other)
foreign_event config polled c lid (Close (Intr d)) log fit held mine other left_alone = (not_same d c other, tt)
foreign_event config polled c lid (Dialed d ok) log fit held mine other left_alone =
    each_connected d (others_acts_are_foreign c d (not_same d c other)) ok (core_call_in (pending_call (of d log))) log
foreign_event config polled c lid _ log fit held mine other left_alone = absurd cc
