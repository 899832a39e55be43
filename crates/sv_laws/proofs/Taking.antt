-- Two histories that differ only in their Took events send the same bytes, if neither leaves out a
-- call of a service request.
use Rattle.std.proofs.Common.{◌≡◌, ℕ, ◌+◌, ◌≤◌, Bool, true, false, List, [], ◌∷◌, ◌++◌, length, drop, Option, Some, None, refl, sym, ap, subst, ◌∙◌, inl, inr, arith}
use Rattle.std.specs.Prelude.{◌==◌, ◌⊎◌, max, is_some, if◌then◌else◌}
use Rattle.std.specs.List.{concat, filter_map, fold, range_with_len}
use Rattle.std.proofs.lemmas.Bool.{cases_Bool}
use Rattle.std.proofs.lemmas.List.{length-append}
use Rattle.sv_links.specs.declared.enabled.Enabled.{Enabled}
use Rattle.sv_links.specs.declared.request.Peer.{Peer}
use Rattle.sv_links.specs.Links.{LinkAct, Destroyed}
use Rattle.sv_links.specs.Request.{request}
use Rattle.sv_links.specs.Channels.{ChannelAct, SrqEnabled, SrqDisabled, ChannelOpened, ChannelClosed, Requested, ChannelTaken, srq_enabled, past, enabled_links, handles_of, peer, bytes_taken, may_call, add_call, calls, all_calls}
use Rattle.sv_history.specs.declared.event.Config.{Config}
use Rattle.sv_history.specs.declared.event.Port.{Port}
use Rattle.sv_history.specs.declared.event.Port.TheVariants.{Conn, Intr}
use Rattle.sv_history.specs.Event.{PlainEvent, Took}
use Rattle.sv_history.specs.Act.{Act, ConnAct, DeviceAct, BytesTaken, Linked, Waited, Channel, Applied, Ticked, On, OnDevice, of, device_acts, instrument_acts}
use Rattle.sv_history.specs.Requests.{HearsOf, link_told, request_told}
use Rattle.sv_history.specs.Connection.{free}
use Rattle.sv_history.specs.History.{IsLogOf}
use Rattle.sv_history.proofs.AlwaysTold.{channel_log_exists}
use Rattle.sv_history.proofs.Telling.{channel_log_unique}
use Rattle.sv_history.proofs.StillSettled.{still_settled, channel_settled}
use Rattle.sv_laws.specs.Adding.{all_sent, Sends}
use Rattle.sv_laws.specs.Taking.{is_took, without_took, NoneLeftOut, HasSpare, Taking}
use Rattle.sv_laws.proofs.Facts.{relation_of_equals}
use Rattle.sv_laws.proofs.OneLog.{sends_in_other_history}
use Rattle.sv_laws.proofs.EveryLog.Steps.{log_settled, settled_log_stays}
use Rattle.sv_laws.proofs.Cuts.SameDevice.{SameDevice, same_device_refl, act_keeps_same_device, same_device_sym}
use Rattle.sv_laws.proofs.Cuts.SameStatus.{same_act_raises_same}
use Rattle.sv_laws.proofs.Cuts.SharedSteps.{SameCalls}
use Rattle.sv_laws.proofs.Cuts.SharedEvents.{SameNext}
use Rattle.sv_laws.proofs.Cuts.KeptLogs.{IsKept, kept_through_event}
use Rattle.sv_laws.proofs.Cuts.SameView.{SameConnection, connection_none, same_connection_sym, act_keeps_same_connection, next_call_same, next_request_same}

-- ---- the log of the interrupt channels without the bytes taken

abbrev pub untaken : List ChannelAct → List ChannelAct
untaken [] = []
untaken (ChannelTaken conn count ∷ acts) = untaken acts
untaken (SrqEnabled lid conn handle ∷ acts) = SrqEnabled lid conn handle ∷ untaken acts
untaken (SrqDisabled lid ∷ acts) = SrqDisabled lid ∷ untaken acts
untaken (ChannelOpened conn what ∷ acts) = ChannelOpened conn what ∷ untaken acts
untaken (ChannelClosed conn ∷ acts) = ChannelClosed conn ∷ untaken acts
untaken (Requested ∷ acts) = Requested ∷ untaken acts

peer_same : (c : ℕ) (acts : List ChannelAct) → peer c (untaken acts) ≡ peer c acts
peer_same c [] = refl
peer_same c (ChannelOpened conn what ∷ acts) = ap (λ (o : Option Peer). if conn == c then Some what else o) (peer_same c acts)
peer_same c (ChannelClosed conn ∷ acts) = ap (λ (o : Option Peer). if conn == c then None else o) (peer_same c acts)
peer_same c (_ ∷ acts) = peer_same c acts

enabled_same : (lid : ℕ) (acts : List ChannelAct) → srq_enabled lid (untaken acts) ≡ srq_enabled lid acts
enabled_same lid [] = refl
enabled_same lid (SrqEnabled other conn handle ∷ acts) = ap
    (λ (o : Option Enabled). if other == lid then Some (record { lid = lid; conn = conn; handle = handle }) else o) (enabled_same lid acts)
enabled_same lid (SrqDisabled other ∷ acts) = ap (λ (o : Option Enabled). if other == lid then None else o) (enabled_same lid acts)
enabled_same lid (_ ∷ acts) = enabled_same lid acts

past_same : (acts : List ChannelAct) → past (untaken acts) ≡ past acts
past_same [] = refl
past_same (SrqEnabled lid conn handle ∷ acts) = ap (λ (n : ℕ). max (lid + 1) n) (past_same acts)
past_same (_ ∷ acts) = past_same acts

filter_map_same : {A B : Type 0} (f g : A → Option B) → ((x : A) → f x ≡ g x) → (xs : List A) → filter_map f xs ≡ filter_map g xs
filter_map_same f g same [] = refl
filter_map_same f g same (x ∷ xs) = rw (same x, filter_map_same f g same xs) refl

links_same : (acts : List ChannelAct) → enabled_links (untaken acts) ≡ enabled_links acts
links_same acts =
    ap (λ (n : ℕ). filter_map (λ lid. srq_enabled lid (untaken acts)) (range_with_len 0 n)) (past_same acts)
    ∙ filter_map_same (λ lid. srq_enabled lid (untaken acts)) (λ lid. srq_enabled lid acts) (λ lid. enabled_same lid acts)
    (range_with_len 0 (past acts))

-- ---- the calls of a channel that is never full

abbrev add_call_unlimited : Option Peer → List (List ℕ) → List ℕ → List (List ℕ)
add_call_unlimited (Some what) calls handle = calls ++ request (length calls + 1) what handle ∷ []
add_call_unlimited None calls handle = calls

abbrev calls_unlimited : ℕ → List ChannelAct → List (List ℕ)
calls_unlimited c [] = []
calls_unlimited c (ChannelOpened conn what ∷ acts) = if conn == c then [] else calls_unlimited c acts
calls_unlimited c (ChannelClosed conn ∷ acts) = if conn == c then [] else calls_unlimited c acts
calls_unlimited c (Requested ∷ acts) = fold (add_call_unlimited (peer c acts)) (calls_unlimited c acts) (handles_of c (enabled_links acts))
calls_unlimited c (_ ∷ acts) = calls_unlimited c acts

abbrev all_calls_unlimited : ℕ → List ChannelAct → List (List ℕ)
all_calls_unlimited c [] = []
all_calls_unlimited c (Requested ∷ acts) = all_calls_unlimited c acts ++ drop (length (calls_unlimited c acts))
    (calls_unlimited c (Requested ∷ acts))
all_calls_unlimited c (_ ∷ acts) = all_calls_unlimited c acts

free_same : (c : ℕ) (acts : List ChannelAct) → calls_unlimited c (untaken acts) ≡ calls_unlimited c acts
free_same c [] = refl
free_same c (ChannelOpened conn what ∷ acts) = ap (λ (l : List (List ℕ)). if conn == c then [] else l) (free_same c acts)
free_same c (ChannelClosed conn ∷ acts) = ap (λ (l : List (List ℕ)). if conn == c then [] else l) (free_same c acts)
free_same c (Requested ∷ acts) = rw (peer_same c acts, free_same c acts, links_same acts) refl
free_same c (_ ∷ acts) = free_same c acts

free_all_same : (c : ℕ) (acts : List ChannelAct) → all_calls_unlimited c (untaken acts) ≡ all_calls_unlimited c acts
free_all_same c [] = refl
free_all_same c (Requested ∷ acts) =
    rw (free_all_same c acts, free_same c acts, peer_same c acts, links_same acts) refl
free_all_same c (_ ∷ acts) = free_all_same c acts

at_most_one_call_per_handle : (what : Peer) (t : ℕ) (cs handles : List (List ℕ))
    → length (fold (add_call (Some what) t) cs handles) ≤ length cs + length handles
at_most_one_call_per_handle what t cs [] = omega arith
at_most_one_call_per_handle what t cs (handle ∷ handles) = elim (cases_Bool (may_call t cs)) [
  | inl e ↦
      let one = at_most_one_call_per_handle what t (cs ++ request (length cs + 1) what handle ∷ []) handles in
      let size = length-append cs (request (length cs + 1) what handle ∷ []) in
      let le : length (fold (add_call (Some what) t) (cs ++ request (length cs + 1) what handle ∷ []) handles)
      ≤ length cs + (length handles + 1) = omega (arith, one, size) in
      rw e (omega (arith, le))
  | inr e ↦ let one = at_most_one_call_per_handle what t cs handles in rw e (omega (arith, one))
]

all_handles_added : (what : Peer) (t : ℕ) (cs handles : List (List ℕ))
    → length (fold (add_call (Some what) t) cs handles) ≡ length cs + length handles
    → fold (add_call (Some what) t) cs handles ≡ fold (add_call_unlimited (Some what)) cs handles
all_handles_added what t cs [] h = refl
all_handles_added what t cs (handle ∷ handles) h = elim (cases_Bool (may_call t cs)) [
  | inl e ↦
      let size = length-append cs (request (length cs + 1) what handle ∷ []) in
      let so : length (fold (add_call (Some what) t) (cs ++ request (length cs + 1) what handle ∷ []) handles)
      ≡ length cs + length (handle ∷ handles) = rw e at h in
      rw e (all_handles_added what t (cs ++ request (length cs + 1) what handle ∷ []) handles (omega (arith, so, size)))
  | inr e ↦
      let so : length (fold (add_call (Some what) t) cs handles) ≡ length cs + length (handle ∷ handles) = rw e at h in
      let few = at_most_one_call_per_handle what t cs handles in absurd (omega (arith, so, few))
]

none_added : (t : ℕ) (cs handles : List (List ℕ)) → fold (add_call None t) cs handles ≡ fold (add_call_unlimited None) cs handles
none_added t cs [] = refl
none_added t cs (handle ∷ handles) = none_added t cs handles

requested_free : (p : Option Peer) (t : ℕ) (cs handles : List (List ℕ))
    → length (fold (add_call p t) cs handles) ≡ length cs + (if is_some p then length handles else 0)
    → fold (add_call p t) cs handles ≡ fold (add_call_unlimited p) cs handles
requested_free (Some what) t cs handles h = all_handles_added what t cs handles h
requested_free None t cs handles h = none_added t cs handles

calls_are_unlimited : (c : ℕ) (acts : List ChannelAct) → NoneLeftOut c acts → calls c acts ≡ calls_unlimited c acts
calls_are_unlimited c [] h = refl
calls_are_unlimited c (ChannelOpened conn what ∷ acts) h = ap (λ (l : List (List ℕ)). if conn == c then [] else l)
    (calls_are_unlimited c acts h)
calls_are_unlimited c (ChannelClosed conn ∷ acts) h = ap (λ (l : List (List ℕ)). if conn == c then [] else l) (calls_are_unlimited c acts h)
calls_are_unlimited c (Requested ∷ acts) (all, h) =
    requested_free (peer c acts) (bytes_taken c acts) (calls c acts) (handles_of c (enabled_links acts)) all
    ∙ ap (λ (l : List (List ℕ)). fold (add_call_unlimited (peer c acts)) l (handles_of c (enabled_links acts)))
    (calls_are_unlimited c acts h)
calls_are_unlimited c (_ ∷ acts) h = calls_are_unlimited c acts h

all_calls_are_unlimited : (c : ℕ) (acts : List ChannelAct) → NoneLeftOut c acts → all_calls c acts ≡ all_calls_unlimited c acts
all_calls_are_unlimited c [] h = refl
all_calls_are_unlimited c (Requested ∷ acts) h =
    ap (λ (l : List (List ℕ)). l ++ drop (length (calls c acts)) (calls c (Requested ∷ acts))) (all_calls_are_unlimited c acts h.1)
    ∙ ap (λ (l : List (List ℕ)). all_calls_unlimited c acts ++ drop (length l) (calls c (Requested ∷ acts)))
    (calls_are_unlimited c acts h.1)
    ∙ ap (λ (l : List (List ℕ)). all_calls_unlimited c acts ++ drop (length (calls_unlimited c acts)) l)
    (calls_are_unlimited c (Requested ∷ acts) h)
all_calls_are_unlimited c (_ ∷ acts) h = all_calls_are_unlimited c acts h

same_calls : (c : ℕ) (acts other : List ChannelAct) → NoneLeftOut c acts → NoneLeftOut c other → untaken acts ≡ untaken other
    → all_calls c acts ≡ all_calls c other
same_calls c acts other h k same = all_calls_are_unlimited c acts h ∙ sym (free_all_same c acts) ∙ ap (all_calls_unlimited c) same
    ∙ free_all_same c other
    ∙ sym (all_calls_are_unlimited c other k)

-- ---- what acts of the device add to the log of the interrupt channels

-- Both lists of acts lead to the same log of the interrupt channels, except for the bytes taken.
abbrev pub TellsSameButTaken : List DeviceAct → List DeviceAct → Type 0
TellsSameButTaken acts other = (channel_log : List ChannelAct) → HearsOf acts channel_log → (also : List ChannelAct) × HearsOf other also
    × (untaken channel_log ≡ untaken also)

untaken_one : (act : ChannelAct) (a b : List ChannelAct) → untaken a ≡ untaken b → untaken (act ∷ a) ≡ untaken (act ∷ b)
untaken_one (ChannelTaken conn count) a b same = same
untaken_one (SrqEnabled lid conn handle) a b same = ap (λ (l : List ChannelAct). SrqEnabled lid conn handle ∷ l) same
untaken_one (SrqDisabled lid) a b same = ap (λ (l : List ChannelAct). SrqDisabled lid ∷ l) same
untaken_one (ChannelOpened conn what) a b same = ap (λ (l : List ChannelAct). ChannelOpened conn what ∷ l) same
untaken_one (ChannelClosed conn) a b same = ap (λ (l : List ChannelAct). ChannelClosed conn ∷ l) same
untaken_one Requested a b same = ap (λ (l : List ChannelAct). Requested ∷ l) same

untaken_link : (act : LinkAct) (a b : List ChannelAct) → untaken a ≡ untaken b → untaken (link_told act a) ≡ untaken (link_told act b)
untaken_link (Destroyed lid) a b same = untaken_one (SrqDisabled lid) a b same
untaken_link _ a b same = same

untaken_request : (raised : Bool) (a b : List ChannelAct) → untaken a ≡ untaken b
    → untaken (request_told raised a) ≡ untaken (request_told raised b)
untaken_request true a b same = untaken_one Requested a b same
untaken_request false a b same = same

tells_so_act : (act : DeviceAct) (acts other : List DeviceAct) → SameDevice acts other → TellsSameButTaken acts other
    → TellsSameButTaken (act ∷ acts) (act ∷ other)
tells_so_act (Linked act) acts other v tells channel_log (before, hears, is) =
    let so = tells before hears in
    (link_told act so.0, (so.0, so.1, refl), ap untaken is ∙ untaken_link act before so.0 so.2)
tells_so_act (Waited act) acts other v tells channel_log hears = tells channel_log hears
tells_so_act (Channel act) acts other v tells channel_log (before, hears, is) =
    let so = tells before hears in (act ∷ so.0, (so.0, so.1, refl), ap untaken is ∙ untaken_one act before so.0 so.2)
tells_so_act (Applied act) acts other v tells channel_log (before, raised, hears, so, is) =
    let there = tells before hears in
    let same = same_act_raises_same act (instrument_acts acts) (instrument_acts other) v.instrument.status in (
      request_told raised there.0,
      (there.0, raised, there.1, ((λ e. same.0 (so.0 e)), (λ r. so.1 (same.1 r))), refl),
      ap untaken is ∙ untaken_request raised before there.0 there.2,
    )
tells_so_act Ticked acts other v tells channel_log hears = tells channel_log hears

-- ---- two logs that differ only in the bytes taken

pub record TakenAlike (log other : List Act) : Type 0 where
  pub device : SameDevice (device_acts log) (device_acts other)
  pub each : (c : ℕ) → SameConnection (of c log) (of c other)
  pub tells : TellsSameButTaken (device_acts log) (device_acts other)

taken_none : TakenAlike [] []
taken_none = record {
  device = same_device_refl [];
  each = λ c. connection_none;
  tells = λ channel_log hears. (channel_log, hears, refl);
}

taken_back : (log other : List Act) → TakenAlike log other → TakenAlike other log
taken_back log other v = record {
  device = same_device_sym (device_acts log) (device_acts other) v.device;
  each = λ c. same_connection_sym (of c log) (of c other) (v.each c);
  tells = λ channel_log hears.
      let told = channel_log_exists (device_acts log) in
      let so = v.tells told.0 told.1 in
      (told.0, told.1, sym (so.2 ∙ ap untaken (channel_log_unique (device_acts other) so.0 channel_log so.1 hears)));
}

taken_more : (adds log other : List Act) → TakenAlike log other → TakenAlike (adds ++ log) (adds ++ other)
taken_more [] log other v = v
taken_more (OnDevice act ∷ adds) log other v =
    let so = taken_more adds log other v in
    let here = device_acts (adds ++ log) in
    let there = device_acts (adds ++ other) in record {
      device = act_keeps_same_device act here there so.device;
      each = so.each;
      tells = tells_so_act act here there so.device so.tells;
    }
taken_more (On c act ∷ adds) log other v =
    let so = taken_more adds log other v in record {
      device = so.device;
      each = λ d. elim (cases_Bool (c == d)) [
        | inl e ↦ rw e (act_keeps_same_connection act (of d (adds ++ log)) (of d (adds ++ other)) (so.each d))
        | inr e ↦ rw e (so.each d)
      ];
      tells = so.tells;
    }

taken_calls : (log other : List Act) → TakenAlike log other → SameCalls log other
taken_calls log other v = record { device = v.device; calls = λ c. (v.each c).call }

taken_kept : IsKept TakenAlike
taken_kept = record { calls = taken_calls; more = taken_more }

taken_next : (log other : List Act) → TakenAlike log other → SameNext log other
taken_next log other v = record {
  now = taken_calls log other v;
  calls = λ c. next_call_same (of c log) (of c other) (v.each c);
  requests = λ c. next_request_same (of c log) (of c other) (v.each c);
}

-- ---- a Took in one of the logs

took_shown : (n : ℕ) (acts others : List ConnAct) → SameConnection acts others → SameConnection (BytesTaken n ∷ acts) others
took_shown n acts others v = record {
  shown = record { role = v.role; call = v.call; count = v.count; no_call = v.no_call; replies = v.replies };
  streams = v.streams;
}

took_conn : (c n : ℕ) (log other : List Act) → TakenAlike log other → TakenAlike (On c (BytesTaken n) ∷ log) other
took_conn c n log other v = record {
  device = v.device;
  each = λ d. elim (cases_Bool (c == d)) [
    | inl e ↦ rw e (took_shown n (of d log) (of d other) (v.each d))
    | inr e ↦ rw e (v.each d)
  ];
  tells = v.tells;
}

took_intr : (c n : ℕ) (log other : List Act) → TakenAlike log other → TakenAlike (OnDevice (Channel (ChannelTaken c n)) ∷ log) other
took_intr c n log other v = record {
  device = record {
    links = v.device.links;
    waits = v.device.waits;
    channels = v.device.channels;
    instrument = v.device.instrument;
    clock = v.device.clock;
  };
  each = v.each;
  tells = λ channel_log hears.
      let so = v.tells hears.0 hears.1 in (so.0, so.1, ap untaken hears.2 ∙ so.2);
}

-- A Took changes only which bytes were taken: no step is due after it.
took_event : (port : Port) (n : ℕ) (config : Config) (past : List PlainEvent) (log : List Act) → IsLogOf config (Took port n ∷ past) log
    → (before : List Act) × IsLogOf config past before × ((other : List Act) → TakenAlike before other → TakenAlike log other)
took_event (Conn c) n config past log (before, polled, channel_log, is_event, was, hears, free, said, settles) = (
  before,
  was,
  λ other v. subst (λ (l : List Act). TakenAlike l other)
      (sym (settled_log_stays settles.0 config (On c (BytesTaken n) ∷ before) log
      (still_settled c (BytesTaken n) config before (log_settled config past before was)) settles.1)) (took_conn c n before other v),
)
took_event (Intr c) n config past log (before, polled, channel_log, is_event, was, hears, free, said, settles) = (
  before,
  was,
  λ other v. subst (λ (l : List Act). TakenAlike l other)
      (sym (settled_log_stays settles.0 config (OnDevice (Channel (ChannelTaken c n)) ∷ before) log
      (channel_settled (ChannelTaken c n) config before (log_settled config past before was)) settles.1)) (took_intr c n before other v),
)

-- ---- event by event

pub data Retook : List PlainEvent → List PlainEvent → Type 0 where
  Neither : Retook [] []
  Both : {past other : List PlainEvent} (event : PlainEvent) → Retook past other → Retook (event ∷ past) (event ∷ other)
  One : {past other : List PlainEvent} (port : Port) (n : ℕ) → Retook past other → Retook (Took port n ∷ past) other
  Other : {past other : List PlainEvent} (port : Port) (n : ℕ) → Retook past other → Retook past (Took port n ∷ other)

pub logs_alike : (config : Config) {history other : List PlainEvent} → Retook history other → (log also : List Act)
    → IsLogOf config history log → IsLogOf config other also → TakenAlike log also
logs_alike config Neither log also x y = relation_of_equals TakenAlike [] [] log also x.1 y.1 taken_none
logs_alike config (Both {past} {other} event retook_if_same_without_took) log also x y =
    kept_through_event TakenAlike taken_kept taken_next config event past other log also (logs_alike config retook_if_same_without_took) x y
logs_alike config (One {past} {other} port n retook_if_same_without_took) log also x y =
    let so = took_event port n config past log x in so.2 also (logs_alike config retook_if_same_without_took so.0 also so.1 y)
logs_alike config (Other {past} {other} port n retook_if_same_without_took) log also x y =
    let so = took_event port n config other also y in
    taken_back also log (so.2 log (taken_back log so.0 (logs_alike config retook_if_same_without_took log so.0 x so.1)))

is_took_or_not : (event : PlainEvent) → ((port : Port) × (n : ℕ) × (event ≡ Took port n)) ⊎ (is_took event ≡ false)
is_took_or_not (Took port n) = inl (port, n, refl)
is_took_or_not _ = inr refl

retook_only_tooks : (other : List PlainEvent) → [] ≡ without_took other → Retook [] other
retook_only_tooks [] e = Neither
retook_only_tooks (event ∷ other) e = elim (is_took_or_not event) [
  | inl h ↦ subst (λ x. Retook [] (x ∷ other)) (sym h.2)
      (Other h.0 h.1 (retook_only_tooks other (let z : [] ≡ without_took other = rw h.2 at e in z)))
  | inr h ↦ absurd (let z : [] ≡ event ∷ without_took other = rw h at e in cc)
]

retook_with_event : (event : PlainEvent) (past other : List PlainEvent) → ((o : List PlainEvent) → without_took past ≡ without_took o
    → Retook past o) → event ∷ without_took past ≡ without_took other → Retook (event ∷ past) other
retook_with_event event past [] rest e = absurd cc
retook_with_event event past (next ∷ other) rest e = elim (is_took_or_not next) [
  | inl h ↦ subst (λ x. Retook (event ∷ past) (x ∷ other)) (sym h.2)
      (Other h.0 h.1 (retook_with_event event past other rest (let z : event ∷ without_took past ≡ without_took other = rw h.2 at e in z)))
  | inr h ↦
      let z : event ∷ without_took past ≡ next ∷ without_took other = rw h at e in
      let same : event ≡ next = cc in
      let left : without_took past ≡ without_took other = cc in
      subst (λ x. Retook (event ∷ past) (x ∷ other)) same (Both event (rest other left))
]

pub retook_if_same_without_took : (history other : List PlainEvent) → without_took history ≡ without_took other → Retook history other
retook_if_same_without_took [] other e = retook_only_tooks other e
retook_if_same_without_took (event ∷ history) other e = elim (is_took_or_not event) [
  | inl h ↦ subst (λ x. Retook (x ∷ history) other) (sym h.2)
      (One h.0 h.1 (retook_if_same_without_took history other (let z : without_took history ≡ without_took other = rw h.2 at e in z)))
  | inr h ↦ retook_with_event event history other (retook_if_same_without_took history)
      (let z : event ∷ without_took history ≡ without_took other = rw h at e in z)
]

-- ---- what the two histories send

sent_alike : (port : Port) (config : Config) (history other : List PlainEvent) (channel_log heard : List ChannelAct) (log also : List Act)
    → IsLogOf config history log → IsLogOf config other also → HearsOf (device_acts log) channel_log → HearsOf (device_acts also) heard
    → HasSpare port config history → HasSpare port config other → TakenAlike log also → untaken channel_log ≡ untaken heard
    → all_sent port channel_log log ≡ all_sent port heard also
sent_alike (Conn c) config history other channel_log heard log also x y hears tells h k v same = (v.each c).replies
sent_alike (Intr c) config history other channel_log heard log also x y hears tells h k v same =
    ap concat (same_calls c channel_log heard (h log channel_log x hears) (k also heard y tells) same)

sends_alike : (port : Port) (config : Config) (history other : List PlainEvent) (log also : List Act) (bytes : List ℕ)
    → IsLogOf config history log → IsLogOf config other also → HasSpare port config history → HasSpare port config other
    → TakenAlike log also → Sends port config history bytes → Sends port config other bytes
sends_alike port config history other log also bytes x y h k v =
    sends_in_other_history port config history other log also bytes x y (λ channel_log hears.
    let so = v.tells channel_log hears in
    (so.0, so.1, sent_alike port config history other channel_log so.0 log also x y hears so.1 h k v so.2))

pub taking : Taking
taking config history other log also same x y port bytes h k =
    let v = logs_alike config (retook_if_same_without_took history other same) log also x y in (
      sends_alike port config history other log also bytes x y h k v,
      sends_alike port config other history also log bytes y x k h (taken_back log also v),
    )
