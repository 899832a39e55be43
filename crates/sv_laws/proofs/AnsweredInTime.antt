-- A call that a Turn takes has its reply after as many Ticks as its longest wait has milliseconds:
-- the law `AnsweredInTime`.
use Rattle.std.proofs.Common.{◌≡◌, ℕ, ◌+◌, ◌<◌, Bool, true, false, cond, eqb, List, [], ◌∷◌, ◌++◌, length, nat_lt, Option, Some, None, refl, sym, ap, subst, ◌∙◌, inl, inr, ◌⊎◌, append_assoc, eq-eqb, arith}
use Rattle.std.specs.Prelude.{is_some, ⊤, Result, Err}
use Rattle.std.specs.List.{AllByRecursion}
use Rattle.std.proofs.lemmas.Bool.{cases_Bool, eqb-true, ne_eqb}
use Rattle.std.proofs.lemmas.List.{append_cancel_right}
use Rattle.sv_rpc.specs.declared.call.CallFault.TheVariants.{BadHeader}
use Rattle.sv_rpc.specs.declared.call.CallFault.{CallFault}
use Rattle.sv_rpc.specs.Call.{PlainCall, call_at}
use Rattle.sv_links.specs.Channels.{ChannelAct}
use Rattle.sv_history.specs.declared.event.Config.{Config}
use Rattle.sv_history.specs.declared.event.Port.TheVariants.{Conn}
use Rattle.sv_history.specs.declared.event.Refused.TheVariants.{NoConn, ConnInUse}
use Rattle.sv_history.specs.declared.event.Role.TheVariants.{Core}
use Rattle.sv_history.specs.Event.{PlainEvent, Open, Bytes, Turn, Took, Close, Tick}
use Rattle.sv_history.specs.Act.{Act, ConnAct, DeviceAct, Opened, Piece, CallTaken, Faulted, Replied, BytesTaken, PortClosed, Ticked, On, OnDevice, of, device_acts, ticks}
use Rattle.sv_history.specs.Connection.{is_open, next_call, open_role, pending_call}
use Rattle.sv_history.specs.CoreCall.{CoreCall}
use Rattle.sv_history.specs.Effect.{acts_of}
use Rattle.sv_history.specs.Request.{Request, core_call_of, core_call, request_of, next_request}
use Rattle.sv_history.specs.Execution.{request_effect, aborts}
use Rattle.sv_history.specs.History.{abort_acts, turn_acts, own_acts, refusal, IsLogOf}
use Rattle.sv_laws.specs.InOrder.{replies}
use Rattle.sv_laws.specs.InTime.{age, patience, waits_for_peer, ticks_in, LeavesOpen, AnsweredInTime}
use Rattle.sv_laws.proofs.Facts.{some_injective, none_is_not_some}
use Rattle.sv_laws.proofs.OneLog.{one_log}
use Rattle.sv_laws.proofs.Brought.{brings, AreCallActs}
use Rattle.sv_laws.proofs.OnlyCalls.{only_calls}
use Rattle.sv_laws.proofs.TurnAnswered.{next_call_has_request}
use Rattle.sv_laws.proofs.TicksTaken.{ticks_count}
use Rattle.sv_laws.proofs.InTime.{NoCalls, in_time}
use Rattle.sv_laws.proofs.EveryLog.Taken.{next_call_means_none_pending}
use Rattle.sv_laws.proofs.EveryLog.EachAct.{WerePossible, acts_were_possible, unrefused_is_open}
use Rattle.sv_laws.proofs.EveryLog.EachEvent.{turn_acts_in_order}
use Rattle.sv_laws.proofs.EveryLog.Steps.{Extends, extends_then, settles_extends}
use Rattle.sv_history.proofs.Projections.{of_append}

-- ---- acts of the connection that don't open or close it

abbrev StaysOpen : List ConnAct → Type 0
StaysOpen [] = ⊤
StaysOpen (Opened role ∷ acts) = ⊥
StaysOpen (PortClosed ∷ acts) = ⊥
StaysOpen (_ ∷ acts) = StaysOpen acts

stays_join : (a b : List ConnAct) → StaysOpen a → StaysOpen b → StaysOpen (a ++ b)
stays_join [] b h k = k
stays_join (Opened role ∷ a) b h k = absurd h
stays_join (PortClosed ∷ a) b h k = absurd h
stays_join (_ ∷ a) b h k = stays_join a b h k

stays_front : (a b : List ConnAct) → StaysOpen (a ++ b) → StaysOpen a
stays_front [] b h = tt
stays_front (Opened role ∷ a) b h = absurd h
stays_front (PortClosed ∷ a) b h = absurd h
stays_front (_ ∷ a) b h = stays_front a b h

calls_keep_open : (calls : List ConnAct) → AreCallActs calls → StaysOpen calls
calls_keep_open [] h = tt
calls_keep_open (CallTaken call ∷ calls) h = calls_keep_open calls h
calls_keep_open (Faulted ∷ calls) h = calls_keep_open calls h
calls_keep_open (Replied reply ∷ calls) h = calls_keep_open calls h
calls_keep_open (_ ∷ calls) h = absurd h

role_stays : (acts own : List ConnAct) → StaysOpen acts → open_role (acts ++ own) ≡ open_role own
role_stays [] own h = refl
role_stays (Opened role ∷ acts) own h = absurd h
role_stays (PortClosed ∷ acts) own h = absurd h
role_stays (_ ∷ acts) own h = role_stays acts own h

-- `own` are the acts of the connection before the call `bytes` was taken, and `front` those since.
-- Either the call is still pending, nothing was replied since and no other call was taken; or the
-- connection has more replies than before.
abbrev PendingOrAnswered : List ℕ → List ConnAct → List ConnAct → Type 0
PendingOrAnswered bytes front own = ((length (replies (front ++ CallTaken bytes ∷ own)) ≡ length (replies own))
    × (pending_call (front ++ CallTaken bytes ∷ own) ≡ Some bytes) × NoCalls front)
    ⊎ (length (replies own) < length (replies (front ++ CallTaken bytes ∷ own)))

core_call_is_a_call : (bytes : List ℕ) (call : CoreCall) → core_call bytes ≡ Some call → call_at bytes ≡ Err BadHeader → ⊥
core_call_is_a_call bytes call known bad =
    let none : core_call bytes ≡ None = ap (λ (r : Result PlainCall CallFault). core_call_of (request_of Core r)) bad in
    none_is_not_some (core_call bytes) call none known

pending_or_answered : (bytes : List ℕ) (call : CoreCall) (front own : List ConnAct) → core_call bytes ≡ Some call → StaysOpen front
    → WerePossible (front ++ CallTaken bytes ∷ own) → PendingOrAnswered bytes front own
pending_or_answered bytes call [] own known stays all = inl (refl, refl, tt)
pending_or_answered bytes call (Opened role ∷ front) own known stays all = absurd stays
pending_or_answered bytes call (PortClosed ∷ front) own known stays all = absurd stays
pending_or_answered bytes call (Piece piece ∷ front) own known stays all = pending_or_answered bytes call front own known stays all.1
pending_or_answered bytes call (BytesTaken count ∷ front) own known stays all = pending_or_answered bytes call front own known stays all.1
pending_or_answered bytes call (CallTaken other ∷ front) own known stays all =
    elim (pending_or_answered bytes call front own known stays all.1) [
      | inl was ↦ none_is_not_some (pending_call (front ++ CallTaken bytes ∷ own)) bytes
          (next_call_means_none_pending (front ++ CallTaken bytes ∷ own) other all.0.1) was.1
      | inr more ↦ inr more
    ]
pending_or_answered bytes call (Faulted ∷ front) own known stays all = elim (pending_or_answered bytes call front own known stays all.1) [
  | inl was ↦
      let same : all.0.0 ≡ bytes = some_injective all.0.0 bytes (sym all.0.1 ∙ was.1) in
      absurd (core_call_is_a_call bytes call known (ap call_at (sym same) ∙ all.0.2))
  | inr more ↦ inr more
]
pending_or_answered bytes call (Replied reply ∷ front) own known stays all =
    elim (pending_or_answered bytes call front own known stays all.1) [
      | inl was ↦ inr (let same = was.0 in omega (arith, same))
      | inr more ↦ inr (omega (arith, more))
    ]

-- ---- the age of the call

device_acts_append : (front log : List Act) → device_acts (front ++ log) ≡ device_acts front ++ device_acts log
device_acts_append [] log = refl
device_acts_append (On d act ∷ front) log = device_acts_append front log
device_acts_append (OnDevice act ∷ front) log = ap (λ (l : List DeviceAct). act ∷ l) (device_acts_append front log)

ticks_append : (a b : List DeviceAct) → ticks (a ++ b) ≡ ticks a + ticks b
ticks_append [] b = omega arith
ticks_append (Ticked ∷ a) b = let same = ticks_append a b in omega (arith, same)
ticks_append (_ ∷ a) b = ticks_append a b

no_call_first : (act : ConnAct) (acts : List ConnAct) → NoCalls (act ∷ acts) → NoCalls acts
no_call_first (CallTaken call) acts h = absurd h
no_call_first _ acts h = h

age_is_ticks_since : (c : ℕ) (bytes : List ℕ) (front log : List Act) → NoCalls (of c front)
    → age c (front ++ On c (CallTaken bytes) ∷ log) ≡ ticks (device_acts front)
age_is_ticks_since c bytes [] log h = rw (eq-eqb c c refl) refl
age_is_ticks_since c bytes (On d (CallTaken call) ∷ front) log h = elim (cases_Bool (eqb d c)) [
  | inl e ↦ absurd (rw e at h)
  | inr e ↦ rw e (age_is_ticks_since c bytes front log (rw e at h))
]
age_is_ticks_since c bytes (On d act ∷ front) log h = elim (cases_Bool (eqb d c)) [
  | inl e ↦ age_is_ticks_since c bytes front log (no_call_first act (of c front) (rw e at h))
  | inr e ↦ age_is_ticks_since c bytes front log (rw e at h)
]
age_is_ticks_since c bytes (OnDevice Ticked ∷ front) log h = ap (λ (n : ℕ). n + 1) (age_is_ticks_since c bytes front log h)
age_is_ticks_since c bytes (OnDevice _ ∷ front) log h = age_is_ticks_since c bytes front log h

-- ---- events that leave the connection open

-- `log` continues the log that takes the call `bytes` after `before`. Since then the connection was
-- neither opened nor closed.
record Follows (c : ℕ) (bytes : List ℕ) (before log : List Act) : Type 0 where
  front : List Act
  is : log ≡ front ++ On c (CallTaken bytes) ∷ before
  stays : StaysOpen (of c front)

brings_stay : (config : Config) (c : ℕ) (event : PlainEvent) (channel_log : List ChannelAct) (log : List Act) → LeavesOpen c event
    → is_open (of c log) ≡ true → refusal config channel_log event log ≡ None → StaysOpen (brings c event)
brings_stay config c (Open d role) channel_log log leaves opened free = elim (cases_Bool (eqb d c)) [
  | inl e ↦
      let there : is_open (of d log) ≡ true = ap (λ (n : ℕ). is_open (of n log)) (eqb-true d c e) ∙ opened in
      absurd (in_use (nat_lt 15 d) (is_open (of d log)) free there)
  | inr e ↦ rw e tt
]
  where
    in_use : (far there : Bool) → cond far (Some NoConn) (cond there (Some ConnInUse) None) ≡ None → there ≡ true → ⊥
    in_use true there e on = cc
    in_use false true e on = cc
    in_use false false e on = cc
brings_stay config c (Bytes d piece) channel_log log leaves opened free = elim (cases_Bool (eqb d c)) [
  | inl e ↦ rw e tt
  | inr e ↦ rw e tt
]
brings_stay config c (Took (Conn d) count) channel_log log leaves opened free = elim (cases_Bool (eqb d c)) [
  | inl e ↦ rw e tt
  | inr e ↦ rw e tt
]
brings_stay config c (Close (Conn d)) channel_log log leaves opened free = rw (ne_eqb d c leaves) tt
brings_stay config c _ channel_log log leaves opened free = tt

-- ---- the law

open_before : (bytes : List ℕ) (front own : List ConnAct) → StaysOpen front → WerePossible (front ++ CallTaken bytes ∷ own)
    → is_open (front ++ CallTaken bytes ∷ own) ≡ true
open_before bytes front own stays all =
    ap is_some (role_stays front (CallTaken bytes ∷ own) stays) ∙ (came_front front (CallTaken bytes ∷ own) all).0.0
  where
    came_front : (newer older : List ConnAct) → WerePossible (newer ++ older) → WerePossible older
    came_front [] older all = all
    came_front (act ∷ newer) older all = came_front newer older all.1

-- An event only adds acts to the log.
event_extends : (config : Config) (event : PlainEvent) (history : List PlainEvent) (before log : List Act) → IsLogOf config history before
    → IsLogOf config (event ∷ history) log → Extends before log
event_extends config event history before log was now =
    let same = one_log config history now.0 before now.4 was in
    subst (λ (l : List Act). Extends l log) same
    (extends_then now.0 (own_acts config now.1 event now.0 ++ now.0) log (own_acts config now.1 event now.0, refl)
    (settles_extends now.8.0 config (own_acts config now.1 event now.0 ++ now.0) log now.8.1))

-- The acts of a Turn that takes this call: the call is taken, its effect follows, and then the end
-- of the suspended call that it aborts, if it aborts one.
turn_is : (config : Config) (polled c : ℕ) (bytes : List ℕ) (request : Request) (found : Option (List ℕ)) (asked : Option Request)
    (log : List Act) → found ≡ Some bytes → asked ≡ Some request
    → let taken = acts_of c (request_effect config polled c request (device_acts log)) ++ On c (CallTaken bytes) ∷ log in
    turn_acts config polled c found asked log ++ log ≡ abort_acts (aborts request (device_acts log)) taken ++ taken
turn_is config polled c bytes request found asked log first asks = rw (first, asks)
    (turn_acts_in_order c bytes (request_effect config polled c request (device_acts log)) (aborts request (device_acts log)) log)

turn_follows : (config : Config) (past : List PlainEvent) (before log : List Act) (c : ℕ) (bytes : List ℕ) → IsLogOf config past before
    → next_call (of c before) ≡ Some bytes → IsLogOf config (Turn c ∷ past) log → Follows c bytes before log
turn_follows config past before log c bytes was next now =
    let same = one_log config past now.0 before now.4 was in
    let first : next_call (of c now.0) ≡ Some bytes = ap (λ (l : List Act). next_call (of c l)) same ∙ next in
    let request = next_call_has_request (of c now.0) bytes (unrefused_is_open c now.0 _ now.6) first in
    let effect = request_effect config now.1 c request.0 (device_acts now.0) in
    let taken = acts_of c effect ++ On c (CallTaken bytes) ∷ now.0 in
    let own : own_acts config now.1 (Turn c) now.0 ++ now.0 ≡ abort_acts (aborts request.0 (device_acts now.0)) taken ++ taken =
    turn_is config now.1 c bytes request.0 (next_call (of c now.0)) (next_request (of c now.0)) now.0 first request.1 in
    let settled = settles_extends now.8.0 config (own_acts config now.1 (Turn c) now.0 ++ now.0) log now.8.1 in
    let front = settled.0 ++ (abort_acts (aborts request.0 (device_acts now.0)) taken ++ acts_of c effect) in
    let is : log ≡ front ++ On c (CallTaken bytes) ∷ now.0 =
    settled.1 ∙ ap (λ (l : List Act). settled.0 ++ l) (own
    ∙ sym (append_assoc (abort_acts (aborts request.0 (device_acts now.0)) taken) (acts_of c effect) (On c (CallTaken bytes) ∷ now.0)))
    ∙ sym (append_assoc settled.0 (abort_acts (aborts request.0 (device_acts now.0)) taken ++ acts_of c effect)
    (On c (CallTaken bytes) ∷ now.0)) in
    let calls = only_calls config (Turn c) past before log c was now in
    let own_calls : of c log ≡ calls.0 ++ of c before = calls.2 in
    let there : log ≡ front ++ On c (CallTaken bytes) ∷ before = is ∙ ap (λ (l : List Act). front ++ On c (CallTaken bytes) ∷ l) same in
    let joined : of c log ≡ (of c front ++ CallTaken bytes ∷ []) ++ of c before =
    ap (of c) there ∙ of_append c front (On c (CallTaken bytes) ∷ before)
    ∙ ap (λ (l : List ConnAct). of c front ++ l) (rw (eq-eqb c c refl) refl)
    ∙ sym (append_assoc (of c front) (CallTaken bytes ∷ []) (of c before)) in
    let same_calls : of c front ++ CallTaken bytes ∷ [] ≡ calls.0 =
    append_cancel_right (of c front ++ CallTaken bytes ∷ []) calls.0 (of c before) (sym joined ∙ own_calls) in
    record {
      front = front;
      is = there;
      stays = stays_front (of c front) (CallTaken bytes ∷ []) (subst StaysOpen (sym same_calls) (calls_keep_open calls.0 calls.1));
    }

own_of : (c : ℕ) (bytes : List ℕ) (front before : List Act)
    → of c (front ++ On c (CallTaken bytes) ∷ before) ≡ of c front ++ CallTaken bytes ∷ of c before
own_of c bytes front before = of_append c front (On c (CallTaken bytes) ∷ before)
    ∙ ap (λ (l : List ConnAct). of c front ++ l) (rw (eq-eqb c c refl) refl)

-- After the Turn and the events that follow it, the log still continues the log in which the call
-- was taken.
follows_after_events : (config : Config) (past events : List PlainEvent) (before log : List Act) (c : ℕ) (bytes : List ℕ)
    → IsLogOf config past before
    → next_call (of c before) ≡ Some bytes → IsLogOf config (events ++ Turn c ∷ past) log → AllByRecursion (LeavesOpen c) events
    → Follows c bytes before log
follows_after_events config past [] before log c bytes was next now leaves = turn_follows config past before log c bytes was next now
follows_after_events config past (event ∷ events) before log c bytes was next now leaves =
    let history = events ++ Turn c ∷ past in
    let follows = follows_after_events config past events before now.0 c bytes was next now.4 leaves.1 in
    let more = event_extends config event history now.0 log now.4 now in
    let front = more.0 ++ follows.front in
    let is : log ≡ front ++ On c (CallTaken bytes) ∷ before =
    more.1 ∙ ap (λ (l : List Act). more.0 ++ l) follows.is ∙ sym (append_assoc more.0 follows.front (On c (CallTaken bytes) ∷ before)) in
    let own_was : of c now.0 ≡ of c follows.front ++ CallTaken bytes ∷ of c before = ap (of c) follows.is
    ∙ own_of c bytes follows.front before in
    let opened : is_open (of c now.0) ≡ true = ap is_open own_was
    ∙ open_before bytes (of c follows.front) (of c before) follows.stays
    (subst WerePossible own_was (acts_were_possible config history now.0 c now.4)) in
    let brought = brings_stay config c event now.2 now.0 leaves.0 opened now.6 in
    let calls = only_calls config event history now.0 log c now.4 now in
    let added : of c more.0 ≡ calls.0 ++ brings c event =
    append_cancel_right (of c more.0) (calls.0 ++ brings c event) (of c now.0)
    (sym (of_append c more.0 now.0) ∙ sym (ap (of c) more.1) ∙ calls.2 ∙ sym (append_assoc calls.0 (brings c event) (of c now.0))) in
    record {
      front = front;
      is = is;
      stays = subst StaysOpen (sym (of_append c more.0 follows.front)) (stays_join (of c more.0) (of c follows.front)
          (subst StaysOpen (sym added) (stays_join calls.0 (brings c event) (calls_keep_open calls.0 calls.1) brought)) follows.stays);
    }

ticks_between : (past events : List PlainEvent) (c : ℕ) → ticks_in (events ++ Turn c ∷ past) ≡ ticks_in events + ticks_in past
ticks_between past [] c = omega arith
ticks_between past (Tick ∷ events) c = let same = ticks_between past events c in omega (arith, same)
ticks_between past (_ ∷ events) c = ticks_between past events c

pub answered_in_time : AnsweredInTime
answered_in_time config past events before log c bytes call was next known other now leaves many =
    let follows = follows_after_events config past events before log c bytes was next now leaves in
    let own : of c log ≡ of c follows.front ++ CallTaken bytes ∷ of c before = ap (of c) follows.is ∙ own_of c bytes follows.front before in
    let all = subst WerePossible own (acts_were_possible config (events ++ Turn c ∷ past) log c now) in
    elim (pending_or_answered bytes call (of c follows.front) (of c before) known follows.stays all) [
      | inl goes_on ↦
          let young = in_time config (events ++ Turn c ∷ past) log c bytes now (ap pending_call own ∙ goes_on.1) in
          let same : young.0 ≡ call = some_injective young.0 call (sym young.1 ∙ known) in
          let less : age c log < patience call.arguments =
          subst (λ (k : CoreCall). age c log < patience k.arguments) same
          (young.2 (ap (λ (k : CoreCall). waits_for_peer k.arguments) same ∙ other)).0 in
          let old : age c log ≡ ticks (device_acts follows.front) = ap (age c) follows.is
          ∙ age_is_ticks_since c bytes follows.front before goes_on.2 in
          let sum : ticks (device_acts log) ≡ ticks (device_acts follows.front) + ticks (device_acts before) =
          ap (λ (l : List Act). ticks (device_acts l)) follows.is
          ∙ ap ticks (device_acts_append follows.front (On c (CallTaken bytes) ∷ before))
          ∙ ticks_append (device_acts follows.front) (device_acts before) in
          let all_ticks : ticks (device_acts log) ≡ ticks_in (events ++ Turn c ∷ past) = ticks_count config
          (events ++ Turn c ∷ past) log now in
          let past_ticks : ticks (device_acts before) ≡ ticks_in past = ticks_count config past before was in
          absurd (omega (arith, less, old, sum, all_ticks, past_ticks, ticks_between past events c, many))
      | inr more ↦ subst (λ (l : List ConnAct). length (replies (of c before)) < length (replies l)) (sym own) more
    ]
