-- In each log of a history, every act of a connection was possible when it came: a connection has
-- acts only while it is open, and each reply answers the pending call.
use Rattle.std.proofs.Common.{◌≡◌, ℕ, Bool, true, false, cond, List, [], ◌∷◌, ◌++◌, nat_lt, Option, Some, None, refl, sym, ap, subst, ◌∙◌, append_assoc}
use Rattle.std.specs.Prelude.{map, not, ◌||◌, ⊤, Result, Ok, Err}
use Rattle.sv_xdr.specs.declared.garbage.Garbage.{Garbage}
use Rattle.sv_xdr.specs.Spelling.{Field, Unsigned}
use Rattle.sv_xdr.proofs.Fields.{IsBytes, bytes_are}
use Rattle.sv_rpc.specs.declared.reply.Reply.{Reply}
use Rattle.sv_rpc.specs.declared.reply.Reply.TheVariants.{Success, GarbageArgs}
use Rattle.sv_rpc.specs.declared.call.CallFault.{CallFault}
use Rattle.sv_rpc.specs.declared.call.CallFault.TheVariants.{BadHeader, Version}
use Rattle.sv_rpc.specs.Ports.{port_at}
use Rattle.sv_rpc.specs.Call.{PlainCall, call_at}
use Rattle.sv_vxi.specs.declared.error_code.ErrorCode.TheVariants.{OutOfResources}
use Rattle.sv_vxi.specs.Arguments.{Arguments}
use Rattle.sv_vxi.specs.Results.{Outcome, result_fields}
use Rattle.sv_links.specs.Links.{closing}
use Rattle.sv_links.specs.Waiting.{Left}
use Rattle.sv_links.specs.Channels.{ChannelAct, ChannelClosed, ChannelTaken}
use Rattle.sv_scan.specs.declared.acts.ScanAct.TheVariants.{Input as InputTo}
use Rattle.sv_layers.specs.Act.{Scanned}
use Rattle.sv_instrument.specs.Stimulus.{external_acts, tick_acts}
use Rattle.sv_history.specs.declared.event.Config.{Config}
use Rattle.sv_history.specs.declared.event.Refused.{Refused}
use Rattle.sv_history.specs.declared.event.Refused.TheVariants.{NoConn}
use Rattle.sv_history.specs.declared.event.Role.{Role}
use Rattle.sv_history.specs.declared.event.Role.TheVariants.{Core}
use Rattle.sv_history.specs.declared.event.Port.TheVariants.{Conn, Intr}
use Rattle.sv_history.specs.Event.{PlainEvent, Open, Bytes, Turn, Refuse, Took, Close, Dialed, Input, External, Tick, IsEvent}
use Rattle.sv_history.specs.Act.{Act, ConnAct, DeviceAct, Opened, Piece, CallTaken, Faulted, Replied, BytesTaken, PortClosed, Linked, Waited, Channel, Applied, Ticked, On, OnDevice, of, device_acts, link_acts, instrument_acts}
use Rattle.sv_history.specs.Connection.{is_open, next_call, open_role, pending_call}
use Rattle.sv_history.specs.CallOutcome.{CallOutcome}
use Rattle.sv_history.specs.CoreCall.{CoreCall, lid_of, failure}
use Rattle.sv_history.specs.Reply.{reply_record}
use Rattle.sv_history.specs.Effect.{Effect, acts_of, replies, result_reply}
use Rattle.sv_history.specs.Request.{Request, NoCall, Decided, CoreRequest, AbortRequest, PortRequest, request_of, core_call_in, request_for, next_request}
use Rattle.sv_history.specs.AbortChannel.{abort_result}
use Rattle.sv_history.specs.Execution.{port_reply, request_effect}
use Rattle.sv_history.specs.Interrupts.{connect_outcome}
use Rattle.sv_history.specs.Resuming.{effect_of, leaving}
use Rattle.sv_history.specs.Refusing.{takes_memory, refusable_call, refusable, refused_reply}
use Rattle.sv_history.specs.History.{turn_acts, refuse_acts, own_acts, unless_shut, refusal, IsLogOf}
use Rattle.sv_history.proofs.Projections.{of_own_act, of_device_acts}
use Rattle.sv_laws.proofs.EveryLog.EachEvent.{induction_over_history, StepsKeep, steps_keep_by_effects, step_keeps, turn_keeps, refuse_keeps}
use Rattle.sv_laws.proofs.Facts.{some_injective}
use Rattle.sv_laws.proofs.EveryLog.Taken.{xid_of, xid_in, xid_is, request_is_for_role, is_core}
use Rattle.sv_laws.proofs.EveryLog.Fit.{each_after_effect}

-- ---- when an act is possible

-- The reply is a reply record with the xid of this call.
abbrev pub IsReplyTo : List ℕ → List ℕ → Type 0
IsReplyTo call reply = (xid : ℕ) × (answer : Reply) × (fields : List Field) × (xid_of (call_at call) ≡ Some xid)
    × (reply ≡ reply_record xid answer fields)

-- The act is possible after these acts. Bytes come and are taken, and a call is taken, only while
-- the connection is open, and this call is the next one. A reply needs a pending call. A fault
-- needs a pending record that isn't a call.
abbrev pub IsPossible : ConnAct → List ConnAct → Type 0
IsPossible (Opened role) acts = ⊤
IsPossible (Piece bytes) acts = (is_open acts ≡ true) × IsBytes bytes
IsPossible (CallTaken call) acts = (is_open acts ≡ true) × (next_call acts ≡ Some call)
IsPossible Faulted acts = (call : List ℕ) × (pending_call acts ≡ Some call) × (call_at call ≡ Err BadHeader)
IsPossible (Replied reply) acts = (call : List ℕ) × (pending_call acts ≡ Some call) × IsReplyTo call reply
IsPossible (BytesTaken count) acts = is_open acts ≡ true
IsPossible PortClosed acts = ⊤

-- Each of these acts was possible after the acts before it.
abbrev pub WerePossible : List ConnAct → Type 0
WerePossible [] = ⊤
WerePossible (act ∷ acts) = IsPossible act acts × WerePossible acts

-- ---- a request has the xid of its record

pub no_xid_is_no_call : (found : Result PlainCall CallFault) → xid_of found ≡ None → found ≡ Err BadHeader
no_xid_is_no_call (Ok call) e = absurd cc
no_xid_is_no_call (Err (Version xid)) e = absurd cc
no_xid_is_no_call (Err BadHeader) e = refl

-- A request has the xid of the record from which it was read.
xid_asked : (role : Option Role) (bytes : List ℕ) (request : Request) → request_for role (Some bytes) ≡ Some request
    → xid_of (call_at bytes) ≡ xid_in request
xid_asked (Some role) bytes request e = xid_is role (xid_of (call_at bytes)) request
    (request_is_for_role role (call_at bytes) request (some_injective (request_of role (call_at bytes)) request e))
xid_asked None bytes request e = absurd cc

pub request_has_xid_of_call : (acts : List ConnAct) (bytes : List ℕ) (request : Request) → next_call acts ≡ Some bytes
    → next_request acts ≡ Some request → xid_of (call_at bytes) ≡ xid_in request
request_has_xid_of_call acts bytes request next asks = xid_asked (open_role acts) bytes request
    (ap (request_for (open_role acts)) (sym next) ∙ asks)

-- A pending call of the core channel has the xid of its record.
pub core_call_has_xid : (found : Option (List ℕ)) (call : CoreCall) → core_call_in found ≡ Some call
    → (bytes : List ℕ) × (found ≡ Some bytes) × (xid_of (call_at bytes) ≡ Some call.xid)
core_call_has_xid (Some bytes) call e = (bytes, refl, (request_is_for_role Core (call_at bytes) (CoreRequest call) (is_core _ call e)).1)
core_call_has_xid None call e = absurd cc

-- ---- all connections

abbrev Everywhere : List Act → Type 0
Everywhere log = (c : ℕ) → WerePossible (of c log)

all_effect : (c : ℕ) (effect : Effect) (log : List Act) → Everywhere log → WerePossible (effect.own ++ of c log)
    → Everywhere (acts_of c effect ++ log)
all_effect c effect log all h = each_after_effect (λ d acts. WerePossible acts) c effect log h (λ d ne. all d)

all_on : (c : ℕ) (act : ConnAct) (log : List Act) → Everywhere log → IsPossible act (of c log) → Everywhere (On c act ∷ log)
all_on c act log all h = all_effect c (record { own = act ∷ []; adds = [] }) log all (h, all c)

all_shared : (adds : List DeviceAct) (log : List Act) → Everywhere log → Everywhere (map OnDevice adds ++ log)
all_shared adds log all d = subst WerePossible (sym (of_device_acts d adds log)) (all d)

-- ---- a suspended call ends, or is suspended again

told_result : (call : List ℕ) (xid : ℕ) (result : Outcome) → xid_of (call_at call) ≡ Some xid → IsReplyTo call (result_reply xid result)
told_result call xid result is = (xid, Success, result_fields result, is, refl)

replies_were_possible : (xid : ℕ) (result : Option Outcome) (acts : List ConnAct) (call : List ℕ) → pending_call acts ≡ Some call
    → xid_of (call_at call) ≡ Some xid → WerePossible acts → WerePossible (replies xid result ++ acts)
replies_were_possible xid (Some result) acts call busy is all = ((call, busy, told_result call xid result is), all)
replies_were_possible xid None acts call busy is all = all

all_ended : (c : ℕ) (does : Arguments → CallOutcome) (log : List Act) → Everywhere log
    → Everywhere (acts_of c (effect_of c does (core_call_in (pending_call (of c log)))) ++ log)
all_ended c does log all = by (core_call_in (pending_call (of c log))) refl
  where
    by : (call : Option CoreCall) → core_call_in (pending_call (of c log)) ≡ call → Everywhere (acts_of c (effect_of c does call) ++ log)
    by (Some call) e =
        let known = core_call_has_xid (pending_call (of c log)) call e in
        all_effect c (effect_of c does (Some call)) log all
        (replies_were_possible call.xid (does call.arguments).result (of c log) known.0 known.1 known.2 (all c))
    by None e = all_effect c (effect_of c does None) log all (all c)

steps_keep : (config : Config) → StepsKeep config Everywhere
steps_keep config = steps_keep_by_effects config Everywhere (λ adds log. all_shared (map Applied adds) log) all_ended

-- ---- an event's own acts

port_replied : (call : List ℕ) (xid : ℕ) (port : Result ℕ Garbage) → xid_of (call_at call) ≡ Some xid → IsReplyTo call (port_reply xid port)
port_replied call xid (Ok port) is = (xid, Success, Unsigned port ∷ [], is, refl)
port_replied call xid (Err garbage) is = (xid, GarbageArgs, [], is, refl)

request_acts_were_possible : (config : Config) (polled c : ℕ) (bytes : List ℕ) (request : Request) (acts : List DeviceAct)
    (own : List ConnAct)
    → xid_of (call_at bytes) ≡ xid_in request → WerePossible (CallTaken bytes ∷ own)
    → WerePossible ((request_effect config polled c request acts).own ++ CallTaken bytes ∷ own)
request_acts_were_possible config polled c bytes NoCall acts own is all = ((bytes, refl, no_xid_is_no_call (call_at bytes) is), all)
request_acts_were_possible config polled c bytes (Decided xid reply) acts own is all = ((bytes, refl, (xid, reply, [], is, refl)), all)
request_acts_were_possible config polled c bytes (CoreRequest call) acts own is all =
    replies_were_possible call.xid _ (CallTaken bytes ∷ own) bytes refl is all
request_acts_were_possible config polled c bytes (AbortRequest xid lid) acts own is all =
    ((bytes, refl, told_result bytes xid (abort_result (lid_of (Some lid)) acts) is), all)
request_acts_were_possible config polled c bytes (PortRequest xid args) acts own is all =
    ((bytes, refl, port_replied bytes xid (port_at (record { core = config.core; abort = config.abort }) args) is), all)

all_turn : (config : Config) (polled c : ℕ) (log : List Act) → Everywhere log → is_open (of c log) ≡ true
    → Everywhere (turn_acts config polled c (next_call (of c log)) (next_request (of c log)) log ++ log)
all_turn config polled c log all opened =
    turn_keeps config Everywhere (steps_keep config) polled c (next_call (of c log)) (next_request (of c log)) log all
    (λ bytes request next asks.
    all_effect c (request_effect config polled c request (device_acts log)) (On c (CallTaken bytes) ∷ log)
    (all_on c (CallTaken bytes) log all (opened, next)) (rw (of_own_act c (CallTaken bytes) log)
    (request_acts_were_possible config polled c bytes request (device_acts log) (of c log)
    (request_has_xid_of_call (of c log) bytes request next asks)
    ((opened, next), all c))))

-- A request that can be refused for lack of memory is a call of the core channel.
refusable_is : (request : Option Request) (call : CoreCall) → refusable_call request ≡ Some call → request ≡ Some (CoreRequest call)
refusable_is (Some (CoreRequest found)) call e = by (takes_memory found.arguments) e
  where
    by : (b : Bool) → cond b (Some found) None ≡ Some call → Some (CoreRequest found) ≡ Some (CoreRequest call)
    by true e = ap (λ (k : CoreCall). Some (CoreRequest k)) (let same : found ≡ call = cc in same)
    by false e = absurd cc
refusable_is _ call e = absurd cc

all_refuse : (c : ℕ) (log : List Act) → Everywhere log → is_open (of c log) ≡ true
    → Everywhere (refuse_acts c (next_call (of c log)) (refusable (of c log)) ++ log)
all_refuse c log all opened = refuse_keeps Everywhere c (next_call (of c log)) (refusable (of c log)) log all (λ bytes call next can.
    let is = request_has_xid_of_call (of c log) bytes (CoreRequest call) next (refusable_is (next_request (of c log)) call can) in
    all_on c (Replied (refused_reply call)) (On c (CallTaken bytes) ∷ log) (all_on c (CallTaken bytes) log all (opened, next))
    (rw (of_own_act c (CallTaken bytes) log) (bytes, refl, told_result bytes call.xid (failure call.arguments OutOfResources) is)))

open_by : (far opened : Bool) (other : Option Refused) → cond (far || not opened) (Some NoConn) other ≡ None → opened ≡ true
open_by true opened other e = absurd cc
open_by false true other e = refl
open_by false false other e = absurd cc

-- If an event that needs an open connection isn't refused, the connection is open.
pub unrefused_is_open : (c : ℕ) (log : List Act) (other : Option Refused) → unless_shut c log other ≡ None → is_open (of c log) ≡ true
unrefused_is_open c log other e = open_by (nat_lt 15 c) (is_open (of c log)) other e

all_event : (config : Config) (event : PlainEvent) (polled : ℕ) (channel_log : List ChannelAct) (log : List Act) → IsEvent event
    → refusal config channel_log event log ≡ None → Everywhere log → Everywhere (own_acts config polled event log ++ log)
all_event config (Open c role) polled channel_log log is free all = all_on c (Opened role) log all tt
all_event config (Bytes c piece) polled channel_log log is free all =
    all_on c (Piece piece) log all (unrefused_is_open c log _ free, bytes_are piece is.1)
all_event config (Turn c) polled channel_log log is free all =
    all_turn config polled c log all (unrefused_is_open c log _ free)
all_event config (Refuse c) polled channel_log log is free all =
    all_refuse c log all (unrefused_is_open c log _ free)
all_event config (Took (Conn c) count) polled channel_log log is free all =
    all_on c (BytesTaken count) log all (unrefused_is_open c log _ free)
all_event config (Took (Intr c) count) polled channel_log log is free all = all_shared (Channel (ChannelTaken c count) ∷ []) log all
all_event config (Close (Conn c)) polled channel_log log is free all =
    let adds = Channel (ChannelClosed c) ∷ (map Linked (closing c (link_acts (device_acts log))) ++ Waited (Left c) ∷ []) in
    subst Everywhere (sym (append_assoc (map OnDevice adds) (On c PortClosed ∷ []) log))
    (all_shared adds (On c PortClosed ∷ log) (all_on c PortClosed log all tt))
all_event config (Close (Intr c)) polled channel_log log is free all = all_shared (Channel (ChannelClosed c) ∷ []) log all
all_event config (Dialed c ok) polled channel_log log is free all =
    all_ended c (λ arguments. leaving c (connect_outcome c ok arguments)) log all
all_event config (Input channel microvolts) polled channel_log log is free all =
    all_shared (Applied (Scanned (InputTo channel microvolts)) ∷ []) log all
all_event config External polled channel_log log is free all =
    all_shared (map Applied (external_acts (instrument_acts (device_acts log)))) log all
all_event config Tick polled channel_log log is free all =
    let adds = map Applied (tick_acts (instrument_acts (device_acts log))) in
    subst Everywhere (sym (append_assoc (map OnDevice adds) (OnDevice Ticked ∷ []) log))
    (all_shared adds (OnDevice Ticked ∷ log) (all_shared (Ticked ∷ []) log all))

-- In each log of a history, every act of a connection was possible when it came.
pub acts_were_possible : (config : Config) (history : List PlainEvent) (log : List Act) (c : ℕ) → IsLogOf config history log
    → WerePossible (of c log)
acts_were_possible config history log c was = induction_over_history config Everywhere (λ d. tt) (all_event config)
    (step_keeps config Everywhere (steps_keep config)) history log was c
