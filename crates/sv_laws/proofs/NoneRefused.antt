-- Two histories differ only in their Took events, and no more bytes wait after the second one. An
-- event that isn't a Took, and isn't refused after the first one, isn't refused after the second
-- one.
use Rattle.std.proofs.Common.{◌≡◌, ℕ, ◌≤◌, Bool, true, false, cond, List, length, Option, Some, None, refl, sym, ap, ◌∙◌, arith, le-ltb}
use Rattle.std.specs.Prelude.{◌||◌, not, is_some, is_none, nat_lt}
use Rattle.std.proofs.lemmas.Bool.{ltb-false, not-false, or_parts}
use Rattle.sv_links.specs.declared.request.Peer.{Peer}
use Rattle.sv_links.specs.Channels.{ChannelAct}
use Rattle.sv_history.specs.declared.event.Config.{Config}
use Rattle.sv_history.specs.declared.event.Port.TheVariants.{Conn, Intr}
use Rattle.sv_history.specs.Event.{PlainEvent, Open, Bytes, Turn, Refuse, Took, Close, Dialed, Input, External, Tick}
use Rattle.sv_history.specs.Act.{Act, ConnAct, of}
use Rattle.sv_rpc.specs.Stream.{Reading}
use Rattle.sv_history.specs.declared.event.Role.{Role}
use Rattle.sv_history.specs.declared.event.Refused.{Refused}
use Rattle.sv_history.specs.declared.event.Refused.TheVariants.{NoConn, NoRoom, NotRefusable}
use Rattle.sv_history.specs.Connection.{is_open, waiting, bytes_left, free, room, is_idle}
use Rattle.sv_history.specs.Limits.{longest_reply}
use Rattle.sv_history.specs.Refusing.{refusable}
use Rattle.sv_history.specs.History.{refusal, is_shut, is_channel_shut}
use Rattle.sv_laws.specs.Taking.{is_took, NoneRefused}
use Rattle.sv_laws.proofs.Cuts.SameView.{SameConnection, next_call_same, next_request_same}
use Rattle.sv_laws.proofs.Taking.{TakenAlike, logs_alike, retook_if_same_without_took}

-- ---- where no more bytes wait, no further event is refused

-- An event that wasn't refused isn't refused if the reply still finds room.
not_refused_with_room : (shut one two : Bool) (refused : Refused) → (one ≡ false → shut ≡ false → two ≡ false)
    → cond shut (Some NoConn) (cond one (Some refused) None) ≡ None → cond shut (Some NoConn) (cond two (Some refused) None) ≡ None
not_refused_with_room true one two refused so e = absurd cc
not_refused_with_room false true two refused so e = absurd cc
not_refused_with_room false false two refused so e = rw (so refl refl) refl

turn_by : (shut idle one two : Bool) (refused : Refused) → (one ≡ false → shut ≡ false → two ≡ false)
    → cond shut (Some NoConn) (cond idle None (cond one (Some refused) None)) ≡ None
    → cond shut (Some NoConn) (cond idle None (cond two (Some refused) None)) ≡ None
turn_by shut true one two refused so e = e
turn_by shut false one two refused so e = not_refused_with_room shut one two refused so e

refuse_by : (shut bad one two : Bool) (refused : Refused) → (one ≡ false → shut ≡ false → two ≡ false)
    → cond shut (Some NoConn) (cond bad (Some NotRefusable) (cond one (Some refused) None)) ≡ None
    → cond shut (Some NoConn) (cond bad (Some NotRefusable) (cond two (Some refused) None)) ≡ None
refuse_by true bad one two refused so e = absurd cc
refuse_by false true one two refused so e = absurd cc
refuse_by false false one two refused so e = not_refused_with_room false one two refused so e

reply_still_has_room : (c : ℕ) (log also : List Act) → SameConnection (of c log) (of c also)
    → length (waiting (of c also)) ≤ length (waiting (of c log)) → nat_lt (free (of c log)) longest_reply ≡ false → is_shut c log ≡ false
    → nat_lt (free (of c also)) longest_reply ≡ false
reply_still_has_room c log also v le enough shut =
    let opened : is_open (of c log) ≡ true =
    not-false (is_open (of c log)) (or_parts (nat_lt 15 c) (not (is_open (of c log))) shut).1 in
    let there : is_open (of c also) ≡ true = ap is_some (sym v.role) ∙ opened in
    let few : length (bytes_left (of c also)) ≤ length (bytes_left (of c log)) = rw (opened, there) at le in
    let room = ltb-false (free (of c log)) longest_reply enough in
    le-ltb (free (of c also)) longest_reply (omega (arith, few, room))

shut_same : (c : ℕ) (log also : List Act) → SameConnection (of c log) (of c also) → is_shut c log ≡ is_shut c also
shut_same c log also v = ap (λ (r : Option Role). nat_lt 15 c || not (is_some r)) v.role

refusable_same : (acts others : List ConnAct) → SameConnection acts others → refusable acts ≡ refusable others
refusable_same acts others v = rw (next_request_same acts others v) refl

room_same : (acts others : List ConnAct) → SameConnection acts others → room acts ≡ room others
room_same acts others v = rw (v.role, v.count, ap (λ (r : Reading). r.0) v.streams, ap (λ (r : Reading). r.1) v.streams) refl

channel_same : (c : ℕ) (log also : List Act) → TakenAlike log also → is_channel_shut c log ≡ is_channel_shut c also
channel_same c log also v = ap (λ (p : Option Peer). nat_lt 15 c || not (is_some p)) (v.device.channels c)

none_refused_by : (config : Config) (log also : List Act) (channel_log later : List ChannelAct) (event : PlainEvent) → TakenAlike log also
    → ((c : ℕ) → length (waiting (of c also)) ≤ length (waiting (of c log))) → is_took event ≡ false
    → refusal config channel_log event log ≡ None → refusal config later event also ≡ None
none_refused_by config log also channel_log later (Took port n) v le e fits = absurd cc
none_refused_by config log also channel_log later (Open c role) v le e fits = rw (v.each c).role at fits
none_refused_by config log also channel_log later (Bytes c piece) v le e fits =
    rw (shut_same c log also (v.each c), room_same (of c log) (of c also) (v.each c)) at fits
none_refused_by config log also channel_log later (Turn c) v le e fits =
    rw (sym (shut_same c log also (v.each c)), sym (next_call_same (of c log) (of c also) (v.each c)))
    (turn_by (is_shut c log) (is_idle (of c log)) (nat_lt (free (of c log)) longest_reply) (nat_lt (free (of c also)) longest_reply) NoRoom
    (reply_still_has_room c log also (v.each c) (le c)) fits)
none_refused_by config log also channel_log later (Refuse c) v le e fits =
    rw (sym (shut_same c log also (v.each c)), sym (refusable_same (of c log) (of c also) (v.each c)))
    (refuse_by (is_shut c log) (is_none (refusable (of c log))) (nat_lt (free (of c log)) longest_reply)
    (nat_lt (free (of c also)) longest_reply) NoRoom (reply_still_has_room c log also (v.each c) (le c)) fits)
none_refused_by config log also channel_log later (Close (Conn c)) v le e fits = rw (shut_same c log also (v.each c)) at fits
none_refused_by config log also channel_log later (Close (Intr c)) v le e fits = rw (channel_same c log also v) at fits
none_refused_by config log also channel_log later (Dialed c ok) v le e fits =
    rw (shut_same c log also (v.each c), v.device.waits) at fits
none_refused_by config log also channel_log later (Input channel microvolts) v le e fits = fits
none_refused_by config log also channel_log later External v le e fits = refl
none_refused_by config log also channel_log later Tick v le e fits = rw v.device.clock at fits

pub none_refused : NoneRefused
none_refused config history other log also channel_log later event same x y le e fits =
    none_refused_by config log also channel_log later event
    (logs_alike config (retook_if_same_without_took history other same) log also x y) le e fits
