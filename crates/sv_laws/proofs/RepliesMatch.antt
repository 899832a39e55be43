-- Each reply answers the call that was unanswered until then, and has that call's xid.
use Rattle.std.proofs.Common.{◌≡◌, ℕ, zero, suc, ◌≤◌, Bool, true, false, List, [], ◌∷◌, ◌++◌, length, map, flat_map, take, drop, Some, refl, sym, ap, subst, ◌∙◌, arith}
use Rattle.std.specs.Prelude.{Result, Ok, Err, slice_get, ◌||◌}
use Rattle.std.specs.List.{concat}
use Rattle.std.specs.Int.{w32, to_be_bytes}
use Rattle.sv_xdr.specs.Spelling.{Field, Unsigned, Begins}
use Rattle.sv_xdr.proofs.Fields.{IsBytes}
use Rattle.sv_xdr.proofs.Spelled.{one_spelling}
use Rattle.sv_rpc.specs.declared.reply.Reply.{Reply}
use Rattle.sv_rpc.specs.declared.reply.Reply.TheVariants.{Success, Mismatch, ProgUnavail, ProgMismatch, ProcUnavail, GarbageArgs}
use Rattle.sv_rpc.specs.declared.call.CallFault.{CallFault}
use Rattle.sv_rpc.specs.declared.call.CallFault.TheVariants.{BadHeader, Version}
use Rattle.sv_rpc.specs.Call.{PlainCall, CallIs, call_at}
use Rattle.sv_rpc.specs.Record.{header_of, fragment, Sent, bytes_of, record_of}
use Rattle.sv_rpc.specs.Stream.{records_of}
use Rattle.sv_rpc.proofs.Calls.{call_is}
use Rattle.sv_rpc.proofs.EveryStream.{every_stream}
use Rattle.sv_history.specs.Act.{ConnAct, Opened, Piece, CallTaken, Replied, BytesTaken, PortClosed}
use Rattle.sv_history.specs.Connection.{next_call, stream, pending_call, records_ended, took_no_call, is_busy}
use Rattle.sv_history.specs.Reply.{reply_record}
use Rattle.sv_laws.specs.Laws.{HasXidOf, RepliesMatch}
use Rattle.sv_laws.proofs.EveryLog.EachAct.{IsReplyTo, WerePossible, acts_were_possible}
use Rattle.sv_laws.proofs.EveryLog.Taken.{xid_of}
use Rattle.sv_laws.proofs.Facts.{some_injective}
use Rattle.std.proofs.NetLemmas.Options.{cond_none}

-- ---- each byte of a call is below 256

empty_is_bytes : IsBytes []
empty_is_bytes i = omega arith

append_is_bytes : (a b : List ℕ) → IsBytes a → IsBytes b → IsBytes (a ++ b)
append_is_bytes [] b h k i = k i
append_is_bytes (x ∷ a) b h k zero = h 0
append_is_bytes (x ∷ a) b h k (suc i) = append_is_bytes a b (λ j. h (suc j)) k i

front_is_bytes : (a b : List ℕ) → IsBytes (a ++ b) → IsBytes a
front_is_bytes [] b h i = omega arith
front_is_bytes (x ∷ a) b h zero = h 0
front_is_bytes (x ∷ a) b h (suc i) = front_is_bytes a b (λ j. h (suc j)) i

back_is_bytes : (a b : List ℕ) → IsBytes (a ++ b) → IsBytes b
back_is_bytes [] b h = h
back_is_bytes (x ∷ a) b h = back_is_bytes a b (λ j. h (suc j))

stream_bytes : (acts : List ConnAct) → WerePossible acts → IsBytes (stream acts)
stream_bytes [] all = empty_is_bytes
stream_bytes (Opened role ∷ acts) all = empty_is_bytes
stream_bytes (PortClosed ∷ acts) all = empty_is_bytes
stream_bytes (Piece bytes ∷ acts) all = append_is_bytes (stream acts) bytes (stream_bytes acts all.1) all.0.1
stream_bytes (_ ∷ acts) all = stream_bytes acts all.1

text_bytes : (last : Bool) (text : List ℕ) → IsBytes (fragment last text) → IsBytes text
text_bytes last text fits = back_is_bytes (header_of last (length text)) text fits

front_bytes : (front : List (List ℕ)) → IsBytes (flat_map (fragment false) front) → IsBytes (concat front)
front_bytes [] fits = empty_is_bytes
front_bytes (text ∷ front) fits =
    let first = front_is_bytes (fragment false text) (flat_map (fragment false) front) fits in
    let others = back_is_bytes (fragment false text) (flat_map (fragment false) front) fits in
    append_is_bytes text (concat front) (text_bytes false text first) (front_bytes front others)

record_bytes : (sent : Sent) → IsBytes (bytes_of sent) → IsBytes (record_of sent)
record_bytes sent fits =
    let first = front_is_bytes (flat_map (fragment false) sent.front) (fragment true sent.final) fits in
    let others = back_is_bytes (flat_map (fragment false) sent.front) (fragment true sent.final) fits in
    append_is_bytes (concat sent.front) sent.final (front_bytes sent.front first) (text_bytes true sent.final others)

taken_bytes : (sent : List Sent) (n : ℕ) (call : List ℕ) → IsBytes (flat_map bytes_of sent)
    → slice_get (map record_of sent) n ≡ Some call → IsBytes call
taken_bytes (one ∷ sent) zero call fits e =
    subst IsBytes (some_injective (record_of one) call e) (record_bytes one (front_is_bytes (bytes_of one) (flat_map bytes_of sent) fits))
taken_bytes (one ∷ sent) (suc n) call fits e = taken_bytes sent n call (back_is_bytes (bytes_of one) (flat_map bytes_of sent) fits) e
taken_bytes [] n call fits e = absurd cc

next_bytes : (acts : List ConnAct) (call : List ℕ) → WerePossible acts → next_call acts ≡ Some call → IsBytes call
next_bytes acts call all next =
    let s = every_stream (stream acts) (stream_bytes acts all) in
    let fits : IsBytes (flat_map bytes_of s.sent ++ s.rest) = subst IsBytes s.whole (stream_bytes acts all) in
    let found = (cond_none (took_no_call acts || is_busy acts) (slice_get (records_of (stream acts)) (records_ended acts)) call next).1 in
    taken_bytes s.sent (records_ended acts) call (front_is_bytes (flat_map bytes_of s.sent) s.rest fits)
    (ap (λ (l : List (List ℕ)). slice_get l (records_ended acts)) s.records_are ∙ found)

pub pending_call_is_bytes : (acts : List ConnAct) (call : List ℕ) → WerePossible acts → pending_call acts ≡ Some call → IsBytes call
pending_call_is_bytes (CallTaken taken ∷ acts) call all busy =
    subst IsBytes (some_injective taken call busy) (next_bytes acts taken all.1 all.0.1)
pending_call_is_bytes (Piece bytes ∷ acts) call all busy = pending_call_is_bytes acts call all.1 busy
pending_call_is_bytes (BytesTaken count ∷ acts) call all busy = pending_call_is_bytes acts call all.1 busy
pending_call_is_bytes _ call all busy = absurd cc

-- ---- the xid of a call, and that of its reply

xid_begins : (bytes : List ℕ) (found : Result PlainCall CallFault) (xid : ℕ) → CallIs bytes found → xid_of found ≡ Some xid
    → (after : List ℕ) × Begins bytes (Unsigned xid) after
xid_begins bytes (Ok call) xid h e =
    (h.4.0, subst (λ (n : ℕ). Begins bytes (Unsigned n) h.4.0) (let same : call.xid ≡ xid = cc in same) h.4.1)
xid_begins bytes (Err (Version found)) xid h e =
    (h.3.0, subst (λ (n : ℕ). Begins bytes (Unsigned n) h.3.0) (let same : found ≡ xid = cc in same) h.3.1)
xid_begins bytes (Err BadHeader) xid h e = absurd cc

word_begins_bytes : (xid : ℕ) (after : List ℕ)
    → (4 ≤ length (to_be_bytes w32 xid ++ after)) × (take 4 (to_be_bytes w32 xid ++ after) ≡ to_be_bytes w32 xid)
word_begins_bytes xid after = (omega arith, refl)

call_xid : (call : List ℕ) (xid : ℕ) → IsBytes call → xid_of (call_at call) ≡ Some xid
    → (4 ≤ length call) × (take 4 call ≡ to_be_bytes w32 xid)
call_xid call xid fits e =
    let begins = xid_begins call (call_at call) xid (call_is call fits) e in
    let front : call ≡ to_be_bytes w32 xid ++ begins.0 =
    begins.1.2 ∙ ap (λ (l : List ℕ). l ++ begins.0) (one_spelling (Unsigned xid) begins.1.0 begins.1.1) in
    subst (λ (l : List ℕ). (4 ≤ length l) × (take 4 l ≡ to_be_bytes w32 xid)) (sym front) (word_begins_bytes xid begins.0)

reply_xid : (xid : ℕ) (answer : Reply) (fields : List Field) → take 4 (drop 4 (reply_record xid answer fields)) ≡ to_be_bytes w32 xid
reply_xid xid Success fields = refl
reply_xid xid Mismatch fields = refl
reply_xid xid ProgUnavail fields = refl
reply_xid xid (ProgMismatch low high) fields = refl
reply_xid xid ProcUnavail fields = refl
reply_xid xid GarbageArgs fields = refl

pub has_xid : (call reply : List ℕ) → IsBytes call → IsReplyTo call reply → HasXidOf call reply
has_xid call reply fits (xid, answer, fields, is, same) =
    let begins = call_xid call xid fits is in (
      begins.0,
      ap (λ (l : List ℕ). take 4 (drop 4 l)) same ∙ reply_xid xid answer fields ∙ sym begins.1,
    )

-- ---- each reply of a log

came_in_suffix : (newer older : List ConnAct) → WerePossible (newer ++ older) → WerePossible older
came_in_suffix [] older all = all
came_in_suffix (act ∷ newer) older all = came_in_suffix newer older all.1

pub replies_match : RepliesMatch
replies_match config history log c newer older reply was is =
    let all = came_in_suffix newer (Replied reply ∷ older) (subst WerePossible is (acts_were_possible config history log c was)) in
    (all.0.0, all.0.1, has_xid all.0.0 reply (pending_call_is_bytes older all.0.0 all.1 all.0.1) all.0.2)
