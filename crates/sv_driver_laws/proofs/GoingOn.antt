-- How a connection's bytes and calls change as the history goes on.
use Rattle.std.proofs.Common.{◌≡◌, ℕ, ◌≤◌, eqb, Bool, true, false, cond, List, [], ◌∷◌, ◌++◌, length, filter, flat_map, nat_lt, Some, None, refl, sym, ap, subst, ◌∙◌, inl, inr, append_assoc, append-nil, arith}
use Rattle.std.specs.Prelude.{◌≢◌, ⊤}
use Rattle.std.proofs.lemmas.Bool.{cases_Bool, ltb-false, ne_eqb, eqb-true}
use Rattle.std.proofs.lemmas.List.{drop-append-le, length-drop, length-append}
use Rattle.std.proofs.lemmas.List.Elements.{filter-append}
use Rattle.std.proofs.lemmas.List.Concat.{flat_map-append}
use Rattle.sv_links.specs.Channels.{ChannelAct}
use Rattle.std.specs.List.{AllByRecursion}
use Rattle.sv_history.specs.declared.event.Config.{Config}
use Rattle.sv_history.specs.declared.event.Refused.TheVariants.{NoConn, NotSent}
use Rattle.sv_history.specs.declared.event.Port.TheVariants.{Conn, Intr}
use Rattle.sv_history.specs.Event.{PlainEvent, Open, Bytes, Took, Close}
use Rattle.sv_history.specs.Act.{Act, ConnAct, CallTaken, Faulted, Replied, of}
use Rattle.sv_history.specs.Connection.{is_open, bytes_left, waiting, free, bytes_sent, bytes_taken}
use Rattle.sv_history.specs.History.{refusal, is_shut, IsLogOf}
use Rattle.sv_laws.proofs.Brought.{brings, AreCallActs}
use Rattle.sv_laws.proofs.OneLog.{one_log}
use Rattle.sv_laws.proofs.OnlyCalls.{only_calls, append_of_calls}
use Rattle.sv_serve.specs.declared.wire.Answer.TheVariants.{Got}
use Rattle.sv_serve.specs.Heard.{Heard, WasAccepted, WasRead, WasWritten, WasDialed, PeerAnswered, WasClosed}
use Rattle.sv_driver_laws.specs.Served.{event_of, is_outer}
use Rattle.sv_driver_laws.proofs.Keeps.{Subject, OfRead, OfConn, OfNone, about, AllMay}

abbrev pub is_bytes : PlainEvent → Bool
is_bytes (Bytes c piece) = true
is_bytes _ = false

abbrev pub IsNoRead : PlainEvent → Type 0
IsNoRead event = (c : ℕ) (bytes : List ℕ) → event ≡ Bytes c bytes → ⊥

pub none_is_read : (events : List PlainEvent) → filter is_bytes events ≡ [] → AllByRecursion IsNoRead events
none_is_read [] none = tt
none_is_read (Bytes d piece ∷ events) none = absurd cc
none_is_read (_ ∷ events) none = ((λ c bytes e. absurd cc), none_is_read events none)

-- ---- the logs of a history and of its continuation

abbrev pub acts_brought : ℕ → List PlainEvent → List ConnAct
acts_brought c events = flat_map (brings c) events

pub empty_append_both : {A : Type 0} (xs ys : List A) → xs ++ ys ≡ [] → (xs ≡ []) × (ys ≡ [])
empty_append_both [] ys e = (refl, e)
empty_append_both (x ∷ xs) ys e = absurd cc

-- Events that don't open, read, write or close a connection add only acts of calls to it.
pub only_calls_over_events : (config : Config) (events history : List PlainEvent) (front log : List Act) (c : ℕ)
    → acts_brought c events ≡ [] → IsLogOf config history front → IsLogOf config (events ++ history) log
    → (calls : List ConnAct) × AreCallActs calls × (of c log ≡ calls ++ of c front)
only_calls_over_events config [] history front log c none was is = ([], tt, ap (of c) (one_log config history log front is was))
only_calls_over_events config (event ∷ events) history front log c none was is =
    let parts = empty_append_both (brings c event) (acts_brought c events) none in
    let rest = only_calls_over_events config events history front is.0 c parts.1 was is.4 in
    let one = only_calls config event (events ++ history) is.0 log c is.4 is in (
      one.0 ++ rest.0,
      append_of_calls one.0 rest.0 one.1 rest.1,
      one.2 ∙ ap (λ (l : List ConnAct). one.0 ++ (l ++ of c is.0)) parts.0 ∙ ap (λ (l : List ConnAct). one.0 ++ l) rest.2
          ∙ sym (append_assoc one.0 rest.0 (of c front)),
    )

-- ---- no more bytes are taken than were sent

abbrev pub IsWithin : List ConnAct → Type 0
IsWithin acts = is_open acts ≡ true → bytes_taken acts ≤ length (bytes_sent acts)

pub within_after_calls : (adds acts : List ConnAct) → AreCallActs adds → IsWithin acts → IsWithin (adds ++ acts)
within_after_calls [] acts h k = k
within_after_calls (CallTaken call ∷ adds) acts h k = within_after_calls adds acts h k
within_after_calls (Faulted ∷ adds) acts h k = within_after_calls adds acts h k
within_after_calls (Replied bytes ∷ adds) acts h k = λ opened.
    let le = within_after_calls adds acts h k opened in
    let sum = length-append (bytes_sent (adds ++ acts)) bytes in omega (arith, le, sum)
within_after_calls (_ ∷ adds) acts h k = absurd h

pub took_not_too_many : (shut few : Bool) → cond shut (Some NoConn) (cond few (Some NotSent) None) ≡ None → few ≡ false
took_not_too_many true few e = absurd cc
took_not_too_many false true e = absurd cc
took_not_too_many false false e = refl

pub within_after_event : (config : Config) (channel_log : List ChannelAct) (event : PlainEvent) (log : List Act) (c : ℕ)
    → refusal config channel_log event log ≡ None → IsWithin (of c log) → IsWithin (brings c event ++ of c log)
within_after_event config channel_log (Open d role) log c free h = elim (cases_Bool (eqb d c)) [
  | inl e ↦ rw e (λ opened. omega arith)
  | inr e ↦ rw e h
]
within_after_event config channel_log (Bytes d piece) log c free h = elim (cases_Bool (eqb d c)) [ inl e ↦ rw e h | inr e ↦ rw e h ]
within_after_event config channel_log (Took (Conn d) n) log c free h = elim (cases_Bool (eqb d c)) [
  | inl e ↦ rw e (λ opened.
      let few : n ≤ length (waiting (of d log)) =
      ltb-false (length (waiting (of d log))) n (took_not_too_many (is_shut d log) (nat_lt (length (waiting (of d log))) n) free) in
      let same : of d log ≡ of c log = ap (λ (m : ℕ). of m log) (eqb-true d c e) in
      let all : waiting (of d log) ≡ bytes_left (of c log) = ap waiting same ∙ rw opened refl in
      let left = length-drop (bytes_taken (of c log)) (bytes_sent (of c log)) in
      let long : length (waiting (of d log)) ≡ length (bytes_left (of c log)) = ap length all in
      let le = h opened in omega (arith, few, left, long, le))
  | inr e ↦ rw e h
]
within_after_event config channel_log (Close (Conn d)) log c free h = elim (cases_Bool (eqb d c)) [
  | inl e ↦ rw e (λ opened. absurd cc)
  | inr e ↦ rw e h
]
within_after_event config channel_log _ log c free h = h

pub taken_within_sent : (config : Config) (history : List PlainEvent) (log : List Act) (c : ℕ) → IsLogOf config history log
    → IsWithin (of c log)
taken_within_sent config [] log c (bytes_taken, none) = subst (λ (l : List Act). IsWithin (of c l)) (sym none) (λ opened. absurd cc)
taken_within_sent config (event ∷ history) log c is =
    let grown = only_calls config event history is.0 log c is.4 is in
    subst IsWithin (sym grown.2) (within_after_calls grown.0 (brings c event ++ of c is.0) grown.1
    (within_after_event config is.2 event is.0 c is.6 (taken_within_sent config history is.0 c is.4)))

-- Acts of calls neither open nor close a connection, and append to the bytes that wait on it.
pub is_open_after_calls : (adds acts : List ConnAct) → AreCallActs adds → is_open (adds ++ acts) ≡ is_open acts
is_open_after_calls [] acts h = refl
is_open_after_calls (CallTaken call ∷ adds) acts h = is_open_after_calls adds acts h
is_open_after_calls (Faulted ∷ adds) acts h = is_open_after_calls adds acts h
is_open_after_calls (Replied bytes ∷ adds) acts h = is_open_after_calls adds acts h
is_open_after_calls (_ ∷ adds) acts h = absurd h

pub sent_after_calls : (adds acts : List ConnAct) → AreCallActs adds
    → (bytes_taken (adds ++ acts) ≡ bytes_taken acts) × (more : List ℕ) × (bytes_sent (adds ++ acts) ≡ bytes_sent acts ++ more)
sent_after_calls [] acts h = (refl, [], sym (append-nil (bytes_sent acts)))
sent_after_calls (CallTaken call ∷ adds) acts h = sent_after_calls adds acts h
sent_after_calls (Faulted ∷ adds) acts h = sent_after_calls adds acts h
sent_after_calls (Replied bytes ∷ adds) acts h =
    let rest = sent_after_calls adds acts h in
    (rest.0, rest.1 ++ bytes, ap (λ (l : List ℕ). l ++ bytes) rest.2 ∙ append_assoc (bytes_sent acts) rest.1 bytes)
sent_after_calls (_ ∷ adds) acts h = absurd h

pub waiting_after_calls : (adds acts : List ConnAct) → AreCallActs adds → IsWithin acts
    → (more : List ℕ) × (waiting (adds ++ acts) ≡ waiting acts ++ more)
waiting_after_calls adds acts h within = elim (cases_Bool (is_open acts)) [
  | inl e ↦
      let grown = sent_after_calls adds acts h in (
        grown.1,
        rw (is_open_after_calls adds acts h, e, grown.0, grown.2)
            (drop-append-le (bytes_taken acts) (bytes_sent acts) grown.1 (within e)),
      )
  | inr e ↦ ([], rw (is_open_after_calls adds acts h, e) refl)
]

-- ---- what steps leave alone

abbrev pub Elsewhere : ℕ → Subject → Type 0
Elsewhere c (OfRead d) = ⊥
Elsewhere c (OfConn d) = d ≢ c
Elsewhere c OfNone = ⊤

abbrev pub Unread : Subject → Type 0
Unread (OfRead d) = ⊥
Unread (OfConn d) = ⊤
Unread OfNone = ⊤

pub brought_outer : (c : ℕ) (events : List PlainEvent) → acts_brought c events ≡ acts_brought c (filter is_outer events)
brought_outer c [] = refl
brought_outer c (Open d role ∷ events) = ap (λ (l : List ConnAct). brings c (Open d role) ++ l) (brought_outer c events)
brought_outer c (Bytes d piece ∷ events) = ap (λ (l : List ConnAct). brings c (Bytes d piece) ++ l) (brought_outer c events)
brought_outer c (Took port n ∷ events) = ap (λ (l : List ConnAct). brings c (Took port n) ++ l) (brought_outer c events)
brought_outer c (Close port ∷ events) = ap (λ (l : List ConnAct). brings c (Close port) ++ l) (brought_outer c events)
brought_outer c (_ ∷ events) = brought_outer c events

pub brought_heard : (c : ℕ) (heard : Heard) → Elsewhere c (about heard) → acts_brought c (event_of heard) ≡ []
brought_heard c (WasAccepted role (Some d) (Got all)) ne = rw (ne_eqb d c ne) refl
brought_heard c (WasRead d most answer) ne = absurd ne
brought_heard c (WasWritten (Conn d) bytes (Got n)) ne = rw (ne_eqb d c ne) refl
brought_heard c (WasWritten (Intr d) bytes (Got n)) ne = refl
brought_heard c (WasDialed d dial (Got all)) ne = refl
brought_heard c (PeerAnswered d (Got all)) ne = refl
brought_heard c (WasClosed (Conn d)) ne = rw (ne_eqb d c ne) refl
brought_heard c _ ne = refl

pub brought_piece : (c : ℕ) (piece : List Heard) → AllMay (Elsewhere c) piece → acts_brought c (flat_map event_of piece) ≡ []
brought_piece c [] all = refl
brought_piece c (heard ∷ piece) all = flat_map-append (brings c) (event_of heard) (flat_map event_of piece)
    ∙ ap (λ (l : List ConnAct). l ++ acts_brought c (flat_map event_of piece)) (brought_heard c heard all.0) ∙ brought_piece c piece all.1

pub bytes_outer : (events : List PlainEvent) → filter is_bytes events ≡ filter is_bytes (filter is_outer events)
bytes_outer [] = refl
bytes_outer (Bytes d piece ∷ events) = ap (λ (l : List PlainEvent). Bytes d piece ∷ l) (bytes_outer events)
bytes_outer (_ ∷ events) = bytes_outer events

pub bytes_heard : (heard : Heard) → Unread (about heard) → filter is_bytes (event_of heard) ≡ []
bytes_heard (WasAccepted role (Some d) (Got all)) un = refl
bytes_heard (WasRead d most answer) un = absurd un
bytes_heard (WasWritten (Conn d) bytes (Got n)) un = refl
bytes_heard (WasWritten (Intr d) bytes (Got n)) un = refl
bytes_heard (WasDialed d dial (Got all)) un = refl
bytes_heard (PeerAnswered d (Got all)) un = refl
bytes_heard (WasClosed (Conn d)) un = refl
bytes_heard _ un = refl

pub bytes_piece : (piece : List Heard) → AllMay Unread piece → filter is_bytes (flat_map event_of piece) ≡ []
bytes_piece [] all = refl
bytes_piece (heard ∷ piece) all = filter-append is_bytes (event_of heard) (flat_map event_of piece)
    ∙ ap (λ (l : List PlainEvent). l ++ filter is_bytes (flat_map event_of piece)) (bytes_heard heard all.0) ∙ bytes_piece piece all.1

pub may_all : (May Can : Subject → Type 0) (piece : List Heard) → ((s : Subject) → May s → Can s) → AllMay May piece → AllMay Can piece
may_all May Can [] so all = tt
may_all May Can (heard ∷ piece) so all = (so (about heard) all.0, may_all May Can piece so all.1)
