-- In a sweep each connection has its turn, and then the bytes that wait on it are passed to the
-- wire.
use Rattle.std.proofs.Common.{◌≡◌, ◌⊎◌, ℕ, zero, suc, ◌<◌, ◌≤◌, Bool, true, false, cond, List, [], ◌∷◌, ◌++◌, filter, nat_lt, Option, Some, None, Result, Ok, Err, refl, sym, ap, subst, ◌∙◌, inl, inr, append_assoc, arith, le-ltb}
use Rattle.std.specs.Prelude.{not, ◌||◌, is_some}
use Rattle.std.proofs.Math.Nat.{eq-or-lt_of_le}
use Rattle.std.proofs.lemmas.Bool.{ltb-true, not-true, not-false}
use Rattle.std.proofs.lemmas.List.Elements.{filter-append}
use Rattle.std.proofs.lemmas.List.Concat.{flat_map-append}
use Rattle.sv_links.specs.Channels.{ChannelAct}
use Rattle.sv_history.specs.declared.event.Config.{Config}
use Rattle.sv_history.specs.declared.event.Did.{Did}
use Rattle.sv_history.specs.declared.event.Did.TheVariants.{Done}
use Rattle.sv_history.specs.declared.event.Refused.{Refused}
use Rattle.sv_history.specs.declared.event.Refused.TheVariants.{NoMemory, NoConn, NoRoom}
use Rattle.sv_history.specs.declared.event.Role.{Role}
use Rattle.sv_history.specs.declared.event.Port.TheVariants.{Conn}
use Rattle.sv_history.specs.Event.{PlainEvent, Turn, Refuse}
use Rattle.sv_history.specs.Act.{Act, ConnAct, PortClosed, of}
use Rattle.sv_history.specs.Connection.{is_open, waiting, is_idle, free, open_role, bytes_taken}
use Rattle.sv_history.specs.Limits.{longest_reply}
use Rattle.sv_history.specs.History.{refusal, IsLogOf, Answers}
use Rattle.sv_history.proofs.Unrecorded.{nothing_idle}
use Rattle.sv_laws.proofs.Brought.{brings, IsClear}
use Rattle.sv_laws.proofs.OneLog.{one_log}
use Rattle.sv_laws.proofs.ShutIsClear.{shut_is_clear}
use Rattle.sv_serve.specs.Heard.{Heard, WasWritten}
use Rattle.sv_serve.specs.DriverView.{DriverView, ForEach}
use Rattle.sv_serve.specs.Steps.{Given, EndsTurn, TurnsIf, Turns}
use Rattle.sv_driver_laws.specs.Served.{Takes, IsWritten}
use Rattle.sv_driver_laws.proofs.Keeps.{Subject, Keeps, keeps_none, keeps_then, inner_by}
use Rattle.sv_driver_laws.proofs.Carrying.{ends}
use Rattle.sv_driver_laws.proofs.GoingOn.{is_bytes, acts_brought, Elsewhere, Unread, brought_outer, brought_piece, bytes_outer, bytes_piece, may_all}

-- ---- a connection that had its turn

-- The events of the connection's turn, those before the turn, and those after it.
pub record HadTurn (config : Config) (c : ℕ) (history events : List PlainEvent) : Type 0 where
  pub first : List PlainEvent
  pub turn : List PlainEvent
  pub behind : List PlainEvent
  pub before : List Act
  pub split : events ≡ behind ++ (turn ++ first)
  pub was : IsLogOf config (first ++ history) before
  pub unread : filter is_bytes behind ≡ []
  pub takes : Takes config c before turn

-- If no bytes come with them, further events may follow.
abbrev pub had_turn_more_events : (config : Config) (c : ℕ) (history events more : List PlainEvent) → filter is_bytes more ≡ []
    → HadTurn config c history events → HadTurn config c history (more ++ events)
had_turn_more_events config c history events more unread t = record {
  first = t.first;
  turn = t.turn;
  behind = more ++ t.behind;
  before = t.before;
  split = ap (λ l. more ++ l) t.split ∙ sym (append_assoc more t.behind (t.turn ++ t.first));
  was = t.was;
  unread = filter-append is_bytes more t.behind ∙ rw (unread, t.unread) refl;
  takes = t.takes;
}

-- Since its turn the connection wasn't opened, read, written or closed.
pub record Turned (config : Config) (c : ℕ) (history events : List PlainEvent) : Type 0 where
  pub had : HadTurn config c history events
  pub open had use *
  pub untouched : acts_brought c behind ≡ []

-- The connection has its turn now.
turned_by : (config : Config) (c : ℕ) (now history events turn : List PlainEvent) (log : List Act) → now ≡ events ++ history
    → IsLogOf config now log → Takes config c log turn → Turned config c history (turn ++ events)
turned_by config c now history events turn log is was takes = record {
  had = record {
    first = events;
    turn = turn;
    behind = [];
    before = log;
    split = refl;
    was = subst (λ h. IsLogOf config h log) is was;
    unread = refl;
    takes = takes;
  };
  untouched = refl;
}

pub turned_more_events : (config : Config) (c : ℕ) (history events more : List PlainEvent) → filter is_bytes more ≡ []
    → acts_brought c more ≡ [] → Turned config c history events → Turned config c history (more ++ events)
turned_more_events config c history events more unread untouched t = record {
  had = had_turn_more_events config c history events more unread t.had;
  untouched = flat_map-append (brings c) more t.behind ∙ rw (untouched, t.untouched) refl;
}

-- If any bytes wait on a connection, they are passed to the wire.
abbrev pub Offers : ℕ → List Act → List Heard → Type 0
Offers c log piece = (waiting (of c log) ≡ []) ⊎ IsWritten (Conn c) (waiting (of c log)) piece

-- The bytes that waited after the connection's turn are passed to the wire.
pub record Offered (config : Config) (c : ℕ) (history events : List PlainEvent) (piece : List Heard) : Type 0 where
  pub had : HadTurn config c history events
  pub open had use *
  pub offers : (after : List Act) → IsLogOf config (turn ++ (first ++ history)) after → Offers c after piece

pub offers_more : (c : ℕ) (log : List Act) (piece more : List Heard) → Offers c log piece → Offers c log (more ++ piece)
offers_more c log piece more (inl none) = inl none
offers_more c log piece more (inr (bytes, answer, newer, older, is)) = inr (
  bytes,
  answer,
  more ++ newer,
  older,
  ap (λ (l : List Heard). more ++ l) is
      ∙ sym (append_assoc more newer (WasWritten (Conn c) (waiting (of c log) ++ bytes) answer ∷ older)),
)

pub offered_more : (config : Config) (c : ℕ) (history events more : List PlainEvent) (piece later : List Heard) → filter is_bytes more ≡ []
    → Offered config c history events piece → Offered config c history (more ++ events) (later ++ piece)
offered_more config c history events more piece later unread t = record {
  had = had_turn_more_events config c history events more unread t.had;
  offers = λ after is. offers_more c after piece later (t.offers after is);
}

-- ---- a turn

abbrev pub Nobody : Subject → Type 0
Nobody s = ⊥

pub nobody_elsewhere : (c : ℕ) (s : Subject) → Nobody s → Elsewhere c s
nobody_elsewhere c s h = absurd h

pub nobody_unread : (s : Subject) → Nobody s → Unread s
nobody_unread s h = absurd h

-- Steps that read no connection add no Bytes, and steps of other connections bring nothing to this
-- one.
pub keeps_unread : {W : Type 0} (hears : W → Heard → W → Type 0) (May : Subject → Type 0) (config : Config) (a b : DriverView W)
    → ((s : Subject) → May s → Unread s) → (k : Keeps hears May config a b) → filter is_bytes k.events ≡ []
keeps_unread hears May config a b so k = bytes_outer k.events ∙ ap (filter is_bytes) k.told
    ∙ bytes_piece k.piece (may_all May Unread k.piece so k.may)

pub keeps_elsewhere : {W : Type 0} (hears : W → Heard → W → Type 0) (May : Subject → Type 0) (config : Config) (a b : DriverView W) (c : ℕ)
    → ((s : Subject) → May s → Elsewhere c s) → (k : Keeps hears May config a b) → acts_brought c k.events ≡ []
keeps_elsewhere hears May config a b c so k = brought_outer c k.events ∙ ap (acts_brought c) k.told
    ∙ brought_piece c k.piece (may_all May (Elsewhere c) k.piece so k.may)

pub turned_keeps : {W : Type 0} (hears : W → Heard → W → Type 0) (May : Subject → Type 0) (config : Config) (a b : DriverView W) (c : ℕ)
    (history events : List PlainEvent) → ((s : Subject) → May s → Unread s) → ((s : Subject) → May s → Elsewhere c s)
    → (k : Keeps hears May config a b) → Turned config c history events → Turned config c history (k.events ++ events)
turned_keeps hears May config a b c history events so also k t = turned_more_events config c history events k.events
    (keeps_unread hears May config a b so k) (keeps_elsewhere hears May config a b c also k) t

pub record TurnStep {W : Type 0} (hears : W → Heard → W
    → Type 0) (config : Config) (c : ℕ) (history events : List PlainEvent) (x y : DriverView W) : Type 0 where
  pub k : Keeps hears Nobody config x y
  pub turned : Turned config c history (k.events ++ events)

pub clear_idle : (acts : List ConnAct) → IsClear acts → false ≡ not (is_idle acts)
clear_idle [] h = nothing_idle [] refl
clear_idle (PortClosed ∷ acts) h = nothing_idle [] refl
clear_idle (_ ∷ acts) h = absurd h

pub role_none : (found : Option Role) → is_some found ≡ false → found ≡ None
role_none (Some role) e = absurd cc
role_none None e = refl

pub refused_turn_has_no_room_by : (far opened idle few : Bool) (refused : Refused)
    → cond (far || not opened) (Some NoConn) (cond idle None (cond few (Some NoRoom) None)) ≡ Some refused
    → far ≡ false → idle ≡ false → (opened ≡ false → ⊥) → few ≡ true
refused_turn_has_no_room_by true opened idle few refused h far busy some = absurd cc
refused_turn_has_no_room_by false false idle few refused h far busy some = absurd (some refl)
refused_turn_has_no_room_by false true true few refused h far busy some = absurd cc
refused_turn_has_no_room_by false true false true refused h far busy some = refl
refused_turn_has_no_room_by false true false false refused h far busy some = absurd cc

-- If a Turn is refused, though there is a call to take, and not for lack of memory, there is no
-- room for the longest reply.
pub refused_turn_has_no_room : (config : Config) (history : List PlainEvent) (log : List Act) (c : ℕ) (channel_log : List ChannelAct)
    (refused : Refused)
    → c < 16 → IsLogOf config history log → true ≡ not (is_idle (of c log)) → refusal config channel_log (Turn c) log ≡ Some refused
    → free (of c log) < longest_reply
refused_turn_has_no_room config history log c channel_log refused lt was ready h =
    let busy = not-true (is_idle (of c log)) (sym ready) in
    ltb-true (free (of c log)) longest_reply (refused_turn_has_no_room_by (nat_lt 15 c) (is_open (of c log)) (is_idle (of c log))
    (nat_lt (free (of c log)) longest_reply) refused h (le-ltb 15 c (omega (arith, lt))) busy
    (λ shut.
    let idle = not-false (is_idle (of c log)) (sym (clear_idle (of c log) (shut_is_clear config history log c was
    (role_none (open_role (of c log)) shut)))) in
    let z : true ≡ false = sym idle ∙ busy in cc))

pub step_err : {W : Type 0} (hears : W → Heard → W → Type 0) (config : Config) (c : ℕ) (refused : Refused)
    (x between y : DriverView W) (history events : List PlainEvent) (log : List Act) → c < 16 → x.history ≡ events ++ history
    → IsLogOf config x.history log → true ≡ not (is_idle (of c log)) → Answers config (Turn c) log (Err refused) → between ≡ x
    → EndsTurn c (Err refused) config between y → TurnStep hears config c history events x y
step_err hears config c NoMemory x between y history events log lt is was ready answers same bytes_taken = record {
  k = keeps_then hears Nobody config x between y (keeps_none hears Nobody config x between same)
      (inner_by hears Nobody config (Refuse c) (Ok Done) between y refl (λ d. refl) (λ l. refl) bytes_taken);
  turned = turned_by config c x.history history events (Refuse c ∷ []) log is was (inr (inl (refl, answers)));
}
step_err hears config c refused x between y history events log lt is was ready (channel_log, tells, says) same to = record {
  k = keeps_none hears Nobody config x y (to ∙ same);
  turned = turned_by config c x.history history events [] log is was
      (inr (inr (refl, inr (refused_turn_has_no_room config x.history log c channel_log refused lt was ready says))));
}

pub step_answer : {W : Type 0} (hears : W → Heard → W → Type 0) (config : Config) (c : ℕ) (result : Result Did Refused)
    (x between y : DriverView W) (history events : List PlainEvent) (log : List Act) → c < 16 → x.history ≡ events ++ history
    → IsLogOf config x.history log → true ≡ not (is_idle (of c log)) → Given (Turn c) result config x between
    → EndsTurn c result config between y → TurnStep hears config c history events x y
step_answer hears config c (Ok did) x between y history events log lt is was ready bytes_taken same = record {
  k = keeps_then hears Nobody config x between y
      (inner_by hears Nobody config (Turn c) (Ok did) x between refl (λ d. refl) (λ l. refl) bytes_taken)
      (keeps_none hears Nobody config between y same);
  turned = turned_by config c x.history history events (Turn c ∷ []) log is was (inl refl);
}
step_answer hears config c (Err refused) x between y history events log lt is was ready (other, was_other, says, to) ends =
    let one = one_log config x.history other log was_other was in
    step_err hears config c refused x between y history events log lt is was ready
    (subst (λ (l : List Act). Answers config (Turn c) l (Err refused)) one says) to ends

pub step_ready : {W : Type 0} (hears : W → Heard → W → Type 0) (config : Config) (c : ℕ) (ready : Bool)
    (x y : DriverView W) (history events : List PlainEvent) (log : List Act) → c < 16 → x.history ≡ events ++ history
    → IsLogOf config x.history log → ready ≡ not (is_idle (of c log)) → TurnsIf c ready config x y
    → TurnStep hears config c history events x y
step_ready hears config c false x y history events log lt is was idle same = record {
  k = keeps_none hears Nobody config x y same;
  turned = turned_by config c x.history history events [] log is was (inr (inr (refl, inl (not-false (is_idle (of c log)) (sym idle)))));
}
step_ready hears config c true x y history events log lt is was ready (result, (between, bytes_taken, ends)) =
    step_answer hears config c result x between y history events log lt is was ready bytes_taken ends

-- ---- the turns of all connections

pub record TurnPhase {W : Type 0} (hears : W → Heard → W
    → Type 0) (config : Config) (n : ℕ) (history events : List PlainEvent) (x y : DriverView W) : Type 0 where
  pub k : Keeps hears Nobody config x y
  pub turned : (c : ℕ) → c < n → Turned config c history (k.events ++ events)

pub turn_phase : {W : Type 0} (hears : W → Heard → W → Type 0) (config : Config) (n : ℕ) (x y : DriverView W)
    (history events : List PlainEvent) → n ≤ 16 → x.history ≡ events ++ history → ForEach n Turns config x y
    → TurnPhase hears config n history events x y
turn_phase hears config zero x y history events le is same = record {
  k = keeps_none hears Nobody config x y same;
  turned = λ c lt. absurd (omega (arith, lt));
}
turn_phase hears config (suc n) x y history events le is (between, front, (ready, (log, was, says), last)) =
    let p = turn_phase hears config n x between history events (omega (arith, le)) is front in
    let there : between.history ≡ (p.k.events ++ events) ++ history =
    p.k.grown ∙ ap (λ h. p.k.events ++ h) is ∙ sym (append_assoc p.k.events events history) in
    let s = step_ready hears config n ready between y history (p.k.events ++ events) log (omega (arith, le)) there was says last in
    record {
      k = keeps_then hears Nobody config x between y p.k s.k;
      turned = λ c lt. subst (λ e. Turned config c history e) (sym (append_assoc s.k.events p.k.events events))
          (let low : c ≤ n = omega (arith, lt) in
          elim (eq-or-lt_of_le low) [
            | inl same ↦ subst (λ (m : ℕ). Turned config m history (s.k.events ++ (p.k.events ++ events))) (sym same) s.turned
            | inr less ↦ turned_keeps hears Nobody config between y c history (p.k.events ++ events) nobody_unread (nobody_elsewhere c) s.k
                (p.turned c less)
          ]);
    }
