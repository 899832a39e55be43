-- A sweep serves each connection (`IsServed`).
use Rattle.std.proofs.Common.{◌≡◌, ◌⊎◌, ℕ, zero, suc, ◌<◌, ◌≤◌, true, false, List, [], ◌∷◌, ◌++◌, length, filter, nat_lt, Some, None, refl, sym, ap, subst, subst₂, ◌∙◌, inl, inr, append_assoc, arith}
use Rattle.std.specs.Prelude.{⊤}
use Rattle.std.specs.List.{AllByRecursion}
use Rattle.std.proofs.lemmas.List.{append_cancel_right}
use Rattle.std.proofs.lemmas.List.Concat.{flat_map-append}
use Rattle.std.proofs.Math.Nat.{eq-or-lt_of_le}
use Rattle.sv_links.specs.Channels.{ChannelAct, is_channel_open, waiting as channel_waiting}
use Rattle.sv_history.specs.declared.event.Config.{Config}
use Rattle.sv_history.specs.declared.event.Role.TheVariants.{Core, Abort, Portmap}
use Rattle.sv_history.specs.declared.event.Dial.{Dial}
use Rattle.sv_history.specs.declared.event.Role.{Role}
use Rattle.sv_history.specs.declared.event.Port.{Port}
use Rattle.sv_history.specs.declared.event.Port.TheVariants.{Conn, Intr}
use Rattle.sv_history.specs.Event.{PlainEvent, Open, Bytes, Close, port_number}
use Rattle.sv_history.specs.Act.{Act, of, device_acts}
use Rattle.sv_history.specs.Connection.{waiting, waiting_on}
use Rattle.sv_history.specs.Requests.{HearsOf}
use Rattle.sv_history.specs.Interrupts.{has_channel, dial_of}
use Rattle.sv_history.specs.History.{is_port_shut, IsLogOf}
use Rattle.sv_history.proofs.AlwaysTold.{channel_log_exists}
use Rattle.sv_history.proofs.Telling.{channel_open_by_channel_log}
use Rattle.sv_laws.proofs.Brought.{brings}
use Rattle.sv_laws.proofs.OneLog.{one_log, earlier_log}
use Rattle.sv_server.specs.Server.State.{StandsFor}
use Rattle.sv_serve.specs.declared.wire.Answer.{Answer}
use Rattle.sv_serve.specs.declared.wire.Answer.TheVariants.{Got, Pending, Failed}
use Rattle.sv_serve.specs.Heard.{Heard, WasWritten, WasClosed, IsWithin as IsWithinMost}
use Rattle.sv_serve.specs.DriverView.{DriverView, driver_view, ForEach}
use Rattle.sv_serve.specs.Steps.{Accepts, ReadsFrom, Turns, Dials, EndsWrite, WritesTo, Ends}
use Rattle.sv_serve.specs.Sweep.{Sweeps}
use Rattle.sv_driver_laws.specs.Served.{Serves, IsWhole, IsDialed, IsWritten, is_taking, is_sending, takes_call, Served}
use Rattle.sv_driver_laws.specs.Timed.{is_timed}
use Rattle.sv_driver_laws.proofs.Keeps.{Subject, OfRead, OfConn, OfNone, Keeps, keeps_none, keeps_then, keeps_each, closes_channel_quiet}
use Rattle.sv_driver_laws.proofs.Peers.{passes}
use Rattle.sv_driver_laws.proofs.Whole.{IsIn, IsPeerAsked, is_asked, found_more, found_front, IsBetween, dial_phase, Wrote, wrote_front, wrote_back, front_is_written, OnlyAddsToChannel, untold_port, shut_more, intr_phase}
use Rattle.sv_driver_laws.proofs.Parts.{Grows, OnPortEvents, grows_trans, grows_each, grows_weaker, grown_events_satisfy, accepts_grows, reads_grows, turns_grows, dials_grows, passes_grows, writes_grows, ends_grows, takes_below, once_taken}
use Rattle.sv_driver_laws.proofs.Carrying.{accepts, reads, write_by, ends}
use Rattle.sv_driver_laws.proofs.GoingOn.{acts_brought, none_is_read, only_calls_over_events, taken_within_sent, waiting_after_calls, Elsewhere, Unread, may_all, empty_append_both}
use Rattle.sv_driver_laws.proofs.Turned.{Turned, Offered, had_turn_more_events, offered_more, Nobody, keeps_unread, keeps_elsewhere, turned_keeps, turn_phase}
use mathlib.Core.Bool.{or-true}

-- ---- bytes that wait are written

abbrev pub IsMine : ℕ → Subject → Type 0
IsMine c (OfRead d) = ⊥
IsMine c (OfConn d) = d ≡ c
IsMine c OfNone = ⊤

pub mine_unread : (c : ℕ) (s : Subject) → IsMine c s → Unread s
mine_unread c (OfRead d) h = absurd h
mine_unread c _ h = tt

pub mine_elsewhere : (c d : ℕ) → c < d → (s : Subject) → IsMine c s → Elsewhere d s
mine_elsewhere c d lt (OfRead e) h = absurd h
mine_elsewhere c d lt (OfConn e) h = λ same. absurd (omega (arith, lt, h, same))
mine_elsewhere c d lt OfNone h = tt

pub record Written {W : Type 0} (hears : W → Heard → W → Type 0) (config : Config) (c : ℕ) (heard : Heard)
    (x y : DriverView W) : Type 0 where
  pub k : Keeps hears (IsMine c) config x y
  pub newer : List Heard
  pub is : k.piece ≡ newer ++ heard ∷ []

pub written : {W : Type 0} (hears : W → Heard → W → Type 0) (config : Config) (c : ℕ) (bytes : List ℕ) (answer : Answer ℕ) (wire : W)
    (x between y : DriverView W) (log : List Act) (channel_log : List ChannelAct)
    → IsLogOf config x.history log → HearsOf (device_acts log) channel_log → bytes ≡ waiting (of c log)
    → IsWithinMost answer (length bytes) → hears x.wire (WasWritten (Conn c) bytes answer) wire → between ≡ record x { wire = wire }
    → EndsWrite hears (Conn c) answer config between y → Written hears config c (WasWritten (Conn c) bytes answer) x y
written hears config c bytes (Got n) wire x between y log channel_log was tells_so waits few heard is ends = record {
  k = write_by hears (IsMine c) config (Conn c) (tt, refl) bytes
      (Got n) wire x between y log channel_log was tells_so waits few heard is ends;
  newer = [];
  is = refl;
}
written hears config c bytes Pending wire x between y log channel_log was tells_so waits few heard is ends = record {
  k = write_by hears (IsMine c) config (Conn c)
      (tt, refl) bytes Pending wire x between y log channel_log was tells_so waits few heard is ends;
  newer = [];
  is = refl;
}
written hears config c bytes Failed wire x between y log channel_log was tells_so waits few heard is
    (first, shut, (second, hangs, closed)) =
    let q = closes_channel_quiet hears (IsMine c) config tt c first second hangs in record {
      k = write_by hears (IsMine c) config (Conn c) (tt, refl) bytes Failed wire x between y log channel_log was tells_so waits few heard is
          (first, shut, (second, hangs, closed));
      newer = q.piece ++ WasClosed (Conn c) ∷ [];
      is = sym (append_assoc q.piece (WasClosed (Conn c) ∷ []) (WasWritten (Conn c) bytes Failed ∷ []));
    }

pub record WriteStep {W : Type 0} (hears : W → Heard → W
    → Type 0) (config : Config) (c : ℕ) (history events : List PlainEvent) (piece : List Heard)
    (x y : DriverView W) : Type 0 where
  pub k : Keeps hears (IsMine c) config x y
  pub offered : Offered config c history (k.events ++ events) (k.piece ++ piece)
  pub wrote : (log : List Act) → IsLogOf config x.history log
      → (waiting (of c log) ≡ []) ⊎ ((answer : Answer ℕ) × IsIn (WasWritten (Conn c) (waiting (of c log)) answer) k.piece)

-- The bytes that waited after the turn come first among those that wait now.
pub waited_in_front : (config : Config) (c : ℕ) (history events : List PlainEvent) (log after : List Act)
    → (t : Turned config c history events) → IsLogOf config (events ++ history) log
    → IsLogOf config (t.turn ++ (t.first ++ history)) after → (more : List ℕ) × (waiting (of c log) ≡ waiting (of c after) ++ more)
waited_in_front config c history events log after t is was =
    let parts : events ++ history ≡ t.behind ++ (t.turn ++ (t.first ++ history)) =
    ap (λ e. e ++ history) t.split ∙ append_assoc t.behind (t.turn ++ t.first) history
    ∙ ap (λ e. t.behind ++ e) (append_assoc t.turn t.first history) in
    let grown = only_calls_over_events config t.behind (t.turn ++ (t.first ++ history)) after log c t.untouched was
    (subst (λ e. IsLogOf config e log) parts is) in
    let waits = waiting_after_calls grown.0 (of c after) grown.1 (taken_within_sent config (t.turn ++ (t.first ++ history)) after c was) in
    (waits.0, ap waiting grown.2 ∙ waits.1)

pub write_step : {W : Type 0} (hears : W → Heard → W → Type 0) (config : Config) (c : ℕ) (x y : DriverView W)
    (history events : List PlainEvent) (piece : List Heard) → c < 16 → x.history ≡ events ++ history → Turned config c history events
    → WritesTo hears (Conn c) config x y → WriteStep hears config c history events piece x y
write_step hears config c x y history events piece lt is t (bytes, (log, channel_log, was, tells_so, waits), inl (none, same)) = record {
  k = keeps_none hears (IsMine c) config x y same;
  offered = record {
    had = t.had;
    offers = λ after so.
        let still = waited_in_front config c history events log after t (subst (λ h. IsLogOf config h log) is was) so in
        inl (empty_append_both (waiting (of c after)) still.0 (sym (sym none ∙ waits ∙ still.1))).0;
  };
  wrote = λ other also. inl (ap (λ (l : List Act). waiting (of c l)) (one_log config x.history other log also was) ∙ sym waits ∙ none);
}
write_step hears config c x y history events piece lt is t
    (bytes, (log, channel_log, was, tells_so, waits), inr (some, answer, few, (between, (wire, heard, to), ends))) =
    let w = written hears config c bytes answer wire x between y log channel_log was tells_so waits few heard to ends in
    record {
      k = w.k;
      offered = record {
        had = had_turn_more_events config c history events w.k.events (keeps_unread hears (IsMine c) config x y (mine_unread c) w.k) t.had;
        offers = λ after so.
            let still = waited_in_front config c history events log after t (subst (λ h. IsLogOf config h log) is was) so in inr (
              still.0,
              answer,
              w.newer,
              piece,
              ap (λ (l : List Heard). l ++ piece) w.is ∙ append_assoc w.newer (WasWritten (Conn c) bytes answer ∷ []) piece
                  ∙ ap (λ (l : List ℕ). w.newer ++ (WasWritten (Conn c) l answer ∷ piece)) (waits ∙ still.1),
            );
      };
      wrote = λ other also. inr (
        answer,
        (
          w.newer,
          [],
          subst (λ (l : List ℕ). w.k.piece ≡ w.newer ++ WasWritten (Conn c) l answer ∷ [])
              (waits ∙ ap (λ (l : List Act). waiting (of c l)) (one_log config x.history log other was also)) w.is,
        ),
      );
    }

pub record WritePhase {W : Type 0} (hears : W → Heard → W
    → Type 0) (config : Config) (n : ℕ) (history events : List PlainEvent) (piece : List Heard)
    (x y : DriverView W) : Type 0 where
  pub k : Keeps hears Unread config x y
  pub offered : (c : ℕ) → c < n → Offered config c history (k.events ++ events) (k.piece ++ piece)
  pub turned : (c : ℕ) → n ≤ c → c < 16 → Turned config c history (k.events ++ events)
  pub sent : (c : ℕ) → c < n → (log : List Act) → IsLogOf config x.history log → Wrote (Conn c) (waiting (of c log)) k.piece
  pub untouched : (c : ℕ) → n ≤ c → acts_brought c k.events ≡ []

abbrev pub keeps_weaker_may : {W : Type 0} (hears : W → Heard → W → Type 0) (May Can : Subject → Type 0) (config : Config)
    (x y : DriverView W)
    → ((s : Subject) → May s → Can s) → Keeps hears May config x y → Keeps hears Can config x y
keeps_weaker_may hears May Can config x y so k = record {
  piece = k.piece;
  events = k.events;
  through = k.through;
  grown = k.grown;
  told = k.told;
  may = may_all May Can k.piece so k.may;
  keeps = k.keeps;
  closing = k.closing;
  hands = k.hands;
  lets = k.lets;
}

sent_conn : {W : Type 0} (hears : W → Heard → W → Type 0) (config : Config) (c : ℕ) (x m : DriverView W) (k : Keeps hears Unread config x m)
    (piece : List Heard) → acts_brought c k.events ≡ [] → (log now : List Act) → IsLogOf config x.history log → IsLogOf config m.history now
    → (waiting (of c now) ≡ []) ⊎ ((answer : Answer ℕ) × IsIn (WasWritten (Conn c) (waiting (of c now)) answer) piece)
    → Wrote (Conn c) (waiting (of c log)) piece
sent_conn hears config c x m k piece untouched log now was is_now wrote =
    let grown = only_calls_over_events config k.events x.history log now c untouched was (subst (λ h. IsLogOf config h now) k.grown is_now)
    in
    let waits = waiting_after_calls grown.0 (of c log) grown.1 (taken_within_sent config x.history log c was) in
    front_is_written (Conn c) (waiting (of c log)) (waiting (of c now)) waits.0 piece (ap waiting grown.2 ∙ waits.1) wrote

pub write_phase : {W : Type 0} (hears : W → Heard → W → Type 0) (config : Config) (n : ℕ) (x y : DriverView W)
    (history events : List PlainEvent) (piece : List Heard) → n ≤ 16 → x.history ≡ events ++ history
    → ((c : ℕ) → c < 16 → Turned config c history events) → ForEach n (λ c. WritesTo hears (Conn c)) config x y
    → WritePhase hears config n history events piece x y
write_phase hears config zero x y history events piece le is turned same = record {
  k = keeps_none hears Unread config x y same;
  offered = λ c lt. absurd (omega (arith, lt));
  turned = λ c low lt. turned c lt;
  sent = λ c lt. absurd (omega (arith, lt));
  untouched = λ c low. refl;
}
write_phase hears config (suc n) x y history events piece le is turned
    (between, front, (bytes, (now, told, is_now, hears_now, waits), last)) =
    let p = write_phase hears config n x between history events piece (omega (arith, le)) is turned front in
    let there : between.history ≡ (p.k.events ++ events) ++ history =
    p.k.grown ∙ ap (λ h. p.k.events ++ h) is ∙ sym (append_assoc p.k.events events history) in
    let s = write_step hears config n between y history (p.k.events ++ events) (p.k.piece ++ piece) (omega (arith, le)) there
    (p.turned n (omega arith) (omega (arith, le))) (bytes, (now, told, is_now, hears_now, waits), last) in
    record {
      k = keeps_then hears Unread config x between y p.k (keeps_weaker_may hears (IsMine n) Unread config between y (mine_unread n) s.k);
      offered = λ c lt.
          subst₂ (λ e l. Offered config c history e l) (sym (append_assoc s.k.events p.k.events events))
          (sym (append_assoc s.k.piece p.k.piece piece))
          (let low : c ≤ n = omega (arith, lt) in
          elim (eq-or-lt_of_le low) [
            | inl same ↦ subst (λ (m : ℕ). Offered config m history (s.k.events ++ (p.k.events ++ events))
                (s.k.piece ++ (p.k.piece ++ piece))) (sym same) s.offered
            | inr less ↦ offered_more config c history (p.k.events ++ events) s.k.events (p.k.piece ++ piece) s.k.piece
                (keeps_unread hears (IsMine n) config between y (mine_unread n) s.k) (p.offered c less)
          ]);
      turned = λ c low lt. subst (λ e. Turned config c history e) (sym (append_assoc s.k.events p.k.events events))
          (turned_keeps hears (IsMine n) config between y c history (p.k.events ++ events) (mine_unread n)
          (mine_elsewhere n c (omega (arith, low))) s.k (p.turned c (omega (arith, low)) lt));
      sent = λ c lt log was.
          let low : c ≤ n = omega (arith, lt) in
          elim (eq-or-lt_of_le low) [
            | inl same ↦ subst (λ (m : ℕ). Wrote (Conn m) (waiting (of m log)) (s.k.piece ++ p.k.piece)) (sym same)
                (wrote_back (Conn n) (waiting (of n log)) s.k.piece p.k.piece
                (sent_conn hears config n x between p.k s.k.piece (p.untouched n (omega arith)) log now was is_now (s.wrote now is_now)))
            | inr less ↦ wrote_front (Conn c) (waiting (of c log)) s.k.piece p.k.piece (p.sent c less log was)
          ];
      untouched = λ c low. flat_map-append (brings c) s.k.events p.k.events
          ∙ rw (
            keeps_elsewhere hears (IsMine n) config between y c (mine_elsewhere n c (omega (arith, low))) s.k,
            p.untouched c (omega (arith, low)),
          ) refl;
    }

-- ---- a sweep

abbrev pub Peers : Subject → Type 0
Peers (OfRead d) = ⊥
Peers (OfConn d) = ⊥
Peers OfNone = ⊤

pub peers_unread : (s : Subject) → Peers s → Unread s
peers_unread (OfRead d) h = absurd h
peers_unread (OfConn d) h = absurd h
peers_unread OfNone h = tt

pub peers_elsewhere : (c : ℕ) (s : Subject) → Peers s → Elsewhere c s
peers_elsewhere c (OfRead d) h = absurd h
peers_elsewhere c (OfConn d) h = absurd h
peers_elsewhere c OfNone h = tt

abbrev pub Any : Subject → Type 0
Any s = ⊤

pub record SweptOnce {W : Type 0} (hears : W → Heard → W → Type 0) (config : Config) (x y : DriverView W) : Type 0 where
  pub k : Keeps hears Any config x y
  pub offered : (c : ℕ) → c < 16 → Offered config c x.history k.events k.piece
  pub whole : (end : List Act) → IsLogOf config y.history end → IsWhole config x.history k.events k.piece

-- The event takes no call (`NotTaking`), isn't timed (`NotTimed`), or is a Took or a Close
-- (`Sending`).
abbrev NotTaking : PlainEvent → Type 0
NotTaking event = is_taking event ≡ false

abbrev NotTimed : PlainEvent → Type 0
NotTimed event = is_timed event ≡ false

abbrev Sending : PlainEvent → Type 0
Sending event = is_sending event ≡ true

none_timed : (events : List PlainEvent) → AllByRecursion NotTimed events → filter is_timed events ≡ []
none_timed [] h = refl
none_timed (event ∷ events) h = rw h.0 (none_timed events h.1)

front_grows : {W : Type 0} (P : PlainEvent → Type 0) (hears : W → Heard → W → Type 0) (config : Config) (m0 m1 m2 m3 m4 : DriverView W)
    → ((c : ℕ) (role : Role) → P (Open c role)) → ((c : ℕ) (bytes : List ℕ) → P (Bytes c bytes)) → ((port : Port) → P (Close port))
    → Accepts hears Core config m0 m1 → Accepts hears Abort config m1 m2 → Accepts hears Portmap config m2 m3
    → ForEach 16 (ReadsFrom hears) config m3 m4 → Grows P m0 m4
front_grows P hears config m0 m1 m2 m3 m4 opens reads close s1 s2 s3 s4 =
    grows_trans P m0 m1 m4 (accepts_grows P hears Core config m0 m1 (λ c. opens c Core) s1)
    (grows_trans P m1 m2 m4 (accepts_grows P hears Abort config m1 m2 (λ c. opens c Abort) s2)
    (grows_trans P m2 m3 m4 (accepts_grows P hears Portmap config m2 m3 (λ c. opens c Portmap) s3)
    (grows_each P config (ReadsFrom hears) 16 (λ c a b. reads_grows P hears c config a b (reads c) (close (Conn c))) m3 m4 s4)))

back_grows : {W : Type 0} (P : PlainEvent → Type 0) (hears : W → Heard → W → Type 0) (config : Config) (m7 m8 m9 m10 : DriverView W)
    → ((port : Port) → OnPortEvents P port) → ForEach 16 (λ c. WritesTo hears (Conn c)) config m7 m8
    → ForEach 16 (λ c. WritesTo hears (Intr c)) config m8 m9 → ForEach 16 (Ends hears) config m9 m10 → Grows P m7 m10
back_grows P hears config m7 m8 m9 m10 so s8 s9 s10 =
    grows_trans P m7 m8 m10
    (grows_each P config (λ c. WritesTo hears (Conn c)) 16 (λ c a b. writes_grows P hears (Conn c) config a b (so (Conn c))) m7 m8 s8)
    (grows_trans P m8 m9 m10
    (grows_each P config (λ c. WritesTo hears (Intr c)) 16 (λ c a b. writes_grows P hears (Intr c) config a b (so (Intr c))) m8 m9 s9)
    (grows_each P config (Ends hears) 16 (λ c a b. ends_grows P hears c config a b (so (Conn c)).1) m9 m10 s10))

abbrev Found : ℕ → List Act → List Heard → Type 0
Found c log piece = (dial_of c log ≡ None) ⊎ ((dial : Dial) × (dial_of c log ≡ Some dial) × IsPeerAsked c dial piece)

is_found : (c : ℕ) (log : List Act) (piece : List Heard) → Found c log piece
    → (dial_of c log ≡ None) ⊎ ((dial : Dial) × (dial_of c log ≡ Some dial) × IsDialed c dial piece)
is_found c log piece (inl none) = inl none
is_found c log piece (inr (dial, is, asked)) = inr (dial, is, is_asked c dial piece asked)

is_sent : (port : Port) (bytes : List ℕ) (piece : List Heard) (shut : Type 0) → Wrote port bytes piece
    → (bytes ≡ []) ⊎ IsWritten port bytes piece ⊎ shut
is_sent port bytes piece shut (inl none) = inl none
is_sent port bytes piece shut (inr (more, answer, (newer, older, is))) = inr (inl (more, answer, newer, older, is))

still_shut : (c : ℕ) (end : List Act) (channel_log : List ChannelAct) → HearsOf (device_acts end) channel_log
    → is_channel_open c channel_log ≡ false → is_port_shut (Intr c) end ≡ true
still_shut c end channel_log hears_of shut =
    let none : has_channel c (device_acts end) ≡ false = sym (channel_open_by_channel_log c (device_acts end) channel_log hears_of)
    ∙ shut in
    rw none (or-true (nat_lt 15 c))

by_port : (P : Port → Type 0) → ((c : ℕ) → P (Conn c)) → ((c : ℕ) → P (Intr c)) → (port : Port) → P port
by_port P conn intr (Conn c) = conn c
by_port P conn intr (Intr c) = intr c

pub sweep_once : {W : Type 0} (hears : W → Heard → W → Type 0) (config : Config) (ticks : ℕ) (x y : DriverView W)
    → Sweeps hears ticks config x y → SweptOnce hears config x y
sweep_once hears config ticks m0 m10 (m1, s1, (m2, s2, (m3, s3, (m4, s4, (m5, s5, (m6, s6, (m7, s7, (m8, s8, (m9, s9, s10))))))))) =
    let k3 = keeps_then hears Any config m0 m2 m3 (keeps_then hears Any config m0 m1 m2
    (accepts hears Any config (λ n. tt) Core m0 m1 s1) (accepts hears Any config (λ n. tt) Abort m1 m2 s2))
    (accepts hears Any config (λ n. tt) Portmap m2 m3 s3) in
    let k4 = keeps_then hears Any config m0 m3 m4 k3
    (keeps_each hears Any config (ReadsFrom hears) 16 (λ c a b lt h. reads hears Any config c (tt, tt) tt a b h) m3 m4 s4) in
    let turns_all = turn_phase hears config 16 m4 m5 m0.history k4.events (omega arith) k4.grown s5 in
    let k5 = keeps_then hears Any config m0 m4 m5 k4 (keeps_weaker_may hears Nobody Any config m4 m5 (λ s h. tt) turns_all.k) in
    let dials_all = dial_phase hears Peers config 16 tt m5 m6 s6 in
    let time = passes hears Peers config ticks m6 m7 s7 in
    let peers = keeps_then hears Peers config m5 m6 m7 dials_all.k time in
    let k7 = keeps_then hears Any config m0 m5 m7 k5 (keeps_weaker_may hears Peers Any config m5 m7 (λ s h. tt) peers) in
    let writes_all = write_phase hears config 16 m7 m8 m0.history k7.events k7.piece (omega arith) k7.grown
    (λ c lt. turned_keeps hears Peers config m5 m7 c m0.history k5.events peers_unread (peers_elsewhere c) peers
    (turns_all.turned c lt)) s8 in
    let k8 = keeps_then hears Any config m0 m7 m8 k7 (keeps_weaker_may hears Unread Any config m7 m8 (λ s h. tt) writes_all.k) in
    let intr_all = intr_phase hears Unread config 16 (λ c. (tt, tt)) m7 m8 m9
    (λ c. grows_each (OnlyAddsToChannel c) config (λ d. WritesTo hears (Conn d)) 16
    (λ d a b. writes_grows (OnlyAddsToChannel c) hears (Conn d) config a b (untold_port c (Conn d) (λ e. absurd cc))) m7 m8 s8) s9 in
    let ended = keeps_each hears Unread config (Ends hears) 16 (λ c a b lt h. ends hears Unread config c (tt, tt) a b h) m9 m10 s10 in
    let rest = keeps_then hears Unread config m8 m9 m10 intr_all.k ended in
    let k = keeps_then hears Any config m0 m8 m10 k8 (keeps_weaker_may hears Unread Any config m8 m10 (λ s h. tt) rest) in
    record {
      k = k;
      offered = λ c lt. offered_more config c m0.history k8.events rest.events k8.piece rest.piece
          (keeps_unread hears Unread config m8 m10 (λ s h. h) rest) (writes_all.offered c lt);
      whole = λ end is_end.
          let back = λ (P : PlainEvent → Type 0) (so : (port : Port)
          → OnPortEvents P port). back_grows P hears config m7 m8 m9 m10 so s8 s9 s10 in
          let later_takes : Grows NotTaking m6 m10 = grows_trans NotTaking m6 m7 m10
          (passes_grows NotTaking ticks config m6 m7 ((λ channel microvolts. refl), refl, refl) s7)
          (back NotTaking (λ port. ((λ n. refl), refl))) in (
            λ c.
                let f = front_grows NotTaking hears config m0 m1 m2 m3 m4 (λ c role. refl) (λ c bytes. refl) (λ port. refl) s1 s2 s3 s4 in
                let t = takes_below 16 config m4 m5 s5 in
                let l = grows_trans NotTaking m5 m6 m10
                (grows_each NotTaking config (Dials hears) 16 (λ c a b. dials_grows NotTaking hears c config a b (λ ok. refl)) m5 m6 s6)
                later_takes in
                let same : k.events ≡ l.0 ++ (t.0 ++ f.0) = append_cancel_right k.events (l.0 ++ (t.0 ++ f.0)) m0.history
                (sym k.grown ∙ l.1 ∙ ap (λ h. l.0 ++ h) (t.1 ∙ ap (λ h. t.0 ++ h) f.1 ∙ sym (append_assoc t.0 f.0 m0.history))
                ∙ sym (append_assoc l.0 (t.0 ++ f.0) m0.history)) in
                subst (λ (e : List PlainEvent). length (filter (takes_call c) e) ≤ 1) (sym same)
                (once_taken c l.0 t.0 f.0 l.2 f.2 (t.2 c).0),
            λ c lt.
                let asks = dials_all.asks c lt in
                let at = asks.0 in
                let f = grows_trans NotTimed m0 m4 at
                (front_grows NotTimed hears config m0 m1 m2 m3 m4 (λ c role. refl) (λ c bytes. refl) (λ port. refl) s1 s2 s3 s4)
                (grows_trans NotTimed m4 m5 at
                (grows_each NotTimed config Turns 16 (λ c a b. turns_grows NotTimed c config a b refl refl) m4 m5 s5)
                (grows_weaker IsBetween NotTimed m5 at (λ event h. h.1) asks.1)) in
                let l = grows_trans NotTaking at m6 m10 (grows_weaker IsBetween NotTaking at m6 (λ event h. h.0) asks.2) later_takes in
                let same : k.events ≡ l.0 ++ f.0 = append_cancel_right k.events (l.0 ++ f.0) m0.history
                (sym k.grown ∙ l.1 ∙ ap (λ h. l.0 ++ h) f.1 ∙ sym (append_assoc l.0 f.0 m0.history)) in (
                  f.0,
                  l.0,
                  asks.3,
                  same,
                  l.2,
                  none_timed f.0 f.2,
                  subst (λ h. IsLogOf config h asks.3) f.1 asks.4,
                  is_found c asks.3 k.piece (found_front c asks.3 rest.piece k8.piece
                      (found_front c asks.3 writes_all.k.piece k7.piece (found_more c asks.3 peers.piece k5.piece
                      (found_front c asks.3 time.piece dials_all.k.piece asks.5)))),
                ),
            (
                let later = rest.events ++ writes_all.k.events in
                let grown : m10.history ≡ later ++ m7.history = rest.grown ∙ ap (λ h. rest.events ++ h) writes_all.k.grown
                ∙ sym (append_assoc rest.events writes_all.k.events m7.history) in
                let front = earlier_log config later m7.history end (subst (λ h. IsLogOf config h end) grown is_end) in
                let told = channel_log_exists (device_acts front.0) in (
                  k7.events,
                  later,
                  front.0,
                  end,
                  told.0,
                  sym (append_assoc rest.events writes_all.k.events k7.events),
                  grown_events_satisfy Sending m7 m10 later grown (back Sending (λ port. ((λ n. refl), refl))),
                  subst (λ h. IsLogOf config h front.0) k7.grown front.1,
                  told.1,
                  subst (λ h. IsLogOf config h end) k.grown is_end,
                  by_port (λ port. port_number port < 16 → (waiting_on told.0 port front.0 ≡ [])
                      ⊎ IsWritten port (waiting_on told.0 port front.0) k.piece
                      ⊎ ((port ≡ Intr (port_number port)) × (is_port_shut port end ≡ true)))
                      (λ c lt. is_sent (Conn c) (waiting (of c front.0)) k.piece _ (wrote_front (Conn c) (waiting
                      (of c front.0)) rest.piece k8.piece
                      (wrote_back (Conn c) (waiting (of c front.0)) writes_all.k.piece k7.piece (writes_all.sent c lt front.0 front.1))))
                      (λ c lt. elim (intr_all.sent c lt front.0 told.0 front.1 told.1) [
                        | inl h ↦ is_sent (Intr c) (channel_waiting c told.0) k.piece _
                            (wrote_back (Intr c) (channel_waiting c told.0) rest.piece k8.piece
                            (wrote_front (Intr c) (channel_waiting c told.0) ended.piece intr_all.k.piece h))
                        | inr h ↦
                            let heard = channel_log_exists (device_acts end) in
                            inr (inr (
                              refl,
                              still_shut c end heard.0 heard.1 (shut_more config c m9 m10
                                  (grows_each (OnlyAddsToChannel c) config (Ends hears) 16
                                  (λ d a b. ends_grows (OnlyAddsToChannel c) hears d config a b (untold_port c (Conn d)
                                  (λ e. absurd cc)).1) m9 m10 s10)
                                  h end heard.0 is_end heard.1),
                            ))
                      ]),
                )
                ),
          );
    }

pub serves : (config : Config) (c : ℕ) (history events : List PlainEvent) (piece : List Heard) (log : List Act)
    → IsLogOf config (events ++ history) log → Offered config c history events piece → Serves config c history events piece
serves config c history events piece log is t =
    let parts : events ++ history ≡ t.behind ++ (t.turn ++ (t.first ++ history)) =
    ap (λ e. e ++ history) t.split ∙ append_assoc t.behind (t.turn ++ t.first) history
    ∙ ap (λ e. t.behind ++ e) (append_assoc t.turn t.first history) in
    let front = earlier_log config t.behind (t.turn ++ (t.first ++ history)) log (subst (λ e. IsLogOf config e log) parts is) in (
      t.first,
      t.turn,
      t.behind,
      t.before,
      front.0,
      t.split,
      none_is_read t.behind t.unread,
      t.was,
      front.1,
      t.takes,
      t.offers front.0 front.1,
    )

pub served : {W J : Type 0} (hears : W → Heard → W → Type 0) (notes : J → List PlainEvent → J → Type 0) → Served hears notes
served hears notes config ticks history old new first stands goes =
    let now = goes first config history stands in
    let s = sweep_once hears config ticks (driver_view old history) (driver_view new now.0) now.2 in
    let there : StandsFor new.server config (s.k.events ++ history) = subst (λ h. StandsFor new.server config h) s.k.grown now.1.0 in (
      s.k.events,
      s.k.piece,
      (
        stands.0,
        there,
        s.k.through,
        s.k.told,
        λ c lt. serves config c history s.k.events s.k.piece there.log there.is_log (s.offered c lt),
        s.whole now.1.0.log now.1.0.is_log,
      ),
    )
