-- A sweep asks for each interrupt channel that has to be connected, and writes the bytes that wait
-- on each port.
use Rattle.std.proofs.Common.{◌≡◌, ◌≢◌, ◌⊎◌, ℕ, zero, suc, ◌<◌, ◌≤◌, true, false, eqb, List, [], ◌∷◌, ◌++◌, length, drop, nat_lt, Option, Some, None, refl, sym, ap, subst, ◌∙◌, inl, inr, append_assoc, arith}
use Rattle.std.specs.Prelude.{⊤}
use Rattle.std.specs.List.{AllByRecursion, concat}
use Rattle.std.proofs.Math.Nat.{eq-or-lt_of_le}
use Rattle.std.proofs.lemmas.Bool.{cases_Bool, eqb-true, ne_eqb, ltb-false}
use Rattle.std.proofs.lemmas.List.{length-append, length-drop, drop-append-le}
use Rattle.sv_links.specs.declared.request.Peer.{Peer}
use Rattle.sv_links.specs.Channels.{ChannelAct, is_channel_open, bytes_taken as channel_taken, calls, waiting as channel_waiting}
use Rattle.sv_history.specs.declared.event.Config.{Config}
use Rattle.sv_history.specs.declared.event.Dial.{Dial}
use Rattle.sv_history.specs.declared.event.Port.{Port}
use Rattle.sv_history.specs.declared.event.Port.TheVariants.{Conn, Intr}
use Rattle.sv_history.specs.Event.{PlainEvent, Took, Dialed}
use Rattle.sv_history.specs.Act.{Act, of, device_acts}
use Rattle.sv_history.specs.Connection.{waiting_on, pending_call}
use Rattle.sv_history.specs.Interrupts.{dial_of}
use Rattle.sv_history.specs.Request.{core_call_in}
use Rattle.sv_history.specs.Requests.{HearsOf}
use Rattle.sv_history.specs.History.{refusal, is_channel_shut, IsLogOf}
use Rattle.sv_history.proofs.AlwaysTold.{channel_log_exists}
use Rattle.sv_history.proofs.Telling.{channel_log_unique}
use Rattle.sv_laws.proofs.Brought.{tells, opened_to, peer_in, OnlyAdds}
use Rattle.sv_laws.proofs.OnlyRequests.{only_adds_refl, only_adds_trans, only_requests}
use Rattle.sv_laws.proofs.OneLog.{one_log, earlier_log}
use Rattle.sv_serve.specs.declared.wire.Answer.{Answer}
use Rattle.sv_serve.specs.declared.wire.Answer.TheVariants.{Got, Pending, Failed}
use Rattle.sv_serve.specs.Heard.{Heard, WasWritten, WasDialed, PeerAnswered, IsWithin}
use Rattle.sv_serve.specs.DriverView.{DriverView, ForEach}
use Rattle.sv_serve.specs.Steps.{dialed_of, ConnectResult, PollResult, DialsFor, Dials, EndsWrite, WritesTo}
use Rattle.sv_driver_laws.specs.Timed.{is_timed}
use Rattle.sv_driver_laws.specs.Served.{is_taking, IsDialed}
use Rattle.sv_driver_laws.proofs.Ports.{untaken_calls_bytes}
use Rattle.sv_driver_laws.proofs.Keeps.{Subject, OfConn, OfNone, Keeps, keeps_none, keeps_then}
use Rattle.sv_driver_laws.proofs.Peers.{connect_result_keeps, poll_result_keeps, dials_for_keeps, cancels_unwanted_keeps}
use Rattle.sv_driver_laws.proofs.Carrying.{write_by}
use Rattle.sv_driver_laws.proofs.GoingOn.{took_not_too_many, empty_append_both}
use Rattle.sv_driver_laws.proofs.Parts.{Grows, OnPortEvents, grows_refl, grows_trans, grows_each, cancels_unwanted_grows, dials_for_grows, dials_grows, writes_grows}
use Rattle.std.proofs.lemmas.List.Folds.{concat-append}

-- ---- what a trace contains

abbrev pub IsIn : Heard → List Heard → Type 0
IsIn heard piece = (newer older : List Heard) × (piece ≡ newer ++ (heard ∷ older))

pub in_trace_front : (heard : Heard) (more piece : List Heard) → IsIn heard piece → IsIn heard (more ++ piece)
in_trace_front heard more piece (newer, older, is) =
    (more ++ newer, older, ap (λ (l : List Heard). more ++ l) is ∙ sym (append_assoc more newer (heard ∷ older)))

pub in_trace_back : (heard : Heard) (piece more : List Heard) → IsIn heard piece → IsIn heard (piece ++ more)
in_trace_back heard piece more (newer, older, is) =
    (newer, older ++ more, ap (λ (l : List Heard). l ++ more) is ∙ append_assoc newer (heard ∷ older) more)

-- ---- peers are dialed

abbrev pub IsPeerAsked : ℕ → Dial → List Heard → Type 0
IsPeerAsked c dial piece = (answer : Answer ⊤) × (IsIn (WasDialed c dial answer) piece ⊎ IsIn (PeerAnswered c answer) piece)

pub asked_front : (c : ℕ) (dial : Dial) (more piece : List Heard) → IsPeerAsked c dial piece → IsPeerAsked c dial (more ++ piece)
asked_front c dial more piece (answer, inl h) = (answer, inl (in_trace_front (WasDialed c dial answer) more piece h))
asked_front c dial more piece (answer, inr h) = (answer, inr (in_trace_front (PeerAnswered c answer) more piece h))

pub asked_back : (c : ℕ) (dial : Dial) (piece more : List Heard) → IsPeerAsked c dial piece → IsPeerAsked c dial (piece ++ more)
asked_back c dial piece more (answer, inl h) = (answer, inl (in_trace_back (WasDialed c dial answer) piece more h))
asked_back c dial piece more (answer, inr h) = (answer, inr (in_trace_back (PeerAnswered c answer) piece more h))

pub is_asked : (c : ℕ) (dial : Dial) (piece : List Heard) → IsPeerAsked c dial piece → IsDialed c dial piece
is_asked c dial piece (answer, inl (newer, older, is)) = (answer, newer, older, inl is)
is_asked c dial piece (answer, inr (newer, older, is)) = (answer, newer, older, inr is)

-- The event takes no call, and isn't timed.
abbrev pub IsBetween : PlainEvent → Type 0
IsBetween event = (is_taking event ≡ false) × (is_timed event ≡ false)

-- At some moment of these steps the channel of the connection needn't be connected, or the wire is
-- asked to connect it.
abbrev pub AsksFor : {W : Type 0} → Config → ℕ → DriverView W → DriverView W → List Heard → Type 0
AsksFor config c a b piece = (m : DriverView _) × Grows IsBetween a m × Grows IsBetween m b × (log : List Act)
    × IsLogOf config m.history log × ((dial_of c log ≡ None) ⊎ ((dial : Dial) × (dial_of c log ≡ Some dial) × IsPeerAsked c dial piece))

pub record DialStep {W : Type 0} (hears : W → Heard → W → Type 0) (May : Subject → Type 0) (config : Config) (c : ℕ)
    (x y : DriverView W) : Type 0 where
  pub k : Keeps hears May config x y
  pub asks : AsksFor config c x y k.piece

connect_asks_peer : {W : Type 0} (hears : W → Heard → W → Type 0) (May : Subject → Type 0) (config : Config) (c : ℕ) (may : May OfNone)
    (dial : Dial)
    (answer : Answer ⊤) (wire : W) (x m y : DriverView W) (log : List Act) (was : IsLogOf config x.history log)
    (wants : Some dial ≡ dial_of c log) (heard : hears x.wire (WasDialed c dial answer) wire) (is : m ≡ record x { wire = wire })
    → (h : ConnectResult c dial answer config m y)
    → IsIn (WasDialed c dial answer) (connect_result_keeps hears May config c may dial answer wire x m y log was wants heard is h).piece
connect_asks_peer hears May config c may dial (Got all) wire x m y log was wants heard is (n, notes, applied) = ([], [], refl)
connect_asks_peer hears May config c may dial Pending wire x m y log was wants heard is h = ([], [], refl)
connect_asks_peer hears May config c may dial Failed wire x m y log was wants heard is h = ([], [], refl)

poll_asks_peer : {W : Type 0} (hears : W → Heard → W → Type 0) (May : Subject → Type 0) (config : Config) (c : ℕ) (may : May OfNone)
    (dial : Dial)
    (answer : Answer ⊤) (wire : W) (x m y : DriverView W) (log : List Act) (was : IsLogOf config x.history log)
    (wants : Some dial ≡ dial_of c log) (heard : hears x.wire (PeerAnswered c answer) wire) (is : m ≡ record x { wire = wire })
    → (h : PollResult hears c answer config m y)
    → IsIn (PeerAnswered c answer) (poll_result_keeps hears May config c may dial answer wire x m y log was wants heard is h).piece
poll_asks_peer hears May config c may dial (Got all) wire x m y log was wants heard is h = ([], [], refl)
poll_asks_peer hears May config c may dial Pending wire x m y log was wants heard is h = ([], [], refl)
poll_asks_peer hears May config c may dial Failed wire x m y log was wants heard is (n, hangs, applied) = (_, [], refl)

dialed_for : {W : Type 0} (hears : W → Heard → W → Type 0) (May : Subject → Type 0) (config : Config) (c : ℕ) (may : May OfNone)
    (wanted dialed : Option Dial) (x y : DriverView W) (log : List Act) (was : IsLogOf config x.history log)
    (wants : wanted ≡ dial_of c log)
    → (h : DialsFor hears c wanted dialed config x y) → (dial_of c log ≡ None) ⊎ ((dial : Dial) × (dial_of c log ≡ Some dial)
    × IsPeerAsked c dial (dials_for_keeps hears May config c may wanted dialed x y log was wants h).piece)
dialed_for hears May config c may None dialed x y log was wants same = inl (sym wants)
dialed_for hears May config c may (Some dial) None x y log was wants (answer, (m, (wire, heard, is), h)) =
    inr (dial, sym wants, (answer, inl (connect_asks_peer hears May config c may dial answer wire x m y log was wants heard is h)))
dialed_for hears May config c may (Some dial) (Some dialed) x y log was wants (answer, (m, (wire, heard, is), h)) =
    inr (dial, sym wants, (answer, inr (poll_asks_peer hears May config c may dial answer wire x m y log was wants heard is h)))

pub found_more : (c : ℕ) (log : List Act) (piece more : List Heard)
    → (dial_of c log ≡ None) ⊎ ((dial : Dial) × (dial_of c log ≡ Some dial) × IsPeerAsked c dial piece)
    → (dial_of c log ≡ None) ⊎ ((dial : Dial) × (dial_of c log ≡ Some dial) × IsPeerAsked c dial (piece ++ more))
found_more c log piece more (inl none) = inl none
found_more c log piece more (inr (dial, is, asked)) = inr (dial, is, asked_back c dial piece more asked)

pub found_front : (c : ℕ) (log : List Act) (more piece : List Heard)
    → (dial_of c log ≡ None) ⊎ ((dial : Dial) × (dial_of c log ≡ Some dial) × IsPeerAsked c dial piece)
    → (dial_of c log ≡ None) ⊎ ((dial : Dial) × (dial_of c log ≡ Some dial) × IsPeerAsked c dial (more ++ piece))
found_front c log more piece (inl none) = inl none
found_front c log more piece (inr (dial, is, asked)) = inr (dial, is, asked_front c dial more piece asked)

dial_step : {W : Type 0} (hears : W → Heard → W → Type 0) (May : Subject → Type 0) (config : Config) (c : ℕ) (may : May OfNone)
    (x y : DriverView W) → Dials hears c config x y → DialStep hears May config c x y
dial_step hears May config c may x y (m, goes, (wanted, (log, was, wants), h)) =
    let first = cancels_unwanted_keeps hears May config c may (dialed_of c x) x m goes in
    let last = dials_for_keeps hears May config c may wanted (dialed_of c m) m y log was wants h in record {
      k = keeps_then hears May config x m y first last;
      asks = (
        m,
        cancels_unwanted_grows IsBetween hears c (dialed_of c x) config x m goes,
        dials_for_grows IsBetween hears c wanted (dialed_of c m) config m y (λ ok. (refl, refl)) h,
        log,
        was,
        found_more c log last.piece first.piece (dialed_for hears May config c may wanted (dialed_of c m) m y log was wants h),
      );
    }

pub record DialPhase {W : Type 0} (hears : W → Heard → W → Type 0) (May : Subject → Type 0) (config : Config) (n : ℕ)
    (x y : DriverView W) : Type 0 where
  pub k : Keeps hears May config x y
  pub asks : (c : ℕ) → c < n → AsksFor config c x y k.piece

pub dial_phase : {W : Type 0} (hears : W → Heard → W → Type 0) (May : Subject → Type 0) (config : Config) (n : ℕ) (may : May OfNone)
    (x y : DriverView W) → ForEach n (Dials hears) config x y → DialPhase hears May config n x y
dial_phase hears May config zero may x y same = record {
  k = keeps_none hears May config x y same;
  asks = λ c lt. absurd (omega (arith, lt));
}
dial_phase hears May config (suc n) may x y (m, front, last) =
    let p = dial_phase hears May config n may x m front in
    let s = dial_step hears May config n may m y last in
    let grown = grows_each IsBetween config (Dials hears) n (λ c a b. dials_grows IsBetween hears c config a b (λ ok.
    (refl, refl))) x m front in
    let more = dials_grows IsBetween hears n config m y (λ ok. (refl, refl)) last in
    record {
      k = keeps_then hears May config x m y p.k s.k;
      asks = λ c lt.
          let low : c ≤ n = omega (arith, lt) in
          elim (eq-or-lt_of_le low) [
            | inl same ↦ subst (λ (i : ℕ). AsksFor config i x y (s.k.piece ++ p.k.piece)) (sym same)
                (let (at, g, h, log, was, found) = s.asks in
                (at, grows_trans IsBetween x m at grown g, h, log, was, found_more n log s.k.piece p.k.piece found))
            | inr less ↦
                let (at, g, h, log, was, found) = p.asks c less in
                (at, g, grows_trans IsBetween at m y h more, log, was, found_front c log s.k.piece p.k.piece found)
          ];
    }

-- ---- interrupt channels

-- The peer of an open channel took no more bytes than were sent on the channel.
abbrev pub TakenWithinSent : ℕ → List ChannelAct → Type 0
TakenWithinSent c channel_log = is_channel_open c channel_log ≡ true
    → channel_taken c channel_log ≤ length (concat (calls c channel_log))

within_adds : (c : ℕ) (before after : List ChannelAct) → OnlyAdds c before after → TakenWithinSent c before → TakenWithinSent c after
within_adds c before after adds h = λ opened.
    let a = adds opened in
    let le = h a.0 in
    let same = a.1 in
    let all = ap (λ (l : List (List ℕ)). length (concat l)) a.3 ∙ ap length (concat-append (calls c before) a.2)
    ∙ length-append (concat (calls c before)) (concat a.2) in
    omega (arith, le, same, all)

within_opened : (c d : ℕ) (found : Option Peer) (channel_log : List ChannelAct) → TakenWithinSent c channel_log
    → TakenWithinSent c (opened_to d found ++ channel_log)
within_opened c d None channel_log h = h
within_opened c d (Some peer) channel_log h = elim (cases_Bool (eqb d c)) [
  | inl e ↦ rw e (λ opened. omega arith)
  | inr e ↦ rw e h
]

within_told : (config : Config) (event : PlainEvent) (log : List Act) (c : ℕ) (channel_log : List ChannelAct)
    → refusal config channel_log event log ≡ None → TakenWithinSent c channel_log → TakenWithinSent c (tells event log ++ channel_log)
within_told config (Took (Intr d) n) log c channel_log free h = elim (cases_Bool (eqb d c)) [
  | inl e ↦ rw e (λ opened.
      let few : n ≤ length (channel_waiting d channel_log) =
      ltb-false (length (channel_waiting d channel_log)) n
      (took_not_too_many (is_channel_shut d log) (nat_lt (length (channel_waiting d channel_log)) n) free) in
      let same : channel_waiting d channel_log ≡ channel_waiting c channel_log =
      ap (λ (m : ℕ). channel_waiting m channel_log) (eqb-true d c e) in
      let all : channel_waiting c channel_log ≡ drop (channel_taken c channel_log) (concat (calls c channel_log)) =
      rw opened (untaken_calls_bytes (channel_taken c channel_log) (calls c channel_log)) in
      let long = ap length (same ∙ all) ∙ length-drop (channel_taken c channel_log) (concat (calls c channel_log)) in
      let le = h opened in omega (arith, few, long, le))
  | inr e ↦ rw e h
]
within_told config (Dialed d true) log c channel_log free h =
    within_opened c d (peer_in (core_call_in (pending_call (of d log)))) channel_log h
within_told config _ log c channel_log free h = h

pub within_channel : (config : Config) (history : List PlainEvent) (log : List Act) (channel_log : List ChannelAct) (c : ℕ)
    → IsLogOf config history log → HearsOf (device_acts log) channel_log → TakenWithinSent c channel_log
within_channel config [] log channel_log c (given, none) hears =
    let untold : channel_log ≡ [] = rw none at hears in rw untold (λ opened. absurd cc)
within_channel config (event ∷ history) log channel_log c is hears =
    within_adds c (tells event is.0 ++ is.2) channel_log
    (only_requests config event history is.0 log is.2 channel_log c is.4 is.5 is hears)
    (within_told config event is.0 c is.2 is.6 (within_channel config history is.0 is.2 c is.4 is.5))

-- The event itself neither opens this channel nor takes bytes of it.
abbrev pub OnlyAddsToChannel : ℕ → PlainEvent → Type 0
OnlyAddsToChannel c event = (log : List Act) (channel_log : List ChannelAct) → OnlyAdds c channel_log (tells event log ++ channel_log)

untold_took : (c : ℕ) (port : Port) (n : ℕ) → port ≢ Intr c → OnlyAddsToChannel c (Took port n)
untold_took c (Conn d) n ne log channel_log = only_adds_refl c channel_log
untold_took c (Intr d) n ne log channel_log =
    rw (ne_eqb d c (λ e. ne (ap Intr e))) (only_adds_refl c channel_log)

pub untold_port : (c : ℕ) (port : Port) → port ≢ Intr c → OnPortEvents (OnlyAddsToChannel c) port
untold_port c port ne = (λ n. untold_took c port n ne, λ log channel_log. only_adds_refl c channel_log)

pub only_adds_over_events : (config : Config) (events history : List PlainEvent) (front log : List Act)
    (channel_log later : List ChannelAct) (c : ℕ)
    → AllByRecursion (OnlyAddsToChannel c) events → IsLogOf config history front → HearsOf (device_acts front) channel_log
    → IsLogOf config (events ++ history) log → HearsOf (device_acts log) later → OnlyAdds c channel_log later
only_adds_over_events config [] history front log channel_log later c all was hears is then_hears =
    subst (OnlyAdds c channel_log) (channel_log_unique (device_acts log) channel_log later
    (subst (λ (l : List Act). HearsOf (device_acts l) channel_log) (one_log config history front log was is) hears) then_hears)
    (only_adds_refl c channel_log)
only_adds_over_events config (event ∷ events) history front log channel_log later c all was hears is then_hears =
    let between = channel_log_exists (device_acts is.0) in
    only_adds_trans c channel_log between.0 later
    (only_adds_over_events config events history front is.0 channel_log between.0 c all.1 was hears is.4 between.1)
    (only_adds_trans c between.0 (tells event is.0 ++ between.0) later (all.0 is.0 between.0)
    (only_requests config event (events ++ history) is.0 log between.0 later c is.4 between.1 is then_hears))

-- Steps that add only such events add at most calls to the log of the channel.
adds_grown : {W : Type 0} (config : Config) (a b : DriverView W) (front log : List Act) (channel_log later : List ChannelAct) (c : ℕ)
    → Grows (OnlyAddsToChannel c) a b → IsLogOf config a.history front → HearsOf (device_acts front) channel_log
    → IsLogOf config b.history log → HearsOf (device_acts log) later → OnlyAdds c channel_log later
adds_grown config a b front log channel_log later c (events, grown, all) was hears is then_hears =
    only_adds_over_events config events a.history front log channel_log later c all was hears
    (subst (λ h. IsLogOf config h log) grown is) then_hears

-- While the channel is open, the bytes that waited on it come first among those that wait.
waited_in_front : (c : ℕ) (before after : List ChannelAct) → OnlyAdds c before after → TakenWithinSent c before
    → is_channel_open c after ≡ true → (more : List ℕ) × (channel_waiting c after ≡ channel_waiting c before ++ more)
waited_in_front c before after adds within opened =
    let a = adds opened in
    let all : concat (calls c after) ≡ concat (calls c before) ++ concat a.2 = ap concat a.3 ∙ concat-append (calls c before) a.2 in (
      concat a.2,
      rw (opened, a.0) (untaken_calls_bytes (channel_taken c after) (calls c after)
          ∙ ap (λ (k : ℕ). drop k (concat (calls c after))) a.1
          ∙ ap (drop (channel_taken c before)) all
          ∙ drop-append-le (channel_taken c before) (concat (calls c before)) (concat a.2) (within a.0)
          ∙ ap (λ (l : List ℕ). l ++ concat a.2) (sym (untaken_calls_bytes (channel_taken c before) (calls c before)))),
    )

-- ---- bytes that wait are written

-- If there are any bytes, they are written, and further bytes may follow in the same write.
abbrev pub Wrote : Port → List ℕ → List Heard → Type 0
Wrote port bytes piece = (bytes ≡ []) ⊎ ((more : List ℕ) × (answer : Answer ℕ) × IsIn (WasWritten port (bytes ++ more) answer) piece)

pub wrote_front : (port : Port) (bytes : List ℕ) (more piece : List Heard) → Wrote port bytes piece → Wrote port bytes (more ++ piece)
wrote_front port bytes more piece (inl none) = inl none
wrote_front port bytes more piece (inr (rest, answer, h)) = inr (rest, answer, in_trace_front _ more piece h)

pub wrote_back : (port : Port) (bytes : List ℕ) (piece more : List Heard) → Wrote port bytes piece → Wrote port bytes (piece ++ more)
wrote_back port bytes piece more (inl none) = inl none
wrote_back port bytes piece more (inr (rest, answer, h)) = inr (rest, answer, in_trace_back _ piece more h)

-- A write of all bytes that wait also writes those that come first among them.
pub front_is_written : (port : Port) (bytes all more : List ℕ) (piece : List Heard) → all ≡ bytes ++ more
    → (all ≡ []) ⊎ ((answer : Answer ℕ) × IsIn (WasWritten port all answer) piece) → Wrote port bytes piece
front_is_written port bytes all more piece is (inl none) = inl (empty_append_both bytes more (sym is ∙ none)).0
front_is_written port bytes all more piece is (inr (answer, h)) =
    inr (more, answer, subst (λ (l : List ℕ). IsIn (WasWritten port l answer) piece) is h)

written_intr : {W : Type 0} (hears : W → Heard → W → Type 0) (May : Subject → Type 0) (config : Config) (c : ℕ)
    (may : May OfNone × May (OfConn c)) (bytes : List ℕ) (answer : Answer ℕ) (wire : W) (x m y : DriverView W) (log : List Act)
    (channel_log : List ChannelAct) (was : IsLogOf config x.history log) (tells_so : HearsOf (device_acts log) channel_log)
    (waits : bytes ≡ waiting_on channel_log (Intr c) log) (few : IsWithin answer (length bytes))
    (heard : hears x.wire (WasWritten (Intr c) bytes answer) wire) (is : m ≡ record x { wire = wire })
    → (h : EndsWrite hears (Intr c) answer config m y) → IsIn (WasWritten (Intr c) bytes answer)
    (write_by hears May config (Intr c) may bytes answer wire x m y log channel_log was tells_so waits few heard is h).piece
written_intr hears May config c may bytes (Got n) wire x m y log channel_log was tells_so waits few heard is h = ([], [], refl)
written_intr hears May config c may bytes Pending wire x m y log channel_log was tells_so waits few heard is h = ([], [], refl)
written_intr hears May config c may bytes Failed wire x m y log channel_log was tells_so waits few heard is (n, hangs, applied) =
    (_, [], refl)

same_waiting : (config : Config) (history : List PlainEvent) (c : ℕ) (log other : List Act) (channel_log also : List ChannelAct)
    → IsLogOf config history log → HearsOf (device_acts log) channel_log → IsLogOf config history other
    → HearsOf (device_acts other) also → channel_waiting c channel_log ≡ channel_waiting c also
same_waiting config history c log other channel_log also was tells_so is hears_of =
    ap (channel_waiting c) (channel_log_unique (device_acts other) channel_log also
    (subst (λ (l : List Act). HearsOf (device_acts l) channel_log) (one_log config history log other was is) tells_so) hears_of)

pub record IntrStep {W : Type 0} (hears : W → Heard → W → Type 0) (May : Subject → Type 0) (config : Config) (c : ℕ)
    (x y : DriverView W) : Type 0 where
  pub k : Keeps hears May config x y
  pub wrote : (log : List Act) (channel_log : List ChannelAct) → IsLogOf config x.history log → HearsOf (device_acts log) channel_log
      → ((channel_waiting c channel_log ≡ []) × (y.history ≡ x.history))
      ⊎ ((0 < length (channel_waiting c channel_log)) × (answer : Answer ℕ)
      × IsIn (WasWritten (Intr c) (channel_waiting c channel_log) answer) k.piece)

intr_step : {W : Type 0} (hears : W → Heard → W → Type 0) (May : Subject → Type 0) (config : Config) (c : ℕ)
    (may : May OfNone × May (OfConn c)) (x y : DriverView W) → WritesTo hears (Intr c) config x y → IntrStep hears May config c x y
intr_step hears May config c may x y (bytes, (log, channel_log, was, tells_so, waits), inl (none, same)) = record {
  k = keeps_none hears May config x y same;
  wrote = λ other also is hears_of.
      let one = same_waiting config x.history c log other channel_log also was tells_so is hears_of in
      inl (sym one ∙ sym waits ∙ none, ap (λ m. m.history) same);
}
intr_step hears May config c may x y
    (bytes, (log, channel_log, was, tells_so, waits), inr (some, answer, few, (m, (wire, heard, is), ends))) = record {
      k = write_by hears May config (Intr c) may bytes answer wire x m y log channel_log was tells_so waits few heard is ends;
      wrote = λ other also is_log hears_of.
          let one = same_waiting config x.history c log other channel_log also was tells_so is_log hears_of in
          inr (
            subst (λ (l : List ℕ). 0 < length l) (waits ∙ one) some,
            answer,
            subst (λ (l : List ℕ). IsIn (WasWritten (Intr c) l answer)
                (write_by hears May config (Intr c) may bytes answer wire x m y log channel_log was tells_so waits few heard is ends).piece)
                (waits ∙ one)
                (written_intr hears May config c may bytes answer wire x m y log channel_log was tells_so waits few heard is ends),
          );
    }

-- The interrupt channel isn't open after this history.
abbrev pub IsShutOn : {W : Type 0} → Config → ℕ → DriverView W → Type 0
IsShutOn config c at = (log : List Act) (channel_log : List ChannelAct) → IsLogOf config at.history log
    → HearsOf (device_acts log) channel_log → is_channel_open c channel_log ≡ false

pub shut_more : {W : Type 0} (config : Config) (c : ℕ) (a b : DriverView W) → Grows (OnlyAddsToChannel c) a b → IsShutOn config c a
    → IsShutOn config c b
shut_more config c a b (events, grown, all) shut log channel_log is hears_of =
    let front = earlier_log config events a.history log (subst (λ h. IsLogOf config h log) grown is) in
    let told = channel_log_exists (device_acts front.0) in
    let adds = adds_grown config a b front.0 log told.0 channel_log c (events, grown, all) front.1 told.1 is hears_of in
    elim (cases_Bool (is_channel_open c channel_log)) [
      | inl e ↦ absurd (let z : true ≡ false = sym (adds e).0 ∙ shut front.0 told.0 front.1 told.1 in cc)
      | inr e ↦ e
    ]

pub record IntrPhase {W : Type 0} (hears : W → Heard → W → Type 0) (May : Subject → Type 0) (config : Config) (n : ℕ)
    (a x y : DriverView W) : Type 0 where
  pub k : Keeps hears May config x y
  pub sent : (c : ℕ) → c < n → (log : List Act) (channel_log : List ChannelAct) → IsLogOf config a.history log
      → HearsOf (device_acts log) channel_log → Wrote (Intr c) (channel_waiting c channel_log) k.piece ⊎ IsShutOn config c y
  pub untold : (c : ℕ) → n ≤ c → Grows (OnlyAddsToChannel c) x y

ports_apart : (c d : ℕ) → c ≢ d → Intr c ≢ Intr d
ports_apart c d ne e = ne (port_same c d e)
  where
    port_same : (c d : ℕ) → Intr c ≡ Intr d → c ≡ d
    port_same c d e = cc

sent_step : {W : Type 0} (hears : W → Heard → W → Type 0) (May : Subject → Type 0) (config : Config) (c : ℕ)
    (a m y : DriverView W) (s : IntrStep hears May config c m y) (now : List Act) (told : List ChannelAct)
    → IsLogOf config m.history now → HearsOf (device_acts now) told → Grows (OnlyAddsToChannel c) a m
    → (log : List Act) (channel_log : List ChannelAct) → IsLogOf config a.history log → HearsOf (device_acts log) channel_log
    → Wrote (Intr c) (channel_waiting c channel_log) s.k.piece ⊎ IsShutOn config c y
sent_step hears May config c a m y s now told is_now hears_now grown log channel_log was hears_of =
    elim (cases_Bool (is_channel_open c told)) [
      | inl e ↦
          let adds = adds_grown config a m log now channel_log told c grown was hears_of is_now hears_now in
          let more = waited_in_front c channel_log told adds (within_channel config a.history log channel_log c was hears_of) e in
          inl (front_is_written (Intr c) (channel_waiting c channel_log) (channel_waiting c told) more.0 s.k.piece more.1
          (elim (s.wrote now told is_now hears_now) [ inl h ↦ inl h.0 | inr h ↦ inr (h.1, h.2) ]))
      | inr e ↦ inr (elim (s.wrote now told is_now hears_now) [
        | inl h ↦ λ other also is_other hears_other.
            let same = one_log config m.history now other is_now (subst (λ h. IsLogOf config h other) h.1 is_other) in
            let one = channel_log_unique (device_acts other) told also
            (subst (λ (l : List Act). HearsOf (device_acts l) told) same hears_now) hears_other in
            subst (λ (l : List ChannelAct). is_channel_open c l ≡ false) one e
        | inr h ↦ absurd (none_shut c told e h.0)
      ])
    ]
  where
    none_shut : (c : ℕ) (told : List ChannelAct) → is_channel_open c told ≡ false → 0 < length (channel_waiting c told) → ⊥
    none_shut c told e lt = let z : 0 < 0 = rw e at lt in omega (arith, z)

pub intr_phase : {W : Type 0} (hears : W → Heard → W → Type 0) (May : Subject → Type 0) (config : Config) (n : ℕ)
    (may : (c : ℕ) → May OfNone × May (OfConn c)) (a x y : DriverView W) → ((c : ℕ) → Grows (OnlyAddsToChannel c) a x)
    → ForEach n (λ c. WritesTo hears (Intr c)) config x y → IntrPhase hears May config n a x y
intr_phase hears May config zero may a x y front same = record {
  k = keeps_none hears May config x y same;
  sent = λ c lt. absurd (omega (arith, lt));
  untold = λ c le. grows_refl (OnlyAddsToChannel c) x y same;
}
intr_phase hears May config (suc n) may a x y front (m, first, (bytes, (now, told, is_now, hears_now, waits), last)) =
    let p = intr_phase hears May config n may a x m front first in
    let s = intr_step hears May config n (may n) m y (bytes, (now, told, is_now, hears_now, waits), last) in
    record {
      k = keeps_then hears May config x m y p.k s.k;
      sent = λ c lt log channel_log was hears_of.
          let low : c ≤ n = omega (arith, lt) in
          elim (eq-or-lt_of_le low) [
            | inl same ↦ elim (sent_step hears May config n a m y s now told is_now hears_now
                (grows_trans (OnlyAddsToChannel n) a x m (front n) (p.untold n (omega arith))) log channel_log was hears_of) [
                  | inl h ↦ inl (subst (λ (i : ℕ). Wrote (Intr i) (channel_waiting i channel_log) (s.k.piece ++ p.k.piece)) (sym same)
                      (wrote_back (Intr n) (channel_waiting n channel_log) s.k.piece p.k.piece h))
                  | inr h ↦ inr (subst (λ (i : ℕ). IsShutOn config i y) (sym same) h)
                ]
            | inr less ↦ elim (p.sent c less log channel_log was hears_of) [
              | inl h ↦ inl (wrote_front (Intr c) (channel_waiting c channel_log) s.k.piece p.k.piece h)
              | inr h ↦ inr (shut_more config c m y
                  (writes_grows (OnlyAddsToChannel c) hears (Intr n) config m y (untold_port c (Intr n) (ports_apart n c (λ e. absurd (omega
                  (arith, less, e)))))
                  (bytes, (now, told, is_now, hears_now, waits), last)) h)
            ]
          ];
      untold = λ c le. grows_trans (OnlyAddsToChannel c) x m y (p.untold c (omega (arith, le)))
          (writes_grows (OnlyAddsToChannel c) hears (Intr n) config m y
          (untold_port c (Intr n) (ports_apart n c (λ e. absurd (omega (arith, le, e)))))
          (bytes, (now, told, is_now, hears_now, waits), last));
    }
