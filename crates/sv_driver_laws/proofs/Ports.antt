-- What reads and writes of the wire do to the bytes of a connection, and of its interrupt channel.
use Rattle.std.proofs.Common.{◌≡◌, ℕ, zero, suc, ◌+◌, ◌-◌, ◌≤◌, eqb, ltb, true, false, List, [], ◌∷◌, ◌++◌, length, take, drop, Some, refl, sym, ap, subst, ◌∙◌, inl, inr, append_assoc, append-nil, arith}
use Rattle.std.specs.Prelude.{⊤}
use Rattle.std.specs.List.{concat}
use Rattle.std.proofs.lemmas.Bool.{ltb-true, ltb-false, cases_Bool}
use Rattle.sv_links.specs.declared.request.Peer.{Peer}
use Rattle.sv_links.specs.Channels.{ChannelAct, ChannelOpened, ChannelTaken, is_channel_open, bytes_taken as channel_taken, calls, calls_left as untaken_calls, waiting as channel_waiting}
use Rattle.std.proofs.lemmas.List.{drop-append-le, take-append-drop, drop-drop, length-drop, length-append}
use Rattle.sv_history.specs.declared.event.Config.{Config}
use Rattle.sv_history.specs.declared.event.Role.{Role}
use Rattle.sv_history.specs.declared.event.Port.{Port}
use Rattle.sv_history.specs.declared.event.Port.TheVariants.{Conn, Intr}
use Rattle.sv_history.specs.Event.{PlainEvent, Open, Bytes, Took, Close}
use Rattle.sv_history.specs.Act.{Act, ConnAct, CallTaken, Faulted, Replied, of, device_acts}
use Rattle.sv_history.specs.Requests.{HearsOf}
use Rattle.sv_history.specs.Connection.{is_open, bytes_left, waiting, stream, bytes_sent, bytes_taken}
use Rattle.sv_history.specs.History.{IsLogOf}
use Rattle.sv_laws.proofs.Brought.{brings, AreCallActs, OnlyCalls, tells, OnlyAdds, OnlyRequests}
use Rattle.sv_serve.specs.declared.wire.Answer.TheVariants.{Got}
use Rattle.sv_serve.specs.Heard.{Heard, WasAccepted, WasRead, WasWritten, WasClosed}
use Rattle.sv_driver_laws.specs.Served.{event_of}
use Rattle.sv_driver_laws.specs.Carried.{begins, read, taken_bytes, since}
use Rattle.sv_links.proofs.Left.{drop_past}
use Rattle.std.proofs.lemmas.List.Folds.{concat-append}

-- ---- one connection

-- These are the bytes that came on the connection, and the bytes of replies that its peer took.
abbrev pub ConnBytes : List ConnAct → List ℕ → List ℕ → Type 0
ConnBytes acts came went = (stream acts ≡ came)
    × (is_open acts ≡ true → (went ++ bytes_left acts ≡ bytes_sent acts) × (bytes_taken acts ≤ length (bytes_sent acts)))

sent_more : (went sends more : List ℕ) (g : ℕ) → went ++ drop g sends ≡ sends → g ≤ length sends
    → (went ++ drop g (sends ++ more) ≡ sends ++ more) × (g ≤ length (sends ++ more))
sent_more went sends more g is le = (
  ap (λ (l : List ℕ). went ++ l) (drop-append-le g sends more le) ∙ sym (append_assoc went (drop g sends) more)
      ∙ ap (λ (l : List ℕ). l ++ more) is,
  (let sum = length-append sends more in omega (arith, le, sum)),
)

taken_more : (went bytes sends : List ℕ) (g n : ℕ) → bytes ≡ drop g sends → n ≤ length bytes → went ++ drop g sends ≡ sends
    → g ≤ length sends → ((went ++ take n bytes) ++ drop (g + n) sends ≡ sends) × (g + n ≤ length sends)
taken_more went bytes sends g n same few is le = (
  append_assoc went (take n bytes) (drop (g + n) sends)
      ∙ ap (λ (l : List ℕ). went ++ (take n bytes ++ l)) (sym (drop-drop n g sends) ∙ ap (drop n) (sym same))
      ∙ ap (λ (l : List ℕ). went ++ l) (take-append-drop n bytes ∙ same) ∙ is,
  (let left = ap length same ∙ length-drop g sends in omega (arith, le, few, left)),
)

holds_calls : (adds acts : List ConnAct) (came went : List ℕ) → AreCallActs adds → ConnBytes acts came went
    → ConnBytes (adds ++ acts) came went
holds_calls [] acts came went h k = k
holds_calls (CallTaken call ∷ adds) acts came went h k = holds_calls adds acts came went h k
holds_calls (Faulted ∷ adds) acts came went h k = holds_calls adds acts came went h k
holds_calls (Replied bytes ∷ adds) acts came went h k =
    let was = holds_calls adds acts came went h k in (
      was.0,
      (λ opened.
          let both = was.1 opened in
          sent_more went (bytes_sent (adds ++ acts)) bytes (bytes_taken (adds ++ acts)) both.0 both.1),
    )
holds_calls (_ ∷ adds) acts came went h k = absurd h

-- ---- one interrupt channel

abbrev pub ChannelBytes : ℕ → List ChannelAct → List ℕ → Type 0
ChannelBytes c channel_log gone = is_channel_open c channel_log ≡ true
    → (gone ++ drop (channel_taken c channel_log) (concat (calls c channel_log)) ≡ concat (calls c channel_log))
    × (channel_taken c channel_log ≤ length (concat (calls c channel_log)))

holds_adds : (c : ℕ) (before after : List ChannelAct) (gone : List ℕ) → OnlyAdds c before after → ChannelBytes c before gone
    → ChannelBytes c after gone
holds_adds c before after gone adds h opened =
    let a = adds opened in
    let both = h a.0 in
    let all : concat (calls c after) ≡ concat (calls c before) ++ concat a.2 = ap concat a.3 ∙ concat-append (calls c before) a.2 in
    rw (a.1, all) (sent_more gone (concat (calls c before)) (concat a.2) (channel_taken c before) both.0 both.1)

-- The calls that remain after some bytes were taken have exactly the bytes that remain.
pub untaken_calls_bytes : (count : ℕ) (calls : List (List ℕ)) → concat (untaken_calls count calls) ≡ drop count (concat calls)
untaken_calls_bytes zero [] = refl
untaken_calls_bytes (suc count) [] = refl
untaken_calls_bytes count (call ∷ calls) = elim (cases_Bool (ltb count (length call))) [
  | inl e ↦ let lt = ltb-true count (length call) e in rw e (sym (drop-append-le count call (concat calls) (omega arith)))
  | inr e ↦
      let le = ltb-false count (length call) e in
      rw e (untaken_calls_bytes (count - length call) calls ∙ sym (drop_past count call (concat calls) le))
]

-- ---- the answers of the wire

abbrev pub came : ℕ → List Heard → List ℕ
came c trace = since (Conn c) (read (Conn c)) trace

abbrev pub went : Port → List Heard → List ℕ
went port trace = since port (taken_bytes port) trace

-- The answer causes no event, and changes the bytes of no port.
abbrev pub IsSilent : Heard → Type 0
IsSilent heard = (event_of heard ≡ []) × ((port : Port) → begins port heard ≡ false) × ((port : Port) → read port heard ≡ [])
    × ((port : Port) → taken_bytes port heard ≡ [])

abbrev pub AreSilent : List Heard → Type 0
AreSilent [] = ⊤
AreSilent (heard ∷ piece) = IsSilent heard × AreSilent piece

-- A connection and its interrupt channel have exchanged the bytes that the trace says.
abbrev pub PortBytes : ℕ → List ConnAct → List ChannelAct → List Heard → Type 0
PortBytes c acts channel_log trace = ConnBytes acts (came c trace) (went (Conn c) trace) × ChannelBytes c channel_log (went (Intr c) trace)

came_silent : (c : ℕ) (heard : Heard) (trace : List Heard) (acts : List ConnAct) → begins (Conn c) heard ≡ false
    → read (Conn c) heard ≡ [] → taken_bytes (Conn c) heard ≡ [] → ConnBytes acts (came c trace) (went (Conn c) trace)
    → ConnBytes acts (came c (heard ∷ trace)) (went (Conn c) (heard ∷ trace))
came_silent c heard trace acts still none nothing h =
    rw (still, none, nothing, append-nil (came c trace), append-nil (went (Conn c) trace)) h

pub sent_silent : (c : ℕ) (heard : Heard) (trace : List Heard) (channel_log : List ChannelAct) → begins (Intr c) heard ≡ false
    → taken_bytes (Intr c) heard ≡ [] → ChannelBytes c channel_log (went (Intr c) trace)
    → ChannelBytes c channel_log (went (Intr c) (heard ∷ trace))
sent_silent c heard trace channel_log still nothing h = rw (still, nothing, append-nil (went (Intr c) trace)) h

pub holds_silent : (c : ℕ) (heard : Heard) (trace : List Heard) (acts : List ConnAct) (channel_log : List ChannelAct)
    → ((port : Port) → begins port heard ≡ false) → read (Conn c) heard ≡ [] → ((port : Port) → taken_bytes port heard ≡ [])
    → PortBytes c acts channel_log trace → PortBytes c acts channel_log (heard ∷ trace)
holds_silent c heard trace acts channel_log still none nothing h = (
  came_silent c heard trace acts (still (Conn c)) none (nothing (Conn c)) h.0,
  sent_silent c heard trace channel_log (still (Intr c)) (nothing (Intr c)) h.1,
)

-- ---- each event of a connection

pub step_open : (c : ℕ) (role : Role) (all : ⊤) (trace : List Heard) (d : ℕ) (acts : List ConnAct) (channel_log : List ChannelAct)
    → PortBytes d acts channel_log trace → PortBytes d (brings d (Open c role) ++ acts) channel_log
    (WasAccepted role (Some c) (Got all) ∷ trace)
step_open c role all trace d acts channel_log h = (
  elim (cases_Bool (eqb c d)) [
    | inl e ↦ rw e (refl, (λ opened. (refl, omega arith)))
    | inr e ↦ rw (e, append-nil (came d trace), append-nil (went (Conn d) trace)) h.0
  ],
  sent_silent d (WasAccepted role (Some c) (Got all)) trace channel_log refl refl h.1,
)

pub step_read : (c most : ℕ) (bytes : List ℕ) (trace : List Heard) (d : ℕ) (acts : List ConnAct) (channel_log : List ChannelAct)
    → PortBytes d acts channel_log trace → PortBytes d (brings d (Bytes c bytes) ++ acts) channel_log (WasRead c most (Got bytes) ∷ trace)
step_read c most bytes trace d acts channel_log h = (
  elim (cases_Bool (eqb c d)) [
    | inl e ↦ rw (e, append-nil (went (Conn d) trace)) (ap (λ (l : List ℕ). l ++ bytes) h.0.0, h.0.1)
    | inr e ↦ rw (e, append-nil (came d trace), append-nil (went (Conn d) trace)) h.0
  ],
  sent_silent d (WasRead c most (Got bytes)) trace channel_log refl refl h.1,
)

pub step_took : (c n : ℕ) (bytes : List ℕ) (trace : List Heard) (d : ℕ) (acts : List ConnAct) (channel_log : List ChannelAct)
    → n ≤ length bytes → (eqb c d ≡ true → bytes ≡ waiting acts) → PortBytes d acts channel_log trace
    → PortBytes d (brings d (Took (Conn c) n) ++ acts) channel_log (WasWritten (Conn c) bytes (Got n) ∷ trace)
step_took c n bytes trace d acts channel_log few waits h = (
  elim (cases_Bool (eqb c d)) [
    | inl e ↦ rw (e, append-nil (came d trace)) (
      h.0.0,
      (λ opened.
          let both = h.0.1 opened in
          let same : bytes ≡ bytes_left acts = waits e ∙ rw opened refl in
          taken_more (went (Conn d) trace) bytes (bytes_sent acts) (bytes_taken acts) n same few both.0 both.1),
    )
    | inr e ↦ rw (e, append-nil (came d trace), append-nil (went (Conn d) trace)) h.0
  ],
  sent_silent d (WasWritten (Conn c) bytes (Got n)) trace channel_log refl refl h.1,
)

pub step_close : (c : ℕ) (trace : List Heard) (d : ℕ) (acts : List ConnAct) (channel_log : List ChannelAct)
    → PortBytes d acts channel_log trace → PortBytes d (brings d (Close (Conn c)) ++ acts) channel_log (WasClosed (Conn c) ∷ trace)
step_close c trace d acts channel_log h = (
  elim (cases_Bool (eqb c d)) [
    | inl e ↦ rw e (refl, (λ opened. absurd cc))
    | inr e ↦ rw (e, append-nil (came d trace), append-nil (went (Conn d) trace)) h.0
  ],
  sent_silent d (WasClosed (Conn c)) trace channel_log refl refl h.1,
)

-- ---- each event of an interrupt channel

-- The peer takes bytes of the channel.
pub step_sent : (c n : ℕ) (bytes : List ℕ) (trace : List Heard) (d : ℕ) (acts : List ConnAct) (channel_log : List ChannelAct)
    → n ≤ length bytes → (eqb c d ≡ true → bytes ≡ channel_waiting d channel_log) → PortBytes d acts channel_log trace
    → PortBytes d acts (ChannelTaken c n ∷ channel_log) (WasWritten (Intr c) bytes (Got n) ∷ trace)
step_sent c n bytes trace d acts channel_log few waits h = (
  came_silent d (WasWritten (Intr c) bytes (Got n)) trace acts refl refl refl h.0,
  elim (cases_Bool (eqb c d)) [
    | inl e ↦ rw e (λ opened.
        let both = h.1 opened in
        let same : bytes ≡ drop (channel_taken d channel_log) (concat (calls d channel_log)) =
        waits e ∙ rw opened (untaken_calls_bytes (channel_taken d channel_log) (calls d channel_log)) in
        taken_more (went (Intr d) trace) bytes (concat (calls d channel_log)) (channel_taken d channel_log) n same few both.0 both.1)
    | inr e ↦ rw (e, append-nil (went (Intr d) trace)) h.1
  ],
)

-- The channel opens, because of an answer of this kind.
pub step_opened : (c : ℕ) (what : Peer) (heard : Heard) (trace : List Heard) (d : ℕ) (acts : List ConnAct) (channel_log : List ChannelAct)
    → begins (Conn d) heard ≡ false → read (Conn d) heard ≡ [] → taken_bytes (Conn d) heard ≡ [] → begins (Intr d) heard ≡ eqb c d
    → taken_bytes (Intr d) heard ≡ [] → PortBytes d acts channel_log trace
    → PortBytes d acts (ChannelOpened c what ∷ channel_log) (heard ∷ trace)
step_opened c what heard trace d acts channel_log still unread bytes_left opens nothing h = (
  came_silent d heard trace acts still unread bytes_left h.0,
  elim (cases_Bool (eqb c d)) [
    | inl e ↦ rw (opens, e) (λ opened. (refl, omega arith))
    | inr e ↦ rw (opens, e, nothing, append-nil (went (Intr d) trace)) h.1
  ],
)

-- ---- over a history

abbrev pub BytesMatch : Config → List PlainEvent → List Heard → Type 0
BytesMatch config history trace = (log : List Act) (channel_log : List ChannelAct) → IsLogOf config history log
    → HearsOf (device_acts log) channel_log → (c : ℕ) → PortBytes c (of c log) channel_log trace

pub keeping_event : OnlyCalls → OnlyRequests
    → (config : Config) (history : List PlainEvent) (before : List Act) (channel_log : List ChannelAct)
    (event : PlainEvent) (trace later : List Heard) → IsLogOf config history before → HearsOf (device_acts before) channel_log
    → ((c : ℕ) → PortBytes c (of c before) channel_log trace → PortBytes c (brings c event ++ of c before)
    (tells event before ++ channel_log) later)
    → BytesMatch config history trace → BytesMatch config (event ∷ history) later
keeping_event only requests config history before channel_log event trace later was hears step keeping log then_told is then_hears c =
    let grown = only config event history before log c was is in
    let adds = requests config event history before log channel_log then_told c was hears is then_hears in
    let both = step c (keeping before channel_log was hears c) in (
      subst (λ (l : List ConnAct). ConnBytes l (came c later) (went (Conn c) later)) (sym grown.2)
          (holds_calls grown.0 (brings c event ++ of c before) (came c later) (went (Conn c) later) grown.1 both.0),
      holds_adds c (tells event before ++ channel_log) then_told (went (Intr c) later) adds both.1,
    )

pub keeping_silent : (config : Config) (history : List PlainEvent) (piece trace : List Heard) → AreSilent piece
    → BytesMatch config history trace → BytesMatch config history (piece ++ trace)
keeping_silent config history [] trace silent keeping = keeping
keeping_silent config history (heard ∷ piece) trace silent keeping = λ log channel_log is hears c.
    holds_silent c heard (piece ++ trace) (of c log) channel_log silent.0.1 (silent.0.2 (Conn c)) silent.0.3
    (keeping_silent config history piece trace silent.1 keeping log channel_log is hears c)
