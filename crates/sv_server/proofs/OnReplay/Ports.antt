-- The lines of the ports are written one after the other, and a Took of one port leaves the later
-- ones.
use Rattle.std.proofs.Common.{◌≡◌, ℕ, zero, suc, ◌+◌, ◌-◌, ◌<◌, ◌≤◌, ◌==◌, false, List, [], ◌∷◌, ◌++◌, length, map, Option, None, refl, sym, ap, inl, inr, subst, ◌∙◌, append_assoc, append-nil, eq-eqb, arith}
use Rattle.std.specs.Prelude.{Result, Ok, Err, ⊤, IsErr, min}
use Rattle.std.specs.Io.KnownBytes.{Appends}
use Rattle.hex.specs.Hex.{encode_lower}
use Rattle.std.proofs.lemmas.Bool.{lt-ltb, le-ltb, cases_lt, cases_eq, ne_eqb}
use Rattle.std.proofs.lemmas.List.{map-append}
use Rattle.sv_history.specs.declared.event.Config.{Config}
use Rattle.sv_history.specs.declared.event.Port.{Port}
use Rattle.sv_print.specs.declared.writing.WriteFault.{WriteFault}
use Rattle.sv_history.specs.Event.{PlainEvent}
use Rattle.sv_links.specs.Channels.{ChannelAct, SrqEnabled, SrqDisabled, ChannelOpened, ChannelClosed, Requested, ChannelTaken, peer, was_opened}
use Rattle.sv_history.specs.Act.{Act, BytesTaken, of}
use Rattle.sv_history.specs.Connection.{waiting, waiting_on}
use Rattle.sv_server.specs.Server.State.{State}
use Rattle.sv_history.specs.Print.{port_of, below, ports, port_line, port_name, lines_of, with_took, with_tooks}
use Rattle.sv_server.specs.Replay.Inside.Showing.{StandsBy, ShowsPort, ShowsAll, log_with_took, told_with_took}
use Rattle.sv_history.proofs.Projections.{of_other_act}
use Rattle.sv_server.proofs.OnDevice.Channels.{took_leaves_other_channel}
use Rattle.sv_print.proofs.Taking.{appends_then}

-- The line of a port on which bytes wait.
pub line_of_waiting_bytes : (port : Port) (bytes : List ℕ) → (length bytes == 0) ≡ false
    → port_line port bytes ≡ port_name port ++ 32 ∷ (encode_lower bytes ++ 10 ∷ [])
line_of_waiting_bytes port [] h = absurd cc
line_of_waiting_bytes port (byte ∷ bytes) h = refl

-- The first `n` ports.
abbrev pub first_ports : ℕ → List Port
first_ports n = map port_of (below n)

lines_append : (channel_log : List ChannelAct) (a b : List Port) (log : List Act)
    → lines_of channel_log (a ++ b) log ≡ lines_of channel_log a log ++ lines_of channel_log b log
lines_append channel_log [] b log = refl
lines_append channel_log (port ∷ a) b log =
    ap (λ (l : List ℕ). port_line port (waiting_on channel_log port log) ++ l) (lines_append channel_log a b log)
    ∙ sym (append_assoc (port_line port (waiting_on channel_log port log)) (lines_of channel_log a log) (lines_of channel_log b log))

tooks_append : (channel_log : List ChannelAct) (a b : List Port) (log : List Act) (history : List PlainEvent)
    → with_tooks channel_log (a ++ b) log history ≡ with_tooks channel_log b log (with_tooks channel_log a log history)
tooks_append channel_log [] b log history = refl
tooks_append channel_log (port ∷ a) b log history = tooks_append channel_log a b log
    (with_took port (waiting_on channel_log port log) history)

first_more : (n : ℕ) → first_ports (suc n) ≡ first_ports n ++ port_of n ∷ []
first_more n = map-append port_of (below n) (n ∷ [])

lines_more : (channel_log : List ChannelAct) (n : ℕ) (log : List Act)
    → lines_of channel_log (first_ports (suc n)) log ≡ lines_of channel_log (first_ports n) log
    ++ port_line (port_of n) (waiting_on channel_log (port_of n) log)
lines_more channel_log n log =
    ap (λ (ps : List Port). lines_of channel_log ps log) (first_more n) ∙ lines_append channel_log (first_ports n) (port_of n ∷ []) log
    ∙ ap (λ (l : List ℕ). lines_of channel_log (first_ports n) log ++ l)
    (append-nil (port_line (port_of n) (waiting_on channel_log (port_of n) log)))

tooks_more : (channel_log : List ChannelAct) (n : ℕ) (log : List Act) (history : List PlainEvent)
    → with_tooks channel_log (first_ports (suc n)) log history
    ≡ with_took (port_of n) (waiting_on channel_log (port_of n) log) (with_tooks channel_log (first_ports n) log history)
tooks_more channel_log n log history = ap (λ (ps : List Port). with_tooks channel_log ps log history) (first_more n)
    ∙ tooks_append channel_log (first_ports n) (port_of n ∷ []) log history

-- The numbers below `k`, split at one of them.
below_split : (k n : ℕ) → n < k → (others : List ℕ) × (below k ≡ below n ++ n ∷ others)
below_split zero n h = absurd (omega arith)
below_split (suc k) n h = elim (cases_lt n k) [
  | inl less ↦ (let (others, e) = below_split k n less in
      (others ++ k ∷ [], ap (λ (l : List ℕ). l ++ k ∷ []) e ∙ append_assoc (below n) (n ∷ others) (k ∷ [])))
  | inr more ↦ (let same : k ≡ n = omega arith in ([], ap (λ (m : ℕ). below m ++ m ∷ []) same))
]

ports_split : (n : ℕ) → n < 32 → (others : List Port) × (ports ≡ first_ports n ++ port_of n ∷ others)
ports_split n h =
    let (others, e) = below_split 32 n h in
    (map port_of others, ap (map port_of) e ∙ map-append port_of (below n) (n ∷ others))

-- A Took of one port leaves the bytes that wait on a later port.
took_leaves_later_port : (n m : ℕ) (bytes : List ℕ) (channel_log : List ChannelAct) (log : List Act) → n < m
    → waiting_on (told_with_took (port_of n) bytes channel_log) (port_of m) (log_with_took (port_of n) bytes log)
    ≡ waiting_on channel_log (port_of m) log
took_leaves_later_port n m [] channel_log log less = refl
took_leaves_later_port n m (byte ∷ bytes) channel_log log less = elim (cases_lt n 16) [
  | inl within ↦ rw (lt-ltb n 16 within) (elim (cases_lt m 16) [
    | inl near ↦ rw (lt-ltb m 16 near)
        (ap waiting (of_other_act n m (BytesTaken (length (byte ∷ bytes))) log (λ e. omega (arith, e))))
    | inr far ↦ rw (le-ltb m 16 far) refl
  ])
  | inr beyond ↦ rw (le-ltb n 16 beyond, le-ltb m 16 (omega arith))
      (took_leaves_other_channel (m - 16) (n - 16) (length (byte ∷ bytes)) channel_log (λ e. omega (arith, e, beyond, less)))
]

-- The lines of the first ports were written, and the peers took the bytes that these lines show.
-- The bytes that wait on the other ports are unchanged.
abbrev pub SoFar : Config → List PlainEvent → List ChannelAct → List Act → ℕ → State → List ℕ → Type 0
SoFar config history channel_log log n new text = (text ≡ lines_of channel_log (first_ports n) log)
    × (after : List ChannelAct) × (now : List Act) × StandsBy new config (with_tooks channel_log (first_ports n) log history) after now
    × ((m : ℕ) → n ≤ m → waiting_on after (port_of m) now ≡ waiting_on channel_log (port_of m) log)

pub so_far_none : (config : Config) (history : List PlainEvent) (channel_log : List ChannelAct) (log : List Act) (state : State)
    → StandsBy state config history channel_log log → SoFar config history channel_log log 0 state []
so_far_none config history channel_log log state s = (refl, channel_log, log, s, λ m h. refl)

pub so_far_more : (config : Config) (history : List PlainEvent) (channel_log : List ChannelAct) (log : List Act) (n next : ℕ)
    (old new : State)
    (text : List ℕ)
    (first mid last : Option (List ℕ)) → next ≡ suc n → SoFar config history channel_log log n old text
    → Appends first mid text → ((h : List PlainEvent) (after : List ChannelAct) (now : List Act) → StandsBy old config h after now
    → (line : List ℕ) × Appends mid last line × ShowsPort (port_of n) config h after now (Ok tt) new line)
    → (whole : List ℕ) × Appends first last whole × SoFar config history channel_log log next new whole
so_far_more config history channel_log log n next old new text first mid last up (is, after, now, s, same) put shows =
    let (line, more, (line_of_waiting_bytes, stands)) = shows (with_tooks channel_log (first_ports n) log history) after now s in
    let here : waiting_on after (port_of n) now ≡ waiting_on channel_log (port_of n) log = same n (omega arith) in (
      text ++ line,
      appends_then first mid last text line put more,
      rw up (
        ap (λ (l : List ℕ). l ++ line) is ∙ ap (λ (l : List ℕ). lines_of channel_log (first_ports n) log ++ l)
            (line_of_waiting_bytes ∙ ap (port_line (port_of n)) here) ∙ sym (lines_more channel_log n log),
        told_with_took (port_of n) (waiting_on after (port_of n) now) after,
        log_with_took (port_of n) (waiting_on after (port_of n) now) now,
        subst (λ (h : List PlainEvent). StandsBy new config h (told_with_took (port_of n) (waiting_on after (port_of n) now) after)
            (log_with_took (port_of n) (waiting_on after (port_of n) now) now))
            (ap (λ (bytes : List ℕ). with_took (port_of n) bytes (with_tooks channel_log (first_ports n) log history)) here
            ∙ sym (tooks_more channel_log n log history)) stands,
        λ m h. took_leaves_later_port n m (waiting_on after (port_of n) now) after now (omega arith) ∙ same m (omega arith),
      ),
    )

-- A port on which no bytes wait has no line.
so_far_past : (config : Config) (history : List PlainEvent) (channel_log : List ChannelAct) (log : List Act) (n : ℕ)
    (state : State) (text : List ℕ) → waiting_on channel_log (port_of n) log ≡ []
    → SoFar config history channel_log log n state text → SoFar config history channel_log log (suc n) state text
so_far_past config history channel_log log n state text here (is, after, now, s, same) = (
  is ∙ sym (lines_more channel_log n log
      ∙ (ap (λ (bytes : List ℕ). lines_of channel_log (first_ports n) log ++ port_line (port_of n) bytes) here
      ∙ append-nil (lines_of channel_log (first_ports n) log))),
  after,
  now,
  subst (λ (h : List PlainEvent). StandsBy state config h after now)
      (sym (tooks_more channel_log n log history
      ∙ ap (λ (bytes : List ℕ). with_took (port_of n) bytes (with_tooks channel_log (first_ports n) log history)) here)) s,
  λ m h. same m (omega arith),
)

-- If no channel was ever opened, none is open.
no_peer : (c : ℕ) (channel_log : List ChannelAct) → was_opened channel_log ≡ false → peer c channel_log ≡ None
no_peer c [] never = refl
no_peer c (ChannelOpened conn what ∷ acts) never = absurd cc
no_peer c (ChannelClosed conn ∷ acts) never = elim (cases_eq conn c) [
  | inl same ↦ rw (eq-eqb conn c same) refl
  | inr apart ↦ rw (ne_eqb conn c apart) (no_peer c acts never)
]
no_peer c (SrqEnabled lid conn handle ∷ acts) never = no_peer c acts never
no_peer c (SrqDisabled lid ∷ acts) never = no_peer c acts never
no_peer c (Requested ∷ acts) never = no_peer c acts never
no_peer c (ChannelTaken conn count ∷ acts) never = no_peer c acts never

-- If no channel was ever opened, bytes wait only on connections that were used.
pub none_wait_on_unopened : (config : Config) (history : List PlainEvent) (channel_log : List ChannelAct) (log : List Act) (n : ℕ)
    (state : State) → min state.connections_used 16 ≤ n → StandsBy state config history channel_log log
    → was_opened channel_log ≡ false → waiting_on channel_log (port_of n) log ≡ []
none_wait_on_unopened config history channel_log log n state unused (is_log, rep, settled, hears) never = elim (cases_lt n 16) [
  | inl within ↦
      let none : of n log ≡ [] = rep.connections_used.0 n (omega (arith, within, unused)) in
      rw (lt-ltb n 16 within, none) refl
  | inr beyond ↦ rw (le-ltb n 16 beyond, no_peer (n - 16) channel_log never) refl
]

-- No bytes wait on the ports that are left, so all lines were written.
pub so_far_rest : (config : Config) (history : List PlainEvent) (channel_log : List ChannelAct) (log : List Act) (left n : ℕ)
    (state : State) (text : List ℕ) → n + left ≡ 32
    → ((m : ℕ) → n ≤ m → m < 32 → waiting_on channel_log (port_of m) log ≡ [])
    → SoFar config history channel_log log n state text → ShowsAll config history channel_log log (Ok tt) state text
so_far_rest config history channel_log log zero n state text up none (is, after, now, s, same) =
    let all : n ≡ 32 = omega (arith, up) in (
      is ∙ ap (λ (m : ℕ). lines_of channel_log (first_ports m) log) all,
      after,
      now,
      subst (λ (m : ℕ). StandsBy state config (with_tooks channel_log (first_ports m) log history) after now) all s,
    )
so_far_rest config history channel_log log (suc left) n state text up none so =
    so_far_rest config history channel_log log left (suc n) state text (omega (arith, up))
    (λ m above below. none m (omega (arith, above)) below)
    (so_far_past config history channel_log log n state text (none n (omega arith) (omega (arith, up))) so)

pub so_far_stop : (config : Config) (history : List PlainEvent) (channel_log : List ChannelAct) (log : List Act) (n : ℕ) (old new : State)
    (text : List ℕ)
    (first mid last : Option (List ℕ)) (e : WriteFault) (r : Result ⊤ WriteFault) → n < 32
    → SoFar config history channel_log log n old text → Appends first mid text → IsErr r
    → ((h : List PlainEvent) (after : List ChannelAct) (now : List Act) → StandsBy old config h after now
    → (line : List ℕ) × Appends mid last line × ShowsPort (port_of n) config h after now (Err e) new line)
    → (whole : List ℕ) × Appends first last whole × ShowsAll config history channel_log log r new whole
so_far_stop config history channel_log log n old new text first mid last e (Ok all) within so put failed shows = absurd cc
so_far_stop config history channel_log log n old new text first mid last e (Err f) within (is, after, now, s, same) put failed shows =
    let (part, more, (front, stands)) = shows (with_tooks channel_log (first_ports n) log history) after now s in
    let here : waiting_on after (port_of n) now ≡ waiting_on channel_log (port_of n) log = same n (omega arith) in
    let (others, split) = ports_split n within in
    let behind : lines_of channel_log (port_of n ∷ others) log ≡ part ++ (front.0 ++ lines_of channel_log others log) =
    ap (λ (l : List ℕ). l ++ lines_of channel_log others log) (sym (ap (port_line (port_of n)) here) ∙ front.1)
    ∙ append_assoc part front.0 (lines_of channel_log others log) in (
      text ++ part,
      appends_then first mid last text part put more,
      (
        first_ports n,
        port_of n ∷ others,
        part,
        split,
        (front.0 ++ lines_of channel_log others log, behind),
        ap (λ (l : List ℕ). l ++ part) is,
        after,
        now,
        stands,
      ),
    )
