-- Events that feed a connection: each brings bytes or takes the connection's next call. A call that
-- was taken is found among the connection's acts.
use Rattle.std.proofs.Common.{◌≡◌, ℕ, ◌+◌, ◌≤◌, List, [], ◌∷◌, ◌++◌, length, Option, Some, refl, sym, ap, subst, ◌∙◌, inl, inr, ◌⊎◌, arith}
use Rattle.std.specs.List.{AllByRecursion}
use Rattle.std.proofs.lemmas.List.{length-append}
use Rattle.sv_history.specs.declared.event.Config.{Config}
use Rattle.sv_history.specs.Event.{PlainEvent, Bytes, Turn}
use Rattle.sv_history.specs.Act.{Act, ConnAct, Piece, CallTaken, Replied, On, of, device_acts}
use Rattle.sv_history.specs.Connection.{next_call}
use Rattle.sv_history.specs.Request.{Request, next_request}
use Rattle.sv_history.specs.PolledStatus.{IsPolled}
use Rattle.sv_history.specs.Execution.{request_effect, aborts}
use Rattle.sv_history.specs.Settling.{SettlesIn, IsSettled}
use Rattle.sv_history.specs.History.{taken_acts, turn_acts, own_acts, IsLogOf}
use Rattle.sv_laws.specs.Cuts.{IsFeeding, without_pieces}
use Rattle.sv_laws.proofs.OneLog.{one_log}
use Rattle.sv_history.proofs.StillSettled.{still_settled}
use Rattle.sv_laws.proofs.EveryLog.Steps.{log_settled, settled_log_stays}
use Rattle.sv_laws.proofs.Cuts.NoCallTaken.{adds_then, steps_take_no_call, taken_acts_take_no_other, without_pieces_append, FollowsCall, follows_call, taken_once}
use Rattle.sv_laws.proofs.Cuts.BytesBehind.{AddsOnlyPieces, no_pieces_added, one_piece_added, pieces_then_pieces, pieces_leave_other_acts}

-- ---- one event

-- In the log `base` the connection's next call is taken. Then the steps that are due lead to `log`.
pub record Taking (c : ℕ) (config : Config) (call : List ℕ) (base log : List Act) : Type 0 where
  pub request : Request
  pub polled : ℕ
  pub steps : ℕ
  pub next : next_call (of c base) ≡ Some call
  pub asks : next_request (of c base) ≡ Some request
  pub said : IsPolled polled (device_acts base)
  pub settles : SettlesIn steps config
      (taken_acts c call (request_effect config polled c request (device_acts base)) (aborts request (device_acts base)) base ++ base) log

abbrev Turned : ℕ → Config → List Act → List Act → Type 0
Turned c config base log = AddsOnlyPieces c base log ⊎ ((call : List ℕ) × Taking c config call base log)

turned : (c : ℕ) (config : Config) (polled steps : ℕ) (call : Option (List ℕ)) (request : Option Request) (base log : List Act)
    → IsSettled config base → IsPolled polled (device_acts base) → next_call (of c base) ≡ call → next_request (of c base) ≡ request
    → SettlesIn steps config (turn_acts config polled c call request base ++ base) log → Turned c config base log
turned c config polled steps (Some call) (Some request) base log settled said next asks settles = inr (
  call,
  record { request = request; polled = polled; steps = steps; next = next; asks = asks; said = said; settles = settles },
)
turned c config polled steps _ _ base log settled said next asks settles =
    inl (no_pieces_added c base log (settled_log_stays steps config base log settled settles))

fed_event : (c : ℕ) (config : Config) (event : PlainEvent) (past : List PlainEvent) (log : List Act) → IsFeeding c event
    → (is_log : IsLogOf config (event ∷ past) log) → Turned c config is_log.0 log
fed_event c config (Bytes d piece) past log same (base, polled, channel_log, is_event, was, hears, free, said, settles) =
    let settled = log_settled config past base was in
    let is : log ≡ On d (Piece piece) ∷ base =
    settled_log_stays settles.0 config (On d (Piece piece) ∷ base) log (still_settled d (Piece piece) config base settled) settles.1 in
    inl (one_piece_added c piece base base log (is ∙ ap (λ (e : ℕ). On e (Piece piece) ∷ base) same) (no_pieces_added c base base refl))
fed_event c config (Turn d) past log same (base, polled, channel_log, is_event, was, hears, free, said, settles) =
    turned c config polled settles.0 (next_call (of c base)) (next_request (of c base)) base log (log_settled config past base was) said
    refl refl
    (subst (λ (e : ℕ). SettlesIn settles.0 config (own_acts config polled (Turn e) base ++ base) log) same settles.1)
fed_event c config _ past log same is_log = absurd same

-- The connection's acts are those before the call, the taking of the call, and then acts that take
-- no call.
pub call_shows_in_acts : (c : ℕ) (config : Config) (call : List ℕ) (base log : List Act) → Taking c config call base log
    → FollowsCall c call base log
call_shows_in_acts c config call base log taking = follows_call c call base log (adds_then (On c (CallTaken call) ∷ base) _ log
    (taken_acts_take_no_other config taking.polled c call taking.request _ base)
    (steps_take_no_call taking.steps config _ log taking.settles))

pub shown_bare : (c : ℕ) (call : List ℕ) (base log : List Act) (shown : FollowsCall c call base log)
    → without_pieces (of c log) ≡ without_pieces shown.0 ++ CallTaken call ∷ without_pieces (of c base)
shown_bare c call base log shown = ap without_pieces shown.2 ∙ without_pieces_append shown.0 (CallTaken call ∷ of c base)

-- ---- events without a call

-- The number of acts of connection `c` that aren't pieces of bytes.
abbrev count : ℕ → List Act → ℕ
count c log = length (without_pieces (of c log))

call_adds_to_count : (c : ℕ) (call : List ℕ) (base log : List Act) → FollowsCall c call base log → count c base + 1 ≤ count c log
call_adds_to_count c call base log shown =
    let size : count c log ≡ length (without_pieces shown.0 ++ CallTaken call ∷ without_pieces (of c base)) =
    ap (λ (l : List ConnAct). length l) (shown_bare c call base log shown) in
    omega (arith, size, length-append (without_pieces shown.0) (CallTaken call ∷ without_pieces (of c base)))

no_fewer : (c : ℕ) (config : Config) (past events : List PlainEvent) (before log : List Act) → AllByRecursion (IsFeeding c) events
    → IsLogOf config past before → IsLogOf config (events ++ past) log → count c before ≤ count c log
no_fewer c config past [] before log feeding was is_log =
    let same : count c before ≡ count c log = ap (count c) (one_log config past before log was is_log) in omega (arith, same)
no_fewer c config past (event ∷ events) before log feeding was is_log =
    let least = no_fewer c config past events before is_log.0 feeding.1 was is_log.4 in
    elim (fed_event c config event (events ++ past) log feeding.0 is_log) [
      | inl came ↦
          let same : count c log ≡ count c is_log.0 = ap (λ (l : List ConnAct). length l) (pieces_leave_other_acts c is_log.0 log came) in
          omega (arith, least, same)
      | inr taken ↦
          let more = call_adds_to_count c taken.0 is_log.0 log (call_shows_in_acts c config taken.0 is_log.0 log taken.1) in
          omega (arith, least, more)
    ]

-- If the events added only pieces to the connection's acts, they added only these pieces to the
-- log.
pub only_bytes : (c : ℕ) (config : Config) (past events : List PlainEvent) (before log : List Act) → AllByRecursion (IsFeeding c) events
    → IsLogOf config past before → IsLogOf config (events ++ past) log → without_pieces (of c log) ≡ without_pieces (of c before)
    → AddsOnlyPieces c before log
only_bytes c config past [] before log feeding was is_log same = no_pieces_added c before log (one_log config past log before is_log was)
only_bytes c config past (event ∷ events) before log feeding was is_log same =
    elim (fed_event c config event (events ++ past) log feeding.0 is_log) [
      | inl came ↦ pieces_then_pieces c before is_log.0 log
          (only_bytes c config past events before is_log.0 feeding.1 was is_log.4
          (sym (pieces_leave_other_acts c is_log.0 log came) ∙ same)) came
      | inr taken ↦
          let more = call_adds_to_count c taken.0 is_log.0 log (call_shows_in_acts c config taken.0 is_log.0 log taken.1) in
          let least = no_fewer c config past events before is_log.0 feeding.1 was is_log.4 in
          let size : count c log ≡ count c before = ap (λ (l : List ConnAct). length l) same in
          absurd (omega (arith, more, least, size))
    ]

-- ---- events with a call

-- First come the events `earlier`, which lead to `base`. Then the call is taken, and answered with
-- this reply, which leads to `last`. Then only bytes come, which leads to `log`.
pub record Fed (c : ℕ) (config : Config) (past : List PlainEvent) (log : List Act) (reply call : List ℕ)
    (rest : List ConnAct) : Type 0 where
  pub earlier : List PlainEvent
  pub base : List Act
  pub last : List Act
  pub feeding : AllByRecursion (IsFeeding c) earlier
  pub was : IsLogOf config (earlier ++ past) base
  pub taking : Taking c config call base last
  pub acts : without_pieces (of c last) ≡ Replied reply ∷ CallTaken call ∷ without_pieces (of c base)
  pub same : without_pieces (of c base) ≡ rest
  pub came : AddsOnlyPieces c last log

fed_more : (c : ℕ) (config : Config) (past : List PlainEvent) (mid log : List Act) (reply call : List ℕ) (rest : List ConnAct)
    → AddsOnlyPieces c mid log → Fed c config past mid reply call rest → Fed c config past log reply call rest
fed_more c config past mid log reply call rest came fed = record {
  earlier = fed.earlier;
  base = fed.base;
  last = fed.last;
  feeding = fed.feeding;
  was = fed.was;
  taking = fed.taking;
  acts = fed.acts;
  same = fed.same;
  came = pieces_then_pieces c fed.last mid log fed.came came;
}

-- The case that the newest event takes the call.
fed_last : (c : ℕ) (config : Config) (past earlier : List PlainEvent) (base log : List Act) (reply call bytes : List ℕ)
    (rest : List ConnAct) → AllByRecursion (IsFeeding c) earlier → IsLogOf config (earlier ++ past) base
    → without_pieces (of c log) ≡ Replied reply ∷ CallTaken call ∷ rest → Taking c config bytes base log
    → Fed c config past log reply call rest
fed_last c config past earlier base log reply call bytes rest feeding was same taking =
    let shown = call_shows_in_acts c config bytes base log taking in
    let once = taken_once (without_pieces shown.0) bytes reply call (without_pieces (of c base)) rest shown.1
    (sym (shown_bare c bytes base log shown) ∙ same) in
    record {
      earlier = earlier;
      base = base;
      last = log;
      feeding = feeding;
      was = was;
      taking = subst (λ (l : List ℕ). Taking c config l base log) once.1 taking;
      acts = same ∙ ap (λ (l : List ConnAct). Replied reply ∷ CallTaken call ∷ l) (sym once.2);
      same = once.2;
      came = no_pieces_added c log log refl;
    }

pub fed : (c : ℕ) (config : Config) (past events : List PlainEvent) (before log : List Act) (reply call : List ℕ) (rest : List ConnAct)
    → AllByRecursion (IsFeeding c) events → IsLogOf config past before → IsLogOf config (events ++ past) log
    → length (without_pieces (of c before)) ≤ length rest → without_pieces (of c log) ≡ Replied reply ∷ CallTaken call ∷ rest
    → Fed c config past log reply call rest
fed c config past [] before log reply call rest feeding was is_log most same =
    let size : count c before ≡ length (Replied reply ∷ CallTaken call ∷ rest) =
    ap (count c) (one_log config past before log was is_log) ∙ ap (λ (l : List ConnAct). length l) same in
    absurd (omega (arith, size, most))
fed c config past (event ∷ events) before log reply call rest feeding was is_log most same =
    elim (fed_event c config event (events ++ past) log feeding.0 is_log) [
      | inl came ↦ fed_more c config past is_log.0 log reply call rest came
          (fed c config past events before is_log.0 reply call rest feeding.1 was is_log.4 most
          (sym (pieces_leave_other_acts c is_log.0 log came) ∙ same))
      | inr taken ↦ fed_last c config past events is_log.0 log reply call taken.0 rest feeding.1 is_log.4 same taken.1
    ]
