-- For each event `explain` writes an explanation, which says what changed, and then what a replay
-- of the event writes.
use Rattle.std.proofs.Common.{◌≡◌, ℕ, Bool, true, false, List, [], ◌∷◌, ◌++◌, Option, refl, inl, inr, sym, ap, subst, ◌∙◌, append-nil}
use Rattle.std.specs.Prelude.{Result, Ok, Err, ⊤}
use Rattle.std.specs.Io.KnownBytes.{Appends}
use Rattle.sv_print.specs.TakenByWriter.{IsFront}
use Rattle.sv_print.specs.Printed.{Prints}
use Rattle.sv_print.proofs.Taking.{appends_then, prints_then, prints_equal_text}
use Rattle.sv_history.specs.declared.event.Config.{Config}
use Rattle.sv_history.specs.declared.event.Did.{Did}
use Rattle.sv_history.specs.declared.event.Refused.{Refused}
use Rattle.sv_history.specs.Event.{PlainEvent, IsEvent, Bytes}
use Rattle.sv_history.specs.Act.{Act, On, Piece, device_acts}
use Rattle.sv_history.specs.History.{IsLogOf, Answers, own_acts, history_after}
use Rattle.sv_history.specs.Print.{head_of}
use Rattle.sv_laws.proofs.OneLog.{one_log}
use Rattle.sv_explain.specs.declared.shown.Shown.{Shown}
use Rattle.sv_explain.specs.declared.shown.ConnShown.{ConnShown}
use Rattle.sv_explain.specs.Shown.{IsConn, IsShown}
use Rattle.sv_explain.specs.Changes.{changes, conn_lines}
use Rattle.sv_explain.specs.Steps.{head_line}
use Rattle.sv_server.specs.declared.replay.ReplayFault.{ReplayFault}
use Rattle.sv_server.specs.declared.replay.ReplayFault.TheVariants.{Write}
use Rattle.sv_server.specs.Server.State.{State, Represents, StandsFor}
use Rattle.sv_server.specs.Server.Inside.Acting.{Acts, Settled}
use Rattle.sv_server.specs.Replay.Replays.{Replays}
use Rattle.sv_server.specs.Replay.Inside.Showing.{Left}
use Rattle.sv_server.specs.Explain.Telling.{Explains, Told, Tells, ToldOf, IsStillTick, clock_at, clock_after, taken_line}
use Rattle.sv_server.specs.Explain.Inside.Steps.{IsActed, lines_before, tick_line}
use Rattle.sv_server.proofs.OnServer.Steps.{polled_now, channel_log_exists}
use Rattle.sv_server.proofs.OnServer.Standing.{stands_acted, answers_by_log}
use Rattle.sv_server.proofs.OnReplay.Telling.{AllStepsTold, event_lines, refused_lines}

-- ---- the explanation of an event

-- The event was refused.
pub refused_event_is_explained : (line : ℕ) (config : Config) (event : PlainEvent) (log : List Act) (refused : Refused) (old new : State)
    (w0 w1 w2 : Option (List ℕ)) (f0 f1 f2 : Bool)
    → Represents old config log → Acts config event log (Err refused) new → new ≡ old
    → Prints w0 f0 w1 f1 (lines_before line config event log) → Prints w1 f1 w2 f2 (tick_line line new.device.clock event)
    → IsActed config event log (Err refused) old new
    × ((told : List ℕ) × ToldOf line config event log (Err refused) told × Prints w0 f0 w2 f2 told)
refused_event_is_explained line config event log refused old new w0 w1 w2 f0 f1 f2 rep acts same first second = (
  (subst (λ (s : State). Acts config event log (Err refused) s) same acts, same),
  (
    head_line line (clock_at config log) ++ taken_line event log,
    refl,
    prints_equal_text w0 w2 f0 f2 (lines_before line config event log ++ tick_line line (clock_at config log) event)
        (head_line line (clock_at config log) ++ taken_line event log) (refused_lines line config event log)
        (prints_then w0 w1 w2 f0 f1 f2 (lines_before line config event log) (tick_line line (clock_at config log) event) first
        (subst (λ (clock : ℕ). Prints w1 f1 w2 f2 (tick_line line clock event)) (ap (λ (st : State). st.device.clock) same ∙ rep.device.3)
        second)),
  ),
)

-- The event was applied, and all steps that were due after it were taken.
module _ (line : ℕ) (config : Config) (event : PlainEvent) (log : List Act) (did : Did) (old mid new : State) (before after : Shown)
    (w0 w1 w2 w3 w4 : Option (List ℕ)) (f0 f1 f2 f3 f4 : Bool) where
  -- The clock in the line of a Tick is that of the log after the Tick.
  clock_now : (polled : ℕ) → Represents mid config (own_acts config polled event log ++ log)
      → Prints w1 f1 w2 f2 (tick_line line mid.device.clock event)
      → Prints w1 f1 w2 f2 (tick_line line (clock_at config (own_acts config polled event log ++ log)) event)
  clock_now polled held put = subst (λ (clock : ℕ). Prints w1 f1 w2 f2 (tick_line line clock event)) held.device.3 put

  pub told_applied : Represents old config log → Acts config event log (Ok did) mid → IsShown before log
      → Prints w0 f0 w1 f1 (lines_before line config event log) → Prints w1 f1 w2 f2 (tick_line line mid.device.clock event)
      → ((k : Config) (l : List Act) → Represents mid k l → IsShown after l × Prints w2 f2 w3 f3 (changes before after))
      → AllStepsTold mid new after w3 f3 w4 f4
      → IsActed config event log (Ok did) old new
      × ((told : List ℕ) × ToldOf line config event log (Ok did) told × Prints w0 f0 w4 f4 told)
  told_applied rep (free, does, makes) shows first second tell settle =
      let (polled, said) = polled_now old.device config (device_acts log) rep.device in
      let own : List Act = own_acts config polled event log ++ log in
      let held = makes polled said in
      let (seen, changed) = tell config own held in
      let (steps, (last, n, tells, settles, stands), put) = settle config own held seen in
      let rest : List ℕ = changes before after ++ steps in (
        (
          free,
          does,
          λ other also.
              let there = makes other also in
              let (known, more) = tell config (own_acts config other event log ++ log) there in
              let (text, (end, m, goes, settled, kept), lines) = settle config (own_acts config other event log ++ log) there known in
              (end, settled, kept),
        ),
        (
          head_line line (clock_after config event log) ++ (taken_line event log ++ rest),
          (polled, before, after, n, steps, last, said, shows, seen, tells, refl),
          prints_equal_text w0 w4 f0 f4
              (lines_before line config event log ++ (tick_line line (clock_at config own) event ++ rest))
              (head_line line (clock_after config event log) ++ (taken_line event log ++ rest))
              (event_lines line polled config event log rest)
              (prints_then w0 w1 w4 f0 f1 f4 (lines_before line config event log) (tick_line line (clock_at config own) event ++ rest) first
              (prints_then w1 w2 w4 f1 f2 f4 (tick_line line (clock_at config own) event) rest (clock_now polled held second)
              (prints_then w2 w3 w4 f2 f3 f4 (changes before after) steps changed put))),
        ),
      )

-- ---- the explanation of a Bytes

-- The line of the event has the clock of the log.
pub head_told : (line clock : ℕ) (config : Config) (log : List Act) (w0 w1 : Option (List ℕ)) (f0 f1 : Bool) → clock ≡ clock_at config log
    → Prints w0 f0 w1 f1 (head_line line clock) → Prints w0 f0 w1 f1 (head_line line (clock_at config log))
head_told line clock config log w0 w1 f0 f1 is put = subst (λ (c : ℕ). Prints w0 f0 w1 f1 (head_line line c)) is put

module _ (line : ℕ) (config : Config) (c : ℕ) (piece : List ℕ) (log : List Act) (did : Did) (old mid new : State)
    (before after : ConnShown) (w0 w1 w2 : Option (List ℕ)) (f0 f1 f2 : Bool) where
  -- The bytes came, and all steps that were due after them were taken.
  pub bytes_applied : Represents old config log → Acts config (Bytes c piece) log (Ok did) mid → IsConn c before log
      → Prints w0 f0 w1 f1 (head_line line (clock_at config log))
      → ((k : Config) (l : List Act) → Represents mid k l → IsConn c after l)
      → Prints w1 f1 w2 f2 (conn_lines c before after)
      → ((k : Config) (l : List Act) → Represents mid k l → Settled k l new)
      → IsActed config (Bytes c piece) log (Ok did) old new
      × ((told : List ℕ) × Tells line config (Bytes c piece) log (Ok did) told × Prints w0 f0 w2 f2 told)
  bytes_applied rep (free, does, makes) shows first looks second settle =
      let (polled, said) = polled_now old.device config (device_acts log) rep.device in
      let held = makes polled said in (
        (free, does, λ other also. settle config (On c (Piece piece) ∷ log) (makes other also)),
        (
          head_line line (clock_at config log) ++ conn_lines c before after,
          inr (before, after, shows, looks config (On c (Piece piece) ∷ log) held, refl),
          prints_then w0 w1 w2 f0 f1 f2 (head_line line (clock_at config log)) (conn_lines c before after) first second,
        ),
      )

pub told_of_tells : (line : ℕ) (config : Config) (event : PlainEvent) (log : List Act) (did : Result Did Refused) (old new : State)
    (w0 w1 : Option (List ℕ)) (f0 f1 : Bool)
    → IsActed config event log did old new × ((told : List ℕ) × ToldOf line config event log did told × Prints w0 f0 w1 f1 told)
    → IsActed config event log did old new × ((told : List ℕ) × Tells line config event log did told × Prints w0 f0 w1 f1 told)
told_of_tells line config event log did old new w0 w1 f0 f1 (acted, (told, is, put)) = (acted, (told, inl is, put))

-- The same for an event that is equal to this Bytes.
pub bytes_tell_of_equal : (line : ℕ) (config : Config) (event : PlainEvent) (log : List Act) (did : Result Did Refused) (old new : State)
    (w0 w1 : Option (List ℕ)) (f0 f1 : Bool) (n c : ℕ) (piece : List ℕ) → event ≡ Bytes c piece → n ≡ c
    → IsActed config (Bytes n piece) log did old new
    × ((told : List ℕ) × Tells line config (Bytes n piece) log did told × Prints w0 f0 w1 f1 told)
    → IsActed config event log did old new × ((told : List ℕ) × Tells line config event log did told × Prints w0 f0 w1 f1 told)
bytes_tell_of_equal line config event log did old new w0 w1 f0 f1 n c piece is same told = subst (λ (e : PlainEvent).
    IsActed config e log did old new × ((told : List ℕ) × Tells line config e log did told × Prints w0 f0 w1 f1 told))
    (ap (λ (k : ℕ). Bytes k piece) same ∙ sym is) told

-- The bytes were refused.
pub bytes_refused : (line : ℕ) (config : Config) (c : ℕ) (piece : List ℕ) (log : List Act) (refused : Refused) (old new : State)
    (w0 w1 : Option (List ℕ)) (f0 f1 : Bool)
    → Acts config (Bytes c piece) log (Err refused) new → new ≡ old → Prints w0 f0 w1 f1 (head_line line (clock_at config log))
    → IsActed config (Bytes c piece) log (Err refused) old new
    × ((told : List ℕ) × Tells line config (Bytes c piece) log (Err refused) told × Prints w0 f0 w1 f1 told)
bytes_refused line config c piece log refused old new w0 w1 f0 f1 acts same put = (
  (subst (λ (s : State). Acts config (Bytes c piece) log (Err refused) s) same acts, same),
  (
    head_line line (clock_at config log),
    inl (sym (append-nil (head_line line (clock_at config log)))),
    put,
  ),
)

-- ---- the explanation and the replay

-- The server stands for the longer history.
acted_stands : (config : Config) (history : List PlainEvent) (event : PlainEvent) (did : Result Did Refused) (old new : State)
    → (s : StandsFor old config history) → IsEvent event → IsActed config event s.log did old new
    → StandsFor new config (history_after event did history)
acted_stands config history event (Ok what) old new s is (free, does, settles) = stands_acted config history event old new s is free settles
acted_stands config history event (Err refused) old new s is (acts, same) = subst (λ (st : State). StandsFor st config history) (sym same) s

-- The result is the one that the log determines.
acted_answers : (config : Config) (event : PlainEvent) (log : List Act) (did : Result Did Refused) (old new : State)
    → Represents old config log → IsActed config event log did old new → Answers config event log did
acted_answers config event log (Ok what) old new rep (free, does, settles) =
    let (channel_log, tells) = channel_log_exists old.device config (device_acts log) rep.device in
    (channel_log, tells, (free channel_log tells, does))
acted_answers config event log (Err refused) old new rep (acts, same) = answers_by_log config event log (Err refused) old old rep acts

-- The explanation is the same for an equal log and an equal result.
told_of_equal : (line : ℕ) (config : Config) (event : PlainEvent) (a b : List Act) (did so : Result Did Refused) (told : List ℕ)
    → b ≡ a → so ≡ did → Told line config event a did told → Told line config event b so told
told_of_equal line config event a b did so told e f is =
    subst (λ (l : List Act). Told line config event l so told) (sym e)
    (subst (λ (r : Result Did Refused). Told line config event a r told) (sym f) is)

-- An explained replay of the event leads to this state, and appends what it writes to the writer's
-- contents.
abbrev pub LeftByExplain : Config → ℕ → List PlainEvent → PlainEvent → Result ⊤ ReplayFault → State → Option (List ℕ) → Option (List ℕ)
    → Type 0
LeftByExplain config line history event fault new first last = (text : List ℕ) × (after : List PlainEvent)
    × Explains config line history event fault text after × StandsFor new config after × Appends first last text

-- A Tick at which nothing is due has no explanation.
pub still_tick_is_explained : (config : Config) (line : ℕ) (history : List PlainEvent) (event : PlainEvent) (old : State)
    (w0 w1 : Option (List ℕ))
    (s : StandsFor old config history)
    → IsStillTick config event s.log → (fault : Result ⊤ ReplayFault) (new : State) (text : List ℕ) (after : List PlainEvent)
    → Replays config history event fault text after → StandsFor new config after → Appends w0 w1 text
    → LeftByExplain config line history event fault new w0 w1
still_tick_is_explained config line history event old w0 w1 s still fault new text after replays stands put = (
  text,
  after,
  record {
    told = [];
    part = [];
    printed = text;
    replays = replays;
    tells = inl (
      subst (λ (l : List Act). IsStillTick config event l) (one_log config history s.log replays.before s.is_log replays.is_before) still,
      refl,
    );
    front = ([], refl);
    whole = inl refl;
    text_is = refl;
  },
  stands,
  put,
)

module _ (config : Config) (line : ℕ) (history : List PlainEvent) (event : PlainEvent) (did : Result Did Refused)
    (old mid : State) (w0 w1 : Option (List ℕ)) where
  -- The writer took the whole explanation, and then what it took of the replay.
  pub explained : (s : StandsFor old config history) → (told : List ℕ) → Told line config event s.log did told → Appends w0 w1 told
      → (fault : Result ⊤ ReplayFault) (new : State) (w2 : Option (List ℕ))
      → Left config history event s.log did fault new w1 w2 → LeftByExplain config line history event fault new w0 w2
  explained s told is first fault new w2 (text, after, replays, same, also, stands, more) = (
    told ++ text,
    after,
    record {
      told = told;
      part = told;
      printed = text;
      replays = replays;
      tells = told_of_equal line config event s.log replays.before did replays.did told same also is;
      front = ([], sym (append-nil told));
      whole = inl refl;
      text_is = refl;
    },
    stands,
    appends_then w0 w1 w2 told text first more,
  )

  -- The writer failed in the explanation.
  pub explained_part : (s : StandsFor old config history) → IsEvent event → IsActed config event s.log did old mid
      → (told part : List ℕ) → Told line config event s.log did told → IsFront part told → Appends w0 w1 part
      → LeftByExplain config line history event (Err Write) mid w0 w1
  explained_part s is_event acted told part is front put =
      let stands = acted_stands config history event did old mid s is_event acted in
      let (channel_log, tells) = channel_log_exists mid.device config (device_acts stands.log) stands.represents.device in (
        part,
        history_after event did history,
        record {
          told = told;
          part = part;
          printed = [];
          replays = record {
            before = s.log;
            is_before = s.is_log;
            did = did;
            answers = acted_answers config event s.log did old mid s.represents acted;
            log = stands.log;
            is_log = stands.is_log;
            channel_log = channel_log;
            tells = tells;
            writes = inl ((head_of did, refl), refl);
          };
          tells = is;
          front = front;
          whole = inr (refl, refl);
          text_is = sym (append-nil part);
        },
        stands,
        put,
      )

  -- Every event but such a Tick, by whether the writer failed in the explanation.
  pub explained_acted : (s : StandsFor old config history) → (IsStillTick config event s.log → ⊥) → IsEvent event
      → IsActed config event s.log did old mid
      → (failed : Bool) → (told : List ℕ) × Tells line config event s.log did told × Prints w0 false w1 failed told
      → failed ≡ true → LeftByExplain config line history event (Err Write) mid w0 w1
  explained_acted s loud is_event acted true (told, tells, (part, front, put)) e =
      explained_part s is_event acted told part (inr (loud, tells)) front put
  explained_acted s loud is_event acted false told e = absurd cc

  pub explained_whole : (s : StandsFor old config history) → (IsStillTick config event s.log → ⊥) → IsEvent event
      → IsActed config event s.log did old mid
      → (failed : Bool) → (told : List ℕ) × Tells line config event s.log did told × Prints w0 false w1 failed told
      → failed ≡ false → (fault : Result ⊤ ReplayFault) (new : State) (w2 : Option (List ℕ))
      → (IsLogOf config history s.log → Answers config event s.log did → StandsFor mid config (history_after event did history)
      → Left config history event s.log did fault new w1 w2)
      → LeftByExplain config line history event fault new w0 w2
  explained_whole s loud is_event acted false (told, tells, put) e fault new w2 prints =
      explained s told (inr (loud, tells)) put fault new w2
      (prints s.is_log (acted_answers config event s.log did old mid s.represents acted)
      (acted_stands config history event did old mid s is_event acted))
  explained_whole s loud is_event acted true told e fault new w2 prints = absurd cc
