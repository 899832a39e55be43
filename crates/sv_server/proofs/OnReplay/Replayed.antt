-- The replay of an event writes the line of its refusal, if it is refused, and then the lines of
-- the ports.
use Rattle.std.proofs.Common.{◌≡◌, ◌≢◌, ℕ, true, false, List, ◌++◌, Option, refl, sym, ap, inl, inr, ◌∙◌, append-nil}
use Rattle.std.specs.Prelude.{Result, Ok, Err, ⊤}
use Rattle.std.specs.Io.KnownBytes.{Appends}
use Rattle.sv_history.specs.declared.event.Config.{Config}
use Rattle.sv_history.specs.declared.event.Did.{Did}
use Rattle.sv_history.specs.declared.event.Refused.{Refused}
use Rattle.sv_history.specs.declared.event.Refused.TheVariants as refused
use Rattle.sv_print.specs.declared.writing.WriteFault.{WriteFault}
use Rattle.sv_server.specs.declared.replay.ReplayFault.{ReplayFault}
use Rattle.sv_server.specs.declared.replay.ReplayFault.TheVariants.{NoMemory, Write}
use Rattle.sv_history.specs.Event.{PlainEvent}
use Rattle.sv_links.specs.Channels.{ChannelAct}
use Rattle.sv_history.specs.Act.{Act, device_acts}
use Rattle.sv_history.specs.History.{IsLogOf, Answers, history_after}
use Rattle.sv_server.specs.Server.State.{State, StandsFor}
use Rattle.sv_print.specs.TakenByWriter.{IsTakenByWriter}
use Rattle.sv_history.specs.Print.{ports, ports_after, with_tooks, head_of, refusal_line, is_no_memory}
use Rattle.sv_server.specs.Replay.Replays.{IsReplayWritten}
use Rattle.sv_server.specs.Replay.Inside.Showing.{StandsBy, ShowsAll, Left}
use Rattle.sv_server.proofs.OnServer.Steps.{channel_log_exists}
use Rattle.sv_print.proofs.Taking.{appends_then}

-- The result of writing, as the result of the replay.
abbrev pub IsWriteResult : Result ⊤ WriteFault → Result ⊤ ReplayFault → Type 0
IsWriteResult (Ok all) fault = fault ≡ Ok tt
IsWriteResult (Err e) fault = fault ≡ Err Write

-- The result of the event is the one that the history determines.
abbrev pub AnswersNow : Config → List PlainEvent → PlainEvent → Result Did Refused → Type 0
AnswersNow config history event did = (log : List Act) × IsLogOf config history log × Answers config event log did

-- The lines of the ports were written after the line of the refusal.
replay_writes_lines : (did : Result Did Refused) (channel_log : List ChannelAct) (log : List Act) (history : List PlainEvent)
    (r : Result ⊤ WriteFault)
    (fault : Result ⊤ ReplayFault)
    (config : Config) (new : State) (head text : List ℕ)
    → did ≢ Err refused.NoMemory → ports_after did ≡ ports → head ≡ head_of did → IsWriteResult r fault
    → ShowsAll config history channel_log log r new text → (after : List PlainEvent) × (so : List ChannelAct) × (now : List Act)
    × IsReplayWritten did channel_log log history fault (head ++ text) after × StandsBy new config after so now
replay_writes_lines did channel_log log history (Ok all) fault config new head text some shown is came (lines, so, now, stands) =
    (with_tooks channel_log ports log history, so, now, rw (came, is, lines, shown) (some, refl, refl), stands)
replay_writes_lines did channel_log log history (Err e) fault config new head text some shown is came
    (first, others, part, split, front, lines, so, now, stands) = (
      with_tooks channel_log first log history,
      so,
      now,
      rw came (inr (
        first,
        others,
        part,
        shown ∙ split,
        front,
        ap (λ (l : List ℕ). l ++ text) is ∙ ap (λ (l : List ℕ). head_of did ++ l) lines,
        refl,
      )),
      stands,
    )

pub replay_shown : (config : Config) (history : List PlainEvent) (event : PlainEvent) (did : Result Did Refused) (mid new : State)
    (head : List ℕ) (first put last : Option (List ℕ)) (r : Result ⊤ WriteFault)
    (fault : Result ⊤ ReplayFault) → did ≢ Err refused.NoMemory → ports_after did ≡ ports → head ≡ head_of did → IsWriteResult r fault
    → (answers : AnswersNow config history event did) → StandsFor mid config (history_after event did history) → Appends first put head
    → ((h : List PlainEvent) (channel_log : List ChannelAct) (log : List Act) → StandsBy mid config h channel_log log
    → (text : List ℕ) × Appends put last text × ShowsAll config h channel_log log r new text)
    → Left config history event answers.0 did fault new first last
replay_shown config history event did mid new head first put last r fault some shown is came answers s begun shows =
    let (channel_log, tells) = channel_log_exists mid.device config (device_acts s.log) s.represents.device in
    let (text, more, all) = shows (history_after event did history) channel_log s.log (s.is_log, s.represents, s.settled, tells) in
    let (after, so, now, writes, stands) = replay_writes_lines did channel_log s.log
    (history_after event did history) r fault config new head text some shown is came all in (
      head ++ text,
      after,
      record {
        before = answers.0;
        is_before = answers.1;
        did = did;
        answers = answers.2;
        log = s.log;
        is_log = s.is_log;
        channel_log = channel_log;
        tells = tells;
        writes = writes;
      },
      refl,
      refl,
      record { log = now; is_log = stands.0; represents = stands.1; settled = stands.2 },
      appends_then first put last head text begun more,
    )

-- The writer failed in the line of a refusal.
pub replay_stopped : (config : Config) (history : List PlainEvent) (event : PlainEvent) (refusal : Refused) (mid : State)
    (first last : Option (List ℕ)) (e : WriteFault) (fault : Result ⊤ ReplayFault)
    → fault ≡ Err Write → (answers : AnswersNow config history event (Err refusal)) → StandsFor mid config history
    → IsTakenByWriter first last (Err e) (refusal_line refusal) → Left config history event answers.0 (Err refusal) fault mid first last
replay_stopped config history event refusal mid first last e fault came answers s (part, front, begun) = (
  part,
  history,
  record {
    before = answers.0;
    is_before = answers.1;
    did = Err refusal;
    answers = answers.2;
    log = s.log;
    is_log = s.is_log;
    channel_log = (channel_log_exists mid.device config (device_acts s.log) s.represents.device).0;
    tells = (channel_log_exists mid.device config (device_acts s.log) s.represents.device).1;
    writes = rw came (inl (front, refl));
  },
  refl,
  refl,
  s,
  begun,
)

pub replay_no_memory : (config : Config) (history : List PlainEvent) (event : PlainEvent) (refusal : Refused) (mid : State)
    (first last : Option (List ℕ)) → is_no_memory refusal ≡ true
    → (answers : AnswersNow config history event (Err refusal)) → StandsFor mid config history → Appends first last (refusal_line refusal)
    → Left config history event answers.0 (Err refusal) (Err NoMemory) mid first last
replay_no_memory config history event refused.NoMemory mid first last is answers s took = (
  refusal_line refused.NoMemory,
  history,
  record {
    before = answers.0;
    is_before = answers.1;
    did = Err refused.NoMemory;
    answers = answers.2;
    log = s.log;
    is_log = s.is_log;
    channel_log = (channel_log_exists mid.device config (device_acts s.log) s.represents.device).0;
    tells = (channel_log_exists mid.device config (device_acts s.log) s.represents.device).1;
    writes = (refl, sym (append-nil (refusal_line refused.NoMemory)), refl);
  },
  refl,
  refl,
  s,
  took,
)
replay_no_memory config history event _ mid first last is answers s took = absurd cc

-- The result of a refused event.
abbrev pub refuses : Refused → Result Did Refused
refuses refusal = Err refusal

pub other_refusal : (refusal : Refused) → is_no_memory refusal ≡ false
    → (refuses refusal ≢ refuses refused.NoMemory) × (ports_after (Err refusal) ≡ ports)
other_refusal refused.NoMemory h = absurd cc
other_refusal _ h = (λ e. cc, refl)
