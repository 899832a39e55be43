-- Steps that are due, one after the other: each adds acts to the log, and after the last one no
-- step is due.
use Rattle.std.proofs.Common.{◌≡◌, ℕ, zero, suc, List, [], ◌∷◌, ◌++◌, sym, ap, subst, ◌∙◌, inl, inr, append_assoc}
use Rattle.std.specs.Prelude.{map}
use Rattle.sv_instrument.specs.Stimulus.{IsFired}
use Rattle.sv_instrument.specs.Step.{IsStep}
use Rattle.sv_history.specs.declared.event.Config.{Config}
use Rattle.sv_history.specs.Event.{PlainEvent}
use Rattle.sv_history.specs.Act.{Act, OnDevice, Applied}
use Rattle.sv_history.specs.Settling.{InstrumentDoes, Resumes, TimesOut, IsNext, IsSettled, SettlesIn}
use Rattle.sv_history.specs.History.{IsLogOf}
use Rattle.sv_history.proofs.StillSettled.{settling_ends_settled, empty_log_is_settled}

-- ---- each step adds acts

abbrev pub Extends : List Act → List Act → Type 0
Extends log new = (adds : List Act) × (new ≡ adds ++ log)

pub next_extends : (config : Config) (log new : List Act) → IsNext config log new → Extends log new
next_extends config log new (inl fires) = (map OnDevice (map Applied fires.0), fires.2)
next_extends config log new (inr (none, inl resumes)) = (_, resumes.6)
next_extends config log new (inr (none, inr (still, inl step))) = (map OnDevice (map Applied step.0), step.2)
next_extends config log new (inr (none, inr (still, inr (idle, times)))) = (_, times.4)

pub extends_then : (log mid new : List Act) → Extends log mid → Extends mid new → Extends log new
extends_then log mid new one other =
    (other.0 ++ one.0, other.1 ∙ ap (λ (l : List Act). other.0 ++ l) one.1 ∙ sym (append_assoc other.0 one.0 log))

pub settles_extends : (n : ℕ) (config : Config) (log new : List Act) → SettlesIn n config log new → Extends log new
settles_extends zero config log new (none, same) = ([], same)
settles_extends (suc n) config log new (middle, next, more) =
    extends_then log middle new (next_extends config log middle next) (settles_extends n config middle new more)

-- ---- after the last step none is due

pub log_settled : (config : Config) (history : List PlainEvent) (log : List Act) → IsLogOf config history log → IsSettled config log
log_settled config [] log (given, none) = subst (λ (end : List Act). IsSettled config end) (sym none) (empty_log_is_settled config)
log_settled config (event ∷ history) log (before, polled, channel_log, is_event, was, hears, free, said, settles) =
    settling_ends_settled settles.0 config _ log settles.1

-- If no step is due, the log stays as it is.
pub settled_log_stays : (n : ℕ) (config : Config) (log new : List Act) → IsSettled config log → SettlesIn n config log new → new ≡ log
settled_log_stays zero config log new none (still, same) = same
settled_log_stays (suc n) config log new none (middle, next, more) = absurd (none middle next)

-- ---- if no step is due, no step of any kind is possible

pub record Rested (config : Config) (log : List Act) : Type 0 where
  pub fires : (new : List Act) → InstrumentDoes IsFired log new → ⊥
  pub resumes : (new : List Act) → Resumes config log new → ⊥
  pub steps : (new : List Act) → InstrumentDoes IsStep log new → ⊥
  pub times : (new : List Act) → TimesOut config log new → ⊥

pub settled_is_rested : (config : Config) (log : List Act) → IsSettled config log → Rested config log
settled_is_rested config log none =
    let fires : (new : List Act) → InstrumentDoes IsFired log new → ⊥ = λ new does. none new (inl does) in
    let resumes : (new : List Act) → Resumes config log new → ⊥ = λ new does. none new (inr (fires, inl does)) in
    let steps : (new : List Act) → InstrumentDoes IsStep log new → ⊥ = λ new does. none new (inr (fires, inr (resumes, inl does))) in
    record {
      fires = fires;
      resumes = resumes;
      steps = steps;
      times = λ new does. none new (inr (fires, inr (resumes, inr (steps, does))));
    }

-- ---- steps that lead from one log to another

-- Every log that `mid` settles to is one that `log` settles to.
abbrev pub Reaches : Config → List Act → List Act → Type 0
Reaches config log mid = (n : ℕ) (new : List Act) → SettlesIn n config mid new → (m : ℕ) × SettlesIn m config log new

pub reaches_none : (config : Config) (log : List Act) → Reaches config log log
reaches_none config log = λ n new s. (n, s)

pub reaches_next : (config : Config) (log mid : List Act) → IsNext config log mid → Reaches config log mid
reaches_next config log mid next = λ n new s. (suc n, (mid, next, s))

pub reaches_then : (config : Config) (log mid last : List Act) → Reaches config log mid → Reaches config mid last → Reaches config log last
reaches_then config log mid last one other = λ n new s. let there = other n new s in one there.0 new there.1
