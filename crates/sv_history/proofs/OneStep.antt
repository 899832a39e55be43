-- At most one step of the server is due, and it has only one result.
use Rattle.std.proofs.Common.{◌≡◌, ℕ, ◌+◌, List, ◌++◌, Some, None, sym, ap, ◌∙◌, inl, inr}
use Rattle.std.specs.Prelude.{map}
use Rattle.std.proofs.lemmas.List.{append_cancel_right}
use Rattle.sv_links.specs.declared.waiting.Wait.{Wait}
use Rattle.sv_links.specs.Waiting.{WaitAct, waits, IsExpired}
use Rattle.sv_links.proofs.OneOldest.{oldest_unique}
use Rattle.sv_layers.specs.Act.{Act as InstrumentAct}
use Rattle.sv_layers.specs.StatusByte.{PolledBit}
use Rattle.sv_layers.proofs.PolledByte.{one_word}
use Rattle.sv_instrument.specs.Stimulus.{IsFired}
use Rattle.sv_instrument.specs.Step.{IsStep}
use Rattle.sv_instrument.proofs.OneStep.{one_step}
use Rattle.sv_history.specs.declared.event.Config.{Config}
use Rattle.sv_history.specs.Act.{Act, DeviceAct, Applied, OnDevice, of, device_acts, wait_acts, instrument_acts, ticks}
use Rattle.sv_history.specs.PolledStatus.{IsPolled}
use Rattle.sv_history.specs.Settling.{First, InstrumentDoes, CanResume, Resumes, TimesOut, IsNext}
use Rattle.sv_history.specs.Connection.{pending_call}
use Rattle.sv_history.specs.Request.{core_call_in}
use Rattle.sv_history.specs.Effect.{acts_of}
use Rattle.sv_history.specs.Resuming.{resume_effect, failure_effect, late}
use Rattle.std.proofs.lemmas.Option.{same_Some}

first_step_unique : (A B : List Act → Type 0) → ((x y : List Act) → A x → A y → x ≡ y) → ((x y : List Act) → B x → B y → x ≡ y)
    → (x y : List Act) → First A B x → First A B y → x ≡ y
first_step_unique A B one other x y (inl a) (inl b) = one x y a b
first_step_unique A B one other x y (inl a) (inr b) = absurd (b.0 x a)
first_step_unique A B one other x y (inr a) (inl b) = absurd (a.0 y b)
first_step_unique A B one other x y (inr a) (inr b) = other x y a.1 b.1

fired_unique : (log a b : List InstrumentAct) → IsFired log a → IsFired log b → a ≡ b
fired_unique log a b x y = x.1 ∙ sym y.1

instrument_step_unique : (IsSuch : List InstrumentAct → List InstrumentAct → Type 0)
    → ((log a b : List InstrumentAct) → IsSuch log a → IsSuch log b → a ≡ b)
    → (log x y : List Act) → InstrumentDoes IsSuch log x → InstrumentDoes IsSuch log y → x ≡ y
instrument_step_unique IsSuch once log x y (first, a, is) (second, b, same) =
    let one = append_cancel_right first second (instrument_acts (device_acts log)) (once (instrument_acts (device_acts log)) _ _ a b) in
    is ∙ ap (λ (adds : List InstrumentAct). map OnDevice (map Applied adds) ++ log) one ∙ sym same

-- The log after a suspended call resumes, and after one times out.
abbrev pub log_after_resume : Config → List Act → ℕ → ℕ → Wait → List Act
log_after_resume config log polled c wait =
    acts_of c (resume_effect config polled c wait (core_call_in (pending_call (of c log))) (device_acts log)) ++ log

abbrev pub log_after_timeout : List Act → ℕ → Wait → List Act
log_after_timeout log c wait = acts_of c (failure_effect (late wait) c (core_call_in (pending_call (of c log)))) ++ log

word_of : (acts : List DeviceAct) (a b : ℕ) → IsPolled a acts → IsPolled b acts → a ≡ b
word_of acts a b x y = one_word (λ k. PolledBit k (instrument_acts acts)) a b x y

-- A call that can resume is suspended.
able_waits : (acts : List DeviceAct) (c : ℕ) → CanResume acts c → waits c (wait_acts acts) ≡ None → ⊥
able_waits acts c able none = absurd (let z = rw none at able in cc)

expired_waits : (clock : ℕ) (acts : List WaitAct) (c : ℕ) → IsExpired clock acts c → waits c acts ≡ None → ⊥
expired_waits clock acts c (wait, last, for, until, past) none = let z : Some wait ≡ None = sym for ∙ none in cc

-- The oldest call and its wait are unique.
same_call : {A : Type 0} (acts : List WaitAct) (c d : ℕ) (for what : Wait) (f : ℕ → Wait → A) → c ≡ d → waits c acts ≡ Some for
    → waits d acts ≡ Some what → f c for ≡ f d what
same_call acts c d for what f one x y =
    let same : for ≡ what = same_Some for what (sym x ∙ ap (λ (e : ℕ). waits e acts) one ∙ y) in
    ap (λ (e : ℕ). f e for) one ∙ ap (f d) same

resumes_unique : (config : Config) (log x y : List Act) → Resumes config log x → Resumes config log y → x ≡ y
resumes_unique config log x y (c, wait, polled, oldest, for, said, is) (d, other, byte, first, what, told, same) =
    let one : c ≡ d = same_Some c d (oldest_unique (wait_acts (device_acts log)) (CanResume (device_acts log)) (Some c) (Some d)
    (able_waits (device_acts log)) oldest first) in
    let word : polled ≡ byte = word_of (device_acts log) polled byte said told in
    is ∙ same_call (wait_acts (device_acts log)) c d wait other (λ e w. log_after_resume config log polled e w) one for what
    ∙ ap (λ (b : ℕ). log_after_resume config log b d other) word ∙ sym same

times_out_unique : (config : Config) (log x y : List Act) → TimesOut config log x → TimesOut config log y → x ≡ y
times_out_unique config log x y (c, wait, oldest, for, is) (d, other, first, what, same) =
    let clock = config.clock + ticks (device_acts log) in
    let one : c ≡ d = same_Some c d (oldest_unique (wait_acts (device_acts log)) (IsExpired clock (wait_acts (device_acts log))) (Some c)
    (Some d)
    (expired_waits clock (wait_acts (device_acts log))) oldest first) in
    is ∙ same_call (wait_acts (device_acts log)) c d wait other (λ e w. log_after_timeout log e w) one for what ∙ sym same

pub next_step_unique : (config : Config) (log a b : List Act) → IsNext config log a → IsNext config log b → a ≡ b
next_step_unique config log = first_step_unique _ _ (instrument_step_unique IsFired fired_unique log)
    (first_step_unique _ _ (resumes_unique config log)
    (first_step_unique _ _ (instrument_step_unique IsStep one_step log) (times_out_unique config log)))
