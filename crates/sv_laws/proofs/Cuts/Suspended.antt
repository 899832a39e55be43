-- When no step is due, a call is suspended, and it can't resume yet. Then the only step that can be
-- due is that this call times out.
use Rattle.std.proofs.Common.{◌≡◌, ◌≢◌, ℕ, ◌+◌, Bool, true, false, eqb, List, ◌∷◌, ◌++◌, Option, Some, None, refl, sym, ap, subst, ◌∙◌, inl, inr, eq-eqb}
use Rattle.std.specs.Prelude.{map, not}
use Rattle.std.proofs.lemmas.Bool.{cases_eq, ne_eqb}
use Rattle.sv_links.specs.declared.waiting.Wait.{Wait}
use Rattle.sv_links.specs.Links.{holder}
use Rattle.sv_links.specs.Waiting.{WaitAct, Entered, waits, is_there, IsExpired, IsOldest}
use Rattle.sv_layers.specs.Act.{Act as InstrumentAct}
use Rattle.sv_instrument.specs.Stimulus.{IsFired}
use Rattle.sv_instrument.specs.Step.{IsStep, is_answerable}
use Rattle.sv_exchange.specs.Exchange.{has_ended}
use Rattle.sv_history.specs.declared.event.Config.{Config}
use Rattle.sv_history.specs.Act.{Act, CallTaken, Waited, Applied, On, OnDevice, device_acts, link_acts, wait_acts, instrument_acts, exchange_acts, ticks}
use Rattle.sv_history.specs.Settling.{InstrumentDoes, CanResume, Resumes, TimesOut, IsNext, IsSettled}
use Rattle.sv_history.proofs.OneStep.{log_after_resume, log_after_timeout}
use Rattle.sv_laws.proofs.EveryLog.Steps.{Rested, settled_is_rested}

-- ---- the oldest suspended call

oldest_before : (c : ℕ) (named : Option ℕ) (wait : Wait) (last : Option ℕ) (acts : List WaitAct) (IsSuch IsSo : ℕ → Type 0) (d : ℕ)
    → d ≢ c → (IsSuch d → IsSo d) → ((e : ℕ) → IsSo e → e ≢ c) → ((e : ℕ) → e ≢ c → IsSo e → IsSuch e)
    → IsOldest (Entered c named wait last ∷ acts) IsSuch (Some d) → IsOldest acts IsSo (Some d)
oldest_before c named wait last acts IsSuch IsSo d ne to apart back (such, first) = (
  to such,
  (λ e so.
      let one : eqb c d ≡ false = ne_eqb c d (λ k. ne (sym k)) in
      let other : eqb c e ≡ false = ne_eqb c e (λ k. apart e so (sym k)) in
      rw (one, other) at (first e (back e (apart e so) so))),
)

-- ---- the steps

-- The log after this call was taken and suspended.
abbrev pub log_with_suspended : ℕ → List ℕ → Option ℕ → Wait → Option ℕ → List Act → List Act
log_with_suspended c call named wait last base = OnDevice (Waited (Entered c named wait last)) ∷ On c (CallTaken call) ∷ base

-- Whether a call with this wait and this link could resume.
abbrev pub is_there_in : Option ℕ → Wait → List Act → Bool
is_there_in named wait log = is_there (holder (link_acts (device_acts log))) (not (has_ended (exchange_acts (device_acts log))))
    (is_answerable (instrument_acts (device_acts log))) named (Some wait)

does_before : (IsSuch : List InstrumentAct → List InstrumentAct → Type 0) (c : ℕ) (call : List ℕ) (named : Option ℕ) (wait : Wait)
    (last : Option ℕ) (base new : List Act) → InstrumentDoes IsSuch (log_with_suspended c call named wait last base) new
    → (there : List Act) × InstrumentDoes IsSuch base there
does_before IsSuch c call named wait last base new (adds, such, is) = (map OnDevice (map Applied adds) ++ base, (adds, such, refl))

-- No call can resume after the new call was suspended.
none_resumes : (config : Config) (c : ℕ) (call : List ℕ) (named : Option ℕ) (wait : Wait) (last : Option ℕ) (base new : List Act)
    → Rested config base → waits c (wait_acts (device_acts base)) ≡ None → is_there_in named wait base ≡ false
    → Resumes config (log_with_suspended c call named wait last base) new → ⊥
none_resumes config c call named wait last base new rest free there (d, for, polled, oldest, waits_for, said, is) =
    elim (cases_eq d c) [
      | inl same ↦
          let able : CanResume (device_acts (log_with_suspended c call named wait last base)) c =
          subst (λ (n : ℕ). CanResume (device_acts (log_with_suspended c call named wait last base)) n) same oldest.0 in
          let z : true ≡ false = sym (rw (eq-eqb c c refl) at able) ∙ there in cc
      | inr ne ↦
          let apart : eqb c d ≡ false = ne_eqb c d (λ k. ne (sym k)) in
          rest.resumes (log_after_resume config base polled d for) (
            d,
            for,
            polled,
            oldest_before c named wait last (wait_acts (device_acts base))
                (CanResume (device_acts (log_with_suspended c call named wait last base)))
                (CanResume (device_acts base)) d ne
                (λ able. rw apart at able)
                (λ e able same. not_able e able same)
                (λ e other able. rw (ne_eqb c e (λ k. other (sym k))) able)
                oldest,
            rw apart at waits_for,
            said,
            refl,
          )
    ]
  where
    not_able : (e : ℕ) → CanResume (device_acts base) e → e ≡ c → ⊥
    not_able e able same =
        let none : waits e (wait_acts (device_acts base)) ≡ None = ap (λ (n : ℕ). waits n (wait_acts (device_acts base))) same ∙ free in
        let z : false ≡ true = rw none at able in cc

-- If a call times out, it is the new one.
only_new_call_times_out : (config : Config) (c : ℕ) (call : List ℕ) (named : Option ℕ) (wait : Wait) (last : Option ℕ) (base new : List Act)
    → Rested config base → waits c (wait_acts (device_acts base)) ≡ None
    → TimesOut config (log_with_suspended c call named wait last base) new
    → new ≡ log_after_timeout (log_with_suspended c call named wait last base) c wait
only_new_call_times_out config c call named wait last base new rest free (d, for, oldest, waits_for, is) = elim (cases_eq d c) [
  | inl same ↦
      let here : waits c (wait_acts (device_acts (log_with_suspended c call named wait last base))) ≡ Some for =
      subst (λ (n : ℕ). waits n (wait_acts (device_acts (log_with_suspended c call named wait last base))) ≡ Some for) same waits_for in
      let what : Some wait ≡ Some for = rw (eq-eqb c c refl) at here in
      let one : for ≡ wait = cc in
      is ∙ ap (λ (n : ℕ). log_after_timeout (log_with_suspended c call named wait last base) n for) same
      ∙ ap (λ (w : Wait). log_after_timeout (log_with_suspended c call named wait last base) c w) one
  | inr ne ↦
      let apart : eqb c d ≡ false = ne_eqb c d (λ k. ne (sym k)) in
      let clock = config.clock + ticks (device_acts base) in
      absurd (rest.times (log_after_timeout base d for) (
        d,
        for,
        oldest_before c named wait last (wait_acts (device_acts base))
            (IsExpired clock (Entered c named wait last ∷ wait_acts (device_acts base)))
            (IsExpired clock (wait_acts (device_acts base))) d ne
            (λ late. (late.0, late.1, rw apart at late.2, rw apart at late.3, late.4))
            (λ e late same. not_late e late same)
            (λ e other late.
            let far : eqb c e ≡ false = ne_eqb c e (λ k. other (sym k)) in
            (late.0, late.1, rw far late.2, rw far late.3, late.4))
            oldest,
        rw apart at waits_for,
        refl,
      ))
]
  where
    not_late : (e : ℕ) → IsExpired (config.clock + ticks (device_acts base)) (wait_acts (device_acts base)) e → e ≡ c → ⊥
    not_late e late same =
        let z : Some late.0 ≡ None =
        sym late.2 ∙ ap (λ (n : ℕ). waits n (wait_acts (device_acts base))) same ∙ free in cc

pub only_its_timeout_is_due : (config : Config) (c : ℕ) (call : List ℕ) (named : Option ℕ) (wait : Wait) (last : Option ℕ)
    (base new : List Act)
    → IsSettled config base → waits c (wait_acts (device_acts base)) ≡ None → is_there_in named wait base ≡ false
    → IsNext config (log_with_suspended c call named wait last base) new
    → new ≡ log_after_timeout (log_with_suspended c call named wait last base) c wait
only_its_timeout_is_due config c call named wait last base new settled free there next =
    by_step (settled_is_rested config base settled) next
  where
    by_step : Rested config base → IsNext config (log_with_suspended c call named wait last base) new
        → new ≡ log_after_timeout (log_with_suspended c call named wait last base) c wait
    by_step rest (inl fires) =
        let was = does_before IsFired c call named wait last base new fires in absurd (rest.fires was.0 was.1)
    by_step rest (inr (none, inl resumes)) = absurd (none_resumes config c call named wait last base new rest free there resumes)
    by_step rest (inr (none, inr (still, inl step))) =
        let was = does_before IsStep c call named wait last base new step in absurd (rest.steps was.0 was.1)
    by_step rest (inr (none, inr (still, inr (idle, times)))) = only_new_call_times_out config c call named wait last base new rest free
        times
