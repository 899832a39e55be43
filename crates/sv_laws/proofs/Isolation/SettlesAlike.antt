-- The steps that settle the one log have their counterparts in the other, and the two logs stay
-- alike.
use Rattle.std.proofs.Common.{◌≡◌, ℕ, zero, suc, ◌+◌, Bool, true, false, List, [], ◌∷◌, ◌++◌, Option, Some, None, refl, sym, ap, subst, ◌∙◌, inl, inr, ◌⊎◌, append_assoc}
use Rattle.std.specs.Prelude.{map}
use Rattle.std.proofs.lemmas.Bool.{cases_eq}
use Rattle.sv_logs.proofs.Each.{Each, each_join}
use Rattle.sv_vxi.specs.Arguments.{is_create_link}
use Rattle.sv_links.specs.declared.waiting.Wait.{Wait}
use Rattle.sv_links.specs.declared.waiting.Wait.TheVariants.{Lock}
use Rattle.sv_links.specs.Links.{holder}
use Rattle.sv_links.specs.Waiting.{Left, waits, link, is_there, IsExpired}
use Rattle.sv_layers.specs.Act.{Act as InstrumentAct}
use Rattle.sv_instrument.specs.Stimulus.{IsFired}
use Rattle.sv_instrument.specs.Step.{IsStep}
use Rattle.sv_history.specs.declared.event.Config.{Config}
use Rattle.sv_history.specs.Act.{Act, ConnAct, Waited, Applied, OnDevice, of, device_acts, link_acts, wait_acts, ticks}
use Rattle.sv_history.specs.Connection.{pending_call}
use Rattle.sv_history.specs.CoreCall.{CoreCall}
use Rattle.sv_history.specs.CoreChannel.{own_call}
use Rattle.sv_history.specs.Request.{core_call_in}
use Rattle.sv_history.specs.PolledStatus.{IsPolled}
use Rattle.sv_history.specs.Effect.{Effect, acts_of, call_effect}
use Rattle.sv_history.specs.Resuming.{next_wait, resume_outcome, resume_effect, failure_effect, late}
use Rattle.sv_history.specs.Settling.{InstrumentDoes, CanResume, Resumes, IsNext, IsSettled, SettlesIn}
use Rattle.sv_laws.proofs.EveryLog.Fit.{Fit}
use Rattle.sv_laws.proofs.EveryLog.Done.{each_act_is_of_call}
use Rattle.sv_laws.proofs.EveryLog.EachEvent.{fit_step}
use Rattle.sv_laws.proofs.Isolation.Alike.{Pair, IsOwn, IsOwnAct, HoldsAfter, foreign_acts_keep_pair, same_acts_keep_pair}
use Rattle.sv_laws.proofs.SameOutcomes.{resumed_same}
use Rattle.sv_laws.proofs.Isolation.OthersEvents.{others_acts_are_foreign}
use Rattle.sv_laws.proofs.Isolation.OwnEvents.{each_effect, each_failed, own_acts_are_own, own_happened, same_ground, call_acts_are_own}
use Rattle.sv_laws.proofs.EveryLog.Due.{oldest_expired_exists}
use Rattle.sv_laws.proofs.EveryLog.Steps.{next_extends, settles_extends, Reaches, reaches_none, reaches_next, reaches_then}
use Rattle.sv_laws.proofs.Isolation.Draining.{NothingElse, own_call_can_resume_too, same_instrument_same_poll, own_call_is_oldest, others_cannot_resume, others_cannot_resume_either, no_fire, no_resume, nothing_else_in_other, IsOldestExpired, drain}

-- ---- one step

pub record Advanced (config : Config) (c lid : ℕ) (middle other : List Act) : Type 0 where
  pub after : List Act
  pub reaches : Reaches config other after
  pub pair : Pair c lid middle after
  pub fit : Fit after

abbrev LocksOver : ℕ → List Act → List Act → Type 0
LocksOver lid log middle = (acts : List Act) → middle ≡ acts ++ log → Each (HoldsAfter lid) acts log

-- The instrument takes the same step in both logs.
does_alike : (config : Config) (c lid : ℕ) (IsSuch : List InstrumentAct → List InstrumentAct → Type 0) (log middle other : List Act)
    → Fit other → Pair c lid log other → LocksOver lid log middle → InstrumentDoes IsSuch log middle
    → ((after : List Act) → InstrumentDoes IsSuch other after → IsNext config other after) → Advanced config c lid middle other
does_alike config c lid IsSuch log middle other also pair locks (adds, such, is) due =
    let new = map OnDevice (map Applied adds) in
    let next = due (new ++ other) (adds, subst (λ (l : List InstrumentAct). IsSuch l (adds ++ l)) pair.view.instrument such, refl) in
    record {
      after = new ++ other;
      reaches = reaches_next config other (new ++ other) next;
      pair = subst (λ (l : List Act). Pair c lid l (new ++ other)) (sym is)
          (same_acts_keep_pair c lid new log other (own_happened c adds log) (locks new is) pair);
      fit = fit_step config other (new ++ other) also next;
    }

-- While a link holds the lock, no create_link that waits for it can resume.
create_link_cannot_resume : (lid : ℕ) (named : Option ℕ) (wait : Option Wait) (writes reads : Bool) → named ≡ None → wait ≡ Some Lock
    → is_there (Some lid) writes reads named wait ≡ true → ⊥
create_link_cannot_resume lid named wait writes reads none lock there = let z : false ≡ true = rw (none, lock) at there in cc

resumed_call_makes_no_link : (c lid : ℕ) (log : List Act) (wait : Wait) (call : CoreCall) (found : Bool)
    → holder (link_acts (device_acts log)) ≡ Some lid → waits c (wait_acts (device_acts log)) ≡ Some wait
    → (is_create_link call.arguments ≡ true → (wait ≡ Lock) × (link c (wait_acts (device_acts log)) ≡ None))
    → CanResume (device_acts log) c → is_create_link call.arguments ≡ found → is_create_link call.arguments ≡ false
resumed_call_makes_no_link c lid log wait call false held for makes able is = is
resumed_call_makes_no_link c lid log wait call true held for makes able is =
    let so = makes is in
    absurd (create_link_cannot_resume lid (link c (wait_acts (device_acts log))) (waits c (wait_acts (device_acts log))) _ _ so.1
    (for ∙ ap (λ (w : Wait). Some w) so.0) (rw held at able))

own_continued : (config : Config) (polled c : ℕ) (call : CoreCall) (next : Option (Wait × ℕ)) (log : List Act)
    → is_create_link call.arguments ≡ false
    → Each (IsOwnAct c) (acts_of c (call_effect call.xid (resume_outcome config polled c call.arguments next (device_acts log)))) log
own_continued config polled c call (Some wait) log makes =
    each_effect c (own_acts_are_own c) (call_effect call.xid (resume_outcome config polled c call.arguments (Some wait) (device_acts log)))
    log
    (refl, tt)
own_continued config polled c call None log makes =
    let before = Waited (Left c) ∷ device_acts log in
    let what = own_call config polled c call.arguments before in
    each_effect c (own_acts_are_own c) (call_effect call.xid (resume_outcome config polled c call.arguments None (device_acts log))) log
    (each_join (λ before act. IsOwn c act) what.adds (Waited (Left c) ∷ []) (device_acts log)
    (call_acts_are_own c call.arguments what.adds before makes (each_act_is_of_call config polled c call.arguments before)) (refl, tt))

resumes_alike : (config : Config) (c lid polled : ℕ) (wait : Wait) (log middle other : List Act) → Fit log → Fit other
    → Pair c lid log other → LocksOver lid log middle
    → ((new : List Act) → InstrumentDoes IsFired log new → ⊥) → CanResume (device_acts log) c
    → waits c (wait_acts (device_acts log)) ≡ Some wait → IsPolled polled (device_acts log)
    → middle ≡ acts_of c (resume_effect config polled c wait (core_call_in (pending_call (of c log))) (device_acts log)) ++ log
    → Advanced config c lid middle other
resumes_alike config c lid polled wait log middle other fit also pair locks fire able for said is =
    let held = fit.held c wait for in
    let call = held.1.0 in
    let known = held.1.1 in
    let there : core_call_in (pending_call (of c other)) ≡ Some call =
    ap (λ (l : List ConnAct). core_call_in (pending_call l)) (sym pair.own) ∙ known in
    let makes = resumed_call_makes_no_link c lid log wait call _ pair.view.held for held.1.2 able refl in
    let effect = resume_effect config polled c wait (Some call) (device_acts log) in
    let now : middle ≡ acts_of c effect ++ log =
    is ∙ ap (λ (o : Option CoreCall). acts_of c (resume_effect config polled c wait o (device_acts log)) ++ log) known in
    let same : acts_of c effect ++ other
    ≡ acts_of c (resume_effect config polled c wait (core_call_in (pending_call (of c other))) (device_acts other)) ++ other =
    ap (λ (e : Effect). acts_of c e ++ other)
    (resumed_same config polled c wait call (device_acts log) (device_acts other) (inl makes)
    (same_ground c lid (device_acts log) (device_acts other) pair.view))
    ∙ ap (λ (o : Option CoreCall). acts_of c (resume_effect config polled c wait o (device_acts other)) ++ other) (sym there) in
    let next : IsNext config other (acts_of c effect ++ other) = inr (
      no_fire c lid log other pair fire,
      inl (
        c,
        wait,
        polled,
        own_call_is_oldest c (device_acts other) (others_cannot_resume_either c lid log other also pair)
            (own_call_can_resume_too c lid (device_acts log) (device_acts other) pair.view able),
        sym pair.view.call.wait ∙ for,
        same_instrument_same_poll polled (device_acts log) (device_acts other) pair.view.instrument said,
        same,
      ),
    ) in
    record {
      after = acts_of c effect ++ other;
      reaches = reaches_next config other (acts_of c effect ++ other) next;
      pair = subst (λ (l : List Act). Pair c lid l (acts_of c effect ++ other)) (sym now)
          (same_acts_keep_pair c lid (acts_of c effect) log other
          (own_continued config polled c call (next_wait wait call.arguments (device_acts log)) log makes)
          (locks (acts_of c effect) now) pair);
      fit = fit_step config other (acts_of c effect ++ other) also next;
    }

-- If the deadline of the connection's call has come in one log, it has come in the other.
expired_in_other_log : (config : Config) (c lid : ℕ) (log other : List Act) → Pair c lid log other
    → IsExpired (config.clock + ticks (device_acts log)) (wait_acts (device_acts log)) c
    → IsExpired (config.clock + ticks (device_acts other)) (wait_acts (device_acts other)) c
expired_in_other_log config c lid log other pair (wait, last, for, until, le) = rw (← pair.view.clock)
    (wait, last, sym pair.view.call.wait ∙ for, sym pair.view.call.until ∙ until, le)

expired_back : (config : Config) (c lid : ℕ) (log other : List Act) → Pair c lid log other
    → IsExpired (config.clock + ticks (device_acts other)) (wait_acts (device_acts other)) c
    → IsExpired (config.clock + ticks (device_acts log)) (wait_acts (device_acts log)) c
expired_back config c lid log other pair (wait, last, for, until, le) = rw pair.view.clock
    (wait, last, pair.view.call.wait ∙ for, pair.view.call.until ∙ until, le)

own_call_expires_first : (config : Config) (c : ℕ) (log : List Act) (found : Option ℕ) → IsOldestExpired config log found → (found ≡ None)
    ⊎ (found ≡ Some c)
    → IsExpired (config.clock + ticks (device_acts log)) (wait_acts (device_acts log)) c → IsOldestExpired config log (Some c)
own_call_expires_first config c log found due (inl none) expired =
    absurd ((subst (λ (o : Option ℕ). IsOldestExpired config log o) none due) c expired)
own_call_expires_first config c log found due (inr own) expired = subst (λ (o : Option ℕ). IsOldestExpired config log o) own due

times_alike : (config : Config) (c lid : ℕ) (wait : Wait) (log middle other : List Act) → Fit log → Fit other → Pair c lid log other
    → LocksOver lid log middle → NothingElse config log → IsOldestExpired config log (Some c)
    → waits c (wait_acts (device_acts log)) ≡ Some wait
    → middle ≡ acts_of c (failure_effect (late wait) c (core_call_in (pending_call (of c log)))) ++ log → Advanced config c lid middle other
times_alike config c lid wait log middle other fit also pair locks none due for is =
    let drained = drain config c lid log other none fit also pair in
    let last = drained.last in
    let first = own_call_expires_first config c last drained.found drained.due drained.is_own
    (expired_in_other_log config c lid log last drained.pair due.0) in
    let nothing = nothing_else_in_other config c lid log last fit drained.fit drained.pair none in
    let acts = acts_of c (failure_effect (late wait) c (core_call_in (pending_call (of c log)))) in
    let same : acts ++ last ≡ acts_of c (failure_effect (late wait) c (core_call_in (pending_call (of c last)))) ++ last =
    ap (λ (l : List ConnAct). acts_of c (failure_effect (late wait) c (core_call_in (pending_call l))) ++ last) drained.pair.own in
    let next : IsNext config last (acts ++ last) = inr (
      nothing.0,
      inr (
        nothing.1,
        inr (
          nothing.2,
          (c, wait, first, sym drained.pair.view.call.wait ∙ for, same),
        ),
      ),
    ) in
    record {
      after = acts ++ last;
      reaches = reaches_then config other last (acts ++ last) drained.reaches (reaches_next config last (acts ++ last) next);
      pair = subst (λ (l : List Act). Pair c lid l (acts ++ last)) (sym is)
          (same_acts_keep_pair c lid acts log last
          (each_failed c (own_acts_are_own c) (late wait) (core_call_in (pending_call (of c log))) log) (locks acts is)
          drained.pair);
      fit = fit_step config last (acts ++ last) drained.fit next;
    }

pub step_has_counterpart : (config : Config) (c lid : ℕ) (log middle other : List Act) → Fit log → Fit other → Pair c lid log other
    → LocksOver lid log middle → IsNext config log middle → Advanced config c lid middle other
step_has_counterpart config c lid log middle other fit also pair locks (inl fires) =
    does_alike config c lid IsFired log middle other also pair locks fires (λ after does. inl does)
step_has_counterpart config c lid log middle other fit also pair locks (inr (fire, inl (d, wait, polled, oldest, for, said, is))) =
    elim (cases_eq d c) [
      | inl e ↦ resumes_alike config c lid polled wait log middle other fit also pair locks fire
          (subst (λ (n : ℕ). CanResume (device_acts log) n) e oldest.0)
          (subst (λ (n : ℕ). waits n (wait_acts (device_acts log)) ≡ Some wait) e for) said
          (subst (λ (n : ℕ).
          middle ≡ acts_of n (resume_effect config polled n wait (core_call_in (pending_call (of n log))) (device_acts log)) ++ log) e is)
      | inr ne ↦ absurd (others_cannot_resume c lid log other fit pair d ne oldest.0)
    ]
step_has_counterpart config c lid log middle other fit also pair locks (inr (fire, inr (resume, inl step))) =
    does_alike config c lid IsStep log middle other also pair locks step (λ after does.
    inr (no_fire c lid log other pair fire, inr (no_resume config c lid log other fit also pair resume, inl does)))
step_has_counterpart config c lid log middle other fit also pair locks (inr (fire, inr (resume, inr (step, (d, wait, due, for, is))))) =
    elim (cases_eq d c) [
      | inl e ↦ times_alike config c lid wait log middle other fit also pair locks (fire, resume, step)
          (subst (λ (n : ℕ). IsOldestExpired config log (Some n)) e due)
          (subst (λ (n : ℕ). waits n (wait_acts (device_acts log)) ≡ Some wait) e for)
          (subst (λ (n : ℕ). middle ≡ acts_of n (failure_effect (late wait) n (core_call_in (pending_call (of n log)))) ++ log) e is)
      | inr ne ↦
          let acts = acts_of d (failure_effect (late wait) d (core_call_in (pending_call (of d log)))) in
          let next : IsNext config log middle = inr (fire, inr (resume, inr (step, (d, wait, due, for, is)))) in
          let behind : Fit (acts ++ log) = subst Fit is (fit_step config log middle fit next) in
          record {
            after = other;
            reaches = reaches_none config other;
            pair = subst (λ (l : List Act). Pair c lid l other) (sym is)
                (foreign_acts_keep_pair c lid acts log other
                (each_failed d (others_acts_are_foreign c d ne) (late wait) (core_call_in (pending_call (of d log))) log)
                (locks acts is) behind.suits pair);
            fit = also;
          }
    ]

-- ---- all steps

-- From `log` to `whole`, the link holds the lock after each act.
abbrev pub HoldsThroughout : ℕ → List Act → List Act → Type 0
HoldsThroughout lid log whole = (later acts : List Act) → whole ≡ later ++ (acts ++ log) → Each (HoldsAfter lid) acts log

each_of_prefix : {A : Type 0} (IsSuch : List A → A → Type 0) (acts more before : List A) → Each IsSuch (acts ++ more) before
    → Each IsSuch acts (more ++ before)
each_of_prefix {A} IsSuch [] more before h = tt
each_of_prefix {A} IsSuch (act ∷ acts) more before h = (
  subst (λ (l : List A). IsSuch l act) (append_assoc acts more before) h.0,
  each_of_prefix IsSuch acts more before h.1,
)

pub holds_further : (lid : ℕ) (log whole adds : List Act) → HoldsThroughout lid log whole → HoldsThroughout lid (adds ++ log) whole
holds_further lid log whole adds holds later acts is = each_of_prefix (HoldsAfter lid) acts adds log
    (holds later (acts ++ adds) (is ∙ ap (λ (l : List Act). later ++ l) (sym (append_assoc acts adds log))))

pub record SettledAlike (config : Config) (c lid : ℕ) (new other : List Act) : Type 0 where
  pub last : List Act
  pub steps : (m : ℕ) × SettlesIn m config other last
  pub pair : Pair c lid new last

-- When the one log is settled, calls of other connections may still time out in the other; after
-- that no step is due there.
ends_alike : (config : Config) (c lid : ℕ) (log other : List Act) → Fit log → Fit other → Pair c lid log other → IsSettled config log
    → SettledAlike config c lid log other
ends_alike config c lid log other fit also pair settled =
    let fire = λ (new : List Act) (h : InstrumentDoes IsFired log new). settled new (inl h) in
    let resume = λ (new : List Act) (h : Resumes config log new). settled new (inr (fire, inl h)) in
    let step = λ (new : List Act) (h : InstrumentDoes IsStep log new). settled new (inr (fire, inr (resume, inl h))) in
    let drained = drain config c lid log other (fire, resume, step) fit also pair in
    let nothing = nothing_else_in_other config c lid log drained.last fit drained.fit drained.pair (fire, resume, step) in
    let first = oldest_expired_exists (config.clock + ticks (device_acts log)) (device_acts log) fit.suits in
    record {
      last = drained.last;
      steps = drained.reaches 0 drained.last (
        still drained.last nothing drained.found drained.due (elim drained.is_own [
          | inl none ↦ none
          | inr own ↦ absurd (not_due first.0 first.1 (expired_back config c lid log drained.last drained.pair
              (subst (λ (o : Option ℕ). IsOldestExpired config drained.last o) own drained.due).0) fire resume step)
        ]),
        refl,
      );
      pair = drained.pair;
    }
  where
    not_due : (found : Option ℕ) → IsOldestExpired config log found
        → IsExpired (config.clock + ticks (device_acts log)) (wait_acts (device_acts log)) c
        → ((new : List Act) → InstrumentDoes IsFired log new → ⊥) → ((new : List Act) → Resumes config log new → ⊥)
        → ((new : List Act) → InstrumentDoes IsStep log new → ⊥) → ⊥
    not_due None due expired fire resume step = due c expired
    not_due (Some d) due expired fire resume step =
        settled _ (inr (fire, inr (resume, inr (step, (d, due.0.0, due, due.0.2, refl)))))

    still : (last : List Act) → NothingElse config last → (found : Option ℕ) → IsOldestExpired config last found → found ≡ None
        → IsSettled config last
    still last nothing found due none new (inl fires) = nothing.0 new fires
    still last nothing found due none new (inr (a, inl resumes)) = nothing.1 new resumes
    still last nothing found due none new (inr (a, inr (b, inl steps))) = nothing.2 new steps
    still last nothing found due none new (inr (a, inr (b, inr (d, times)))) =
        (subst (λ (o : Option ℕ). IsOldestExpired config last o) none due) times.0 times.2.0

pub settles_alike : (n : ℕ) (config : Config) (c lid : ℕ) (whole later log other new : List Act) → HoldsThroughout lid log whole
    → whole ≡ later ++ new → SettlesIn n config log new → Fit log → Fit other → Pair c lid log other → SettledAlike config c lid new other
settles_alike zero config c lid whole later log other new holds is (settled, same) fit also pair =
    subst (λ (l : List Act). SettledAlike config c lid l other) (sym same) (ends_alike config c lid log other fit also pair settled)
settles_alike (suc n) config c lid whole later log other new holds is (middle, next, more) fit also pair =
    let first = next_extends config log middle next in
    let rest = settles_extends n config middle new more in
    let reach : whole ≡ (later ++ rest.0) ++ middle =
    is ∙ ap (λ (l : List Act). later ++ l) rest.1 ∙ sym (append_assoc later rest.0 middle) in
    let locks : LocksOver lid log middle = λ acts same.
    holds (later ++ rest.0) acts (reach ∙ ap (λ (l : List Act). (later ++ rest.0) ++ l) same) in
    let one = step_has_counterpart config c lid log middle other fit also pair locks next in
    let further : HoldsThroughout lid middle whole =
    subst (λ (l : List Act). HoldsThroughout lid l whole) (sym first.1) (holds_further lid log whole first.0 holds) in
    let ends = settles_alike n config c lid whole later middle one.after new further is more (fit_step config log middle fit next)
    one.fit one.pair in
    record { last = ends.last; steps = one.reaches ends.steps.0 ends.last ends.steps.1; pair = ends.pair }
