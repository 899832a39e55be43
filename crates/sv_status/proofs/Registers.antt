-- An event register after one more act: which events are set, and that the stored words agree with
-- the acts.
use Rattle.std.proofs.Common.{◌≡◌, ℕ, List, [], ◌∷◌, refl, subst, sym, ◌⊎◌, inl, inr, bit_and, bit_or, arith}
use Rattle.std.specs.Prelude.{◌↔◌, bit_xor}
use Rattle.std.specs.Int.{bit_at}
use Rattle.sv_logs.proofs.Since.{since_empty, since_step, since_kept, since_same, since_not_kept, iff_transitive}
use Rattle.sv_status.specs.declared.register.RegisterAct.{RegisterAct}
use Rattle.sv_status.specs.declared.register.RegisterAct.TheVariants.{Condition, SetFilter, SetEnable, ReadEvent, Preset, Clear}
use Rattle.sv_status.specs.Register.{Latches, StandsFor, EventStands, Passes, NotCleared, condition, rise, fall, without_top_bit}
use Rattle.sv_status.proofs.Words.{zero_has_no_bit, bit_of_and, bit_of_or, bit_rises, bit_falls}

-- A bit that doesn't change passes no filter.
pub unchanged_bit_passes_none : (c k : ℕ) (P Q : Type 0) → ((bit_at c k ≡ 0) × (bit_at c k ≡ 1) × P)
    ⊎ ((bit_at c k ≡ 1) × (bit_at c k ≡ 0) × Q) → ⊥
unchanged_bit_passes_none c k P Q (inl h) = absurd (omega arith)
unchanged_bit_passes_none c k P Q (inr h) = absurd (omega arith)

-- ---- which events are set

pub event_none : (k : ℕ) → EventStands k [] → ⊥
event_none k stands = ((since_empty (Passes k) NotCleared).0 stands).0

-- An act that doesn't clear the register, and at which the bit passes no filter, leaves the event.
pub event_is_kept : (k : ℕ) (act : RegisterAct) (acts : List RegisterAct) → NotCleared (act ∷ acts) → (Passes k (act ∷ acts) → ⊥)
    → EventStands k acts ↔ EventStands k (act ∷ acts)
event_is_kept k act acts kept none =
    let same = since_same (Passes k) NotCleared act acts kept none in (same.1, same.0)

-- A new condition sets the event of a bit that passes its filter, and leaves all others.
pub event_condition : (k word : ℕ) (acts : List RegisterAct)
    → EventStands k (Condition word ∷ acts) ↔ (Passes k (Condition word ∷ acts) ⊎ EventStands k acts)
event_condition k word acts = since_kept (Passes k) NotCleared (Condition word) acts tt

-- A condition that is equal to the old one changes no event.
pub event_unchanged : (k word : ℕ) (acts : List RegisterAct) → word ≡ condition acts
    → EventStands k (Condition word ∷ acts) ↔ EventStands k acts
event_unchanged k word acts same = since_same (Passes k) NotCleared (Condition word) acts tt
    (rw same (unchanged_bit_passes_none (condition acts) k _ _))

-- Setting filters or the enable, or a preset, changes no event.
pub event_filter : (k up down : ℕ) (acts : List RegisterAct) → EventStands k (SetFilter up down ∷ acts) ↔ EventStands k acts
event_filter k up down acts = since_same (Passes k) NotCleared (SetFilter up down) acts tt
    (unchanged_bit_passes_none (condition acts) k _ _)

pub event_enable : (k word : ℕ) (acts : List RegisterAct) → EventStands k (SetEnable word ∷ acts) ↔ EventStands k acts
event_enable k word acts = since_same (Passes k) NotCleared (SetEnable word) acts tt (unchanged_bit_passes_none (condition acts) k _ _)

pub event_preset : (k : ℕ) (acts : List RegisterAct) → EventStands k (Preset ∷ acts) ↔ EventStands k acts
event_preset k acts = since_same (Passes k) NotCleared Preset acts tt (unchanged_bit_passes_none (condition acts) k _ _)

-- Reading or clearing the register clears all events.
pub event_read : (k : ℕ) (acts : List RegisterAct) → EventStands k (ReadEvent ∷ acts) → ⊥
event_read k acts = since_not_kept (Passes k) NotCleared ReadEvent acts (λ kept. kept)

pub event_cleared : (k : ℕ) (acts : List RegisterAct) → EventStands k (Clear ∷ acts) → ⊥
event_cleared k acts = since_not_kept (Passes k) NotCleared Clear acts (λ kept. kept)

-- ---- the state of the register

-- Setting filters or the enable leaves the events as they are.
pub stands_for_filter : (start : ℕ) (latches : Latches) (acts : List RegisterAct) (up down : ℕ) → StandsFor start latches acts
    → StandsFor start (record latches { rise = without_top_bit up; fall = without_top_bit down }) (SetFilter up down ∷ acts)
stands_for_filter start latches acts up down is = record {
  begins = is.begins;
  condition = is.condition;
  rise = refl;
  fall = refl;
  enable = is.enable;
  event = λ k. iff_transitive (is.event k) (event_is_kept k (SetFilter up down) acts tt (unchanged_bit_passes_none (condition acts) k _ _));
}

pub stands_for_enable : (start : ℕ) (latches : Latches) (acts : List RegisterAct) (word : ℕ) → StandsFor start latches acts
    → StandsFor start (record latches { enable = without_top_bit word }) (SetEnable word ∷ acts)
stands_for_enable start latches acts word is = record {
  begins = is.begins;
  condition = is.condition;
  rise = is.rise;
  fall = is.fall;
  enable = refl;
  event = λ k. iff_transitive (is.event k) (event_is_kept k (SetEnable word) acts tt (unchanged_bit_passes_none (condition acts) k _ _));
}

pub stands_for_preset : (start : ℕ) (latches : Latches) (acts : List RegisterAct) → StandsFor start latches acts
    → StandsFor start (record latches { rise = 32767; fall = 0; enable = latches.start }) (Preset ∷ acts)
stands_for_preset start latches acts is = record {
  begins = is.begins;
  condition = is.condition;
  rise = refl;
  fall = refl;
  enable = is.begins;
  event = λ k. iff_transitive (is.event k) (event_is_kept k Preset acts tt (unchanged_bit_passes_none (condition acts) k _ _));
}

-- The event word after the condition changes.
abbrev pub events_after_condition : Latches → ℕ → ℕ
events_after_condition latches word =
    bit_or (bit_or latches.event (bit_and (bit_and (bit_xor latches.condition word) word) latches.rise))
    (bit_and (bit_and (bit_xor latches.condition word) latches.condition) latches.fall)

-- The bit changes in a direction whose filter has it set.
abbrev PassesBy : ℕ → ℕ → ℕ → ℕ → ℕ → Type 0
PassesBy k old new up down = ((bit_at old k ≡ 0) × (bit_at new k ≡ 1) × (bit_at up k ≡ 1))
    ⊎ ((bit_at old k ≡ 1) × (bit_at new k ≡ 0) × (bit_at down k ≡ 1))

same_passing : (k old old' new up up' down down' : ℕ) → old ≡ old' → up ≡ up' → down ≡ down' → PassesBy k old new up down
    → PassesBy k old' new up' down'
same_passing k old old' new up up' down down' e f g p =
    subst (λ (o : ℕ). PassesBy k o new up' down') e
    (subst (λ (u : ℕ). PassesBy k old new u down') f (subst (λ (d : ℕ). PassesBy k old new up d) g p))

latched_bit : (latches : Latches) (word k : ℕ) → (bit_at (events_after_condition latches word) k ≡ 1)
    ↔ (PassesBy k latches.condition word latches.rise latches.fall ⊎ (bit_at latches.event k ≡ 1))
latched_bit latches word k =
    let up = bit_and (bit_xor latches.condition word) word in
    let down = bit_and (bit_xor latches.condition word) latches.condition in
    let all = bit_of_or (bit_or latches.event (bit_and up latches.rise)) (bit_and down latches.fall) k in
    let first = bit_of_or latches.event (bit_and up latches.rise) k in
    let rising = bit_of_and up latches.rise k in
    let falling = bit_of_and down latches.fall k in
    let rise_is = bit_rises latches.condition word k in
    let fall_is = bit_falls latches.condition word k in (
      (λ h. elim (all.0 h) [
        | inl some ↦ elim (first.0 some) [
          | inl event ↦ inr event
          | inr rises ↦ let r = rising.0 rises in let c = rise_is.0 r.0 in inl (inl (c.0, c.1, r.1))
        ]
        | inr falls ↦ let f = falling.0 falls in let c = fall_is.0 f.0 in inl (inr (c.0, c.1, f.1))
      ]),
      (λ h. elim h [
        | inl passes ↦ elim passes [
          | inl r ↦ all.1 (inl (first.1 (inr (rising.1 (rise_is.1 (r.0, r.1), r.2)))))
          | inr f ↦ all.1 (inr (falling.1 (fall_is.1 (f.0, f.1), f.2)))
        ]
        | inr event ↦ all.1 (inl (first.1 (inl event)))
      ]),
    )

-- The condition changes.
pub stands_for_condition : (start : ℕ) (latches : Latches) (acts : List RegisterAct) (word : ℕ) → StandsFor start latches acts
    → StandsFor start (record latches { condition = word; event = events_after_condition latches word }) (Condition word ∷ acts)
stands_for_condition start latches acts word is = record {
  begins = is.begins;
  condition = refl;
  rise = is.rise;
  fall = is.fall;
  enable = is.enable;
  event = λ k.
      let bit = latched_bit latches word k in
      let law = since_step (Passes k) NotCleared (Condition word) acts in
      let to = same_passing k latches.condition (condition acts) word latches.rise (rise acts) latches.fall
      (fall acts) is.condition is.rise is.fall in
      let from = same_passing k (condition acts) latches.condition word (rise acts) latches.rise (fall acts) latches.fall (sym is.condition)
      (sym is.rise) (sym is.fall) in (
        (λ h. law.1 (tt, elim (bit.0 h) [ inl passes ↦ inl (to passes) | inr event ↦ inr ((is.event k).0 event) ])),
        (λ s. bit.1 (elim (law.0 s).1 [ inl passes ↦ inl (from passes) | inr before ↦ inr ((is.event k).1 before) ])),
      );
}

-- The event register is read or cleared.
pub stands_for_read : (start : ℕ) (latches : Latches) (acts : List RegisterAct) → StandsFor start latches acts
    → StandsFor start (record latches { event = 0 }) (ReadEvent ∷ acts)
stands_for_read start latches acts is = record {
  begins = is.begins;
  condition = is.condition;
  rise = is.rise;
  fall = is.fall;
  enable = is.enable;
  event = λ k. zero_has_no_bit k (EventStands k (ReadEvent ∷ acts)) (event_read k acts);
}

pub stands_for_cleared : (start : ℕ) (latches : Latches) (acts : List RegisterAct) → StandsFor start latches acts
    → StandsFor start (record latches { event = 0 }) (Clear ∷ acts)
stands_for_cleared start latches acts is = record {
  begins = is.begins;
  condition = is.condition;
  rise = is.rise;
  fall = is.fall;
  enable = is.enable;
  event = λ k. zero_has_no_bit k (EventStands k (Clear ∷ acts)) (event_cleared k acts);
}
