-- A relation of two logs that the same further acts keep is kept by the same further events.
use Rattle.std.proofs.Common.{◌≡◌, ℕ, zero, suc, List, ◌∷◌, ◌++◌, sym, ap, subst, ◌∙◌}
use Rattle.sv_layers.specs.StatusByte.{PolledBit}
use Rattle.sv_layers.proofs.PolledByte.{one_word}
use Rattle.sv_history.specs.declared.event.Config.{Config}
use Rattle.sv_history.specs.Event.{PlainEvent}
use Rattle.sv_history.specs.Act.{Act, device_acts, instrument_acts}
use Rattle.sv_history.specs.Settling.{SettlesIn}
use Rattle.sv_history.specs.History.{own_acts, IsLogOf}
use Rattle.sv_history.proofs.OneStep.{next_step_unique}
use Rattle.sv_laws.proofs.Facts.{relation_of_equals}
use Rattle.sv_laws.proofs.Cuts.SameDevice.{is_polled_same}
use Rattle.sv_laws.proofs.Cuts.SharedSteps.{SameCalls, same_calls_sym, same_calls_same_step}
use Rattle.sv_laws.proofs.Cuts.SharedEvents.{SameNext, own_acts_same}

-- ---- the steps that are due

-- Related logs have the same pending calls and the same state of the device, and stay related when
-- the same acts are added to both.
pub record IsKept (AreSo : List Act → List Act → Type 0) : Type 0 where
  pub calls : (log other : List Act) → AreSo log other → SameCalls log other
  pub more : (adds log other : List Act) → AreSo log other → AreSo (adds ++ log) (adds ++ other)

pub kept_through_steps : (AreSo : List Act → List Act → Type 0) → IsKept AreSo → (n m : ℕ) (config : Config) (log other new also : List Act)
    → AreSo log other → SettlesIn n config log new → SettlesIn m config other also → AreSo new also
kept_through_steps AreSo kept zero zero config log other new also v x y = relation_of_equals AreSo log other new also x.1 y.1 v
kept_through_steps AreSo kept zero (suc m) config log other new also v x y =
    let so = same_calls_same_step config other log (same_calls_sym log other (kept.calls log other v)) y.0 y.1 in
    absurd (x.0 (so.0 ++ log) so.2)
kept_through_steps AreSo kept (suc n) zero config log other new also v x y =
    let so = same_calls_same_step config log other (kept.calls log other v) x.0 x.1 in absurd (y.0 (so.0 ++ other) so.2)
kept_through_steps AreSo kept (suc n) (suc m) config log other new also v x y =
    let so = same_calls_same_step config log other (kept.calls log other v) x.0 x.1 in
    let there : y.0 ≡ so.0 ++ other = next_step_unique config other y.0 (so.0 ++ other) y.1 so.2 in
    kept_through_steps AreSo kept n m config x.0 y.0 new also
    (relation_of_equals AreSo (so.0 ++ log) (so.0 ++ other) x.0 y.0 so.1 there (kept.more so.0 log other v)) x.2 y.2

-- ---- the same event

pub kept_through_event : (AreSo : List Act → List Act → Type 0) → IsKept AreSo
    → ((log other : List Act) → AreSo log other → SameNext log other)
    → (config : Config) (event : PlainEvent) (past others : List PlainEvent) (log also : List Act)
    → ((a b : List Act) → IsLogOf config past a → IsLogOf config others b → AreSo a b)
    → IsLogOf config (event ∷ past) log → IsLogOf config (event ∷ others) also → AreSo log also
kept_through_event AreSo kept next config event past others log also base
    (a, polled, channel_log, is_event, was, hears, free, said, settles) (b, byte, heard, is_also, is_prior, hearing, none, tells, ends) =
    let v = base a b was is_prior in
    let same = next a b v in
    let there = is_polled_same polled (device_acts a) (device_acts b) same.now.device said in
    let word : byte ≡ polled = one_word (λ k. PolledBit k (instrument_acts (device_acts b))) byte polled tells there in
    let own : own_acts config polled event a ≡ own_acts config byte event b =
    own_acts_same config polled event a b same ∙ ap (λ (w : ℕ). own_acts config w event b) (sym word) in
    kept_through_steps AreSo kept settles.0 ends.0 config (own_acts config polled event a ++ a) (own_acts config byte event b ++ b) log also
    (subst (λ (l : List Act). AreSo (own_acts config polled event a ++ a) (l ++ b)) own
    (kept.more (own_acts config polled event a) a b v)) settles.1 ends.1
