-- The layers count the requests for service that a step raises, act by act, up to 255.
use Rattle.std.proofs.Common.{◌≡◌, ℕ, ◌+◌, ◌≤◌, min, Bool, true, false, List, [], ◌∷◌, length, length-append, refl, ap, subst, ◌∙◌, arith}
use Rattle.sv_scan.specs.Condition.{bit}
use Rattle.sv_layers.specs.Act.{Act, Polled}
use Rattle.sv_layers.specs.Inside.Representation.{LayerState, AllRead, IsApplied, StandsFor as Layers, max_count}
use Rattle.sv_layers.proofs.NothingAtPoll.{poll_raises_none}
use Rattle.sv_instrument.specs.RequestCount.{Raise, Raises}
use Rattle.sv_instrument.specs.Representation.{Kept, StandsFor}
use Rattle.sv_instrument.specs.Inside.Acted.{Counts, IsCountable, Runs}

pub no_act_raises_none : (log : List Act) → Raises log log 0
no_act_raises_none log = record { acts = []; new_is = refl; count_is = refl }

pub runs_at_start : {kept : Kept} {log : List Act} → StandsFor kept log → Runs log kept log
runs_at_start {kept} {log} s = record {
  layers = record { stands = s.layers.stands; raised = 0; raises = no_act_raises_none log; count = s.layers.none };
  held = s.held;
  path = s.path;
}

-- Saturating after each addend gives the same as saturating once at the end.
saturated_sum : (n more : ℕ) → min (min n max_count + more) max_count ≡ min (n + more) max_count
saturated_sum n more = grind arith

pub count_after_act : {start log : List Act} {before after : LayerState} {act : Act} → IsApplied before.requests after (act ∷ log)
    → Counts start before log → Counts start after (act ∷ log)
count_after_act {start} {log} {before} {after} {act} applied h = record {
  stands = applied.stands;
  raised = h.raised + bit 0 applied.raised;
  raises = record {
    acts = act ∷ h.raises.acts;
    new_is = ap (λ (acts : List Act). act ∷ acts) h.raises.new_is;
    count_is = (
      applied.raised,
      h.raised,
      rw h.raises.new_is at applied.requests,
      h.raises.count_is,
      refl,
    );
  };
  count = applied.count ∙ ap (λ (n : ℕ). min (n + bit 0 applied.raised) max_count) h.count ∙ saturated_sum h.raised (bit 0 applied.raised);
}

-- A call that adds an act to every log that the layers stand for also counts this act.
pub counts : {start log : List Act} {before after : LayerState} {act : Act}
    → ((log : List Act) → Layers before log → IsApplied before.requests after (act ∷ log)) → Counts start before log
    → Counts start after (act ∷ log)
counts {start} {log} applied h = count_after_act (applied log h.stands) h

-- Each act raises at most one request for service.
raises_at_most_acts : (acts log : List Act) (n : ℕ) → Raise acts log n → n ≤ length acts
raises_at_most_acts [] log n none = omega arith
raises_at_most_acts (act ∷ acts) log n (true, before, up, others, is) = let few = raises_at_most_acts acts log before others in omega arith
raises_at_most_acts (act ∷ acts) log n (false, before, up, others, is) = let few = raises_at_most_acts acts log before others in omega arith

-- After at most 255 acts the counter, which saturates at 255, is exact.
pub count_exact : {start log : List Act} {layers : LayerState} → Counts start layers log → IsCountable start log
    → Raises start log layers.requests
count_exact {start} {log} {layers} h few =
    let most = raises_at_most_acts h.raises.acts start h.raised h.raises.count_is in
    let long = ap length h.raises.new_is ∙ length-append h.raises.acts start in
    let is = h.count in
    subst (λ (n : ℕ). Raises start log n) (grind arith) h.raises

none_raised : (raised : Bool) → (raised ≡ true → ⊥) → bit 0 raised ≡ 0
none_raised true never = absurd (never refl)
none_raised false never = refl

pub poll_counts_none : {before after : LayerState} {log : List Act} → AllRead before log → IsApplied before.requests after (Polled ∷ log)
    → AllRead after (Polled ∷ log) × Raises log (Polled ∷ log) 0
poll_counts_none {before} {after} {log} h applied =
    let zero = none_raised applied.raised (λ is. poll_raises_none log (applied.requests.0 is)) in
    let before_none = h.none in
    let count = applied.count in (
      record { stands = applied.stands; none = grind arith },
      record { acts = Polled ∷ []; new_is = refl; count_is = (applied.raised, 0, applied.requests, refl, omega (arith, zero)) },
    )
