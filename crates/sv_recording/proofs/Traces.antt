-- If a recorder's trace is complete, it has exactly the calls of the wire's methods, with their
-- answers.
use Rattle.std.proofs.Common.{◌≡◌, List, [], ◌∷◌, ◌++◌, true, ap, ◌∙◌}
use Rattle.sv_serve.specs.Heard.{Heard, Through}
use Rattle.sv_recording.specs.Recorded.{Recording, Passes}

pub whole_trace_is_kept : {W : Type 0} (hears : W → Heard → W → Type 0) (trace : List Heard) (start now : Recording W)
    → Through (Passes hears) trace start now → now.is_whole ≡ true → now.trace ≡ trace ++ start.trace
whole_trace_is_kept hears [] start now same whole = ap (λ r. r.trace) same
whole_trace_is_kept hears (heard ∷ trace) start now (between, through, passes) whole =
    let one = passes.1 whole in one.1 ∙ ap (λ (l : List Heard). heard ∷ l) (whole_trace_is_kept hears trace start between through one.0)

pub recorded_calls_were_made : {W : Type 0} (hears : W → Heard → W → Type 0) (trace : List Heard) (start now : Recording W)
    → Through (Passes hears) trace start now → Through hears trace start.wire now.wire
recorded_calls_were_made hears [] start now same = ap (λ r. r.wire) same
recorded_calls_were_made hears (heard ∷ trace) start now (between, through, passes) =
    (between.wire, recorded_calls_were_made hears trace start between through, passes.0)
