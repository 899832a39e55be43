-- The ring buffer keeps all codes, because there are never more than its capacity.
use Rattle.std.proofs.Common.{◌≡◌, ℕ, ◌+◌, ◌-◌, ◌<◌, ◌≤◌, List, [], ◌∷◌, ◌++◌, length, take, drop, ap, ◌∙◌, arith, rules, length-append}
use Rattle.std.proofs.lemmas.List.{length-map, length-take-le}
use Rattle.std.specs.Prelude.{◌==◌, min, nat_le}
use Rattle.circular_buffer.specs.Buffer.{keep_last}
use Rattle.sv_errors.specs.declared.code.Code.{Code}
use Rattle.sv_errors.specs.declared.code.Code.TheVariants.{QueueOverflow}
use Rattle.sv_errors.specs.declared.error_queue.QueueAct.{QueueAct}
use Rattle.sv_errors.specs.declared.error_queue.QueueAct.TheVariants.{Report}
use Rattle.sv_errors.specs.ErrorQueue.{Queue, StandsFor, entries, entry_code, most, most_lost}
use Rattle.sv_errors.proofs.Queue.{stands_for_reported, stands_for_overflowed}
use Rattle.sv_errors.proofs.error_queue.ErrorQueue.report.Goals as goal

keep_all : (capacity : ℕ) (codes : List Code) → length codes ≤ capacity → keep_last capacity codes ≡ codes
keep_all capacity codes few = let e : length codes - capacity ≡ 0 = omega arith in ap (λ (n : ℕ). drop n codes) e

-- There is room for the error.
reported : (capacity : ℕ) (queue : Queue) (code : Code) (acts : List QueueAct) → capacity ≡ most → length queue.codes < most
    → StandsFor queue acts → StandsFor (record queue { codes = keep_last capacity (queue.codes ++ code ∷ []) }) (Report code ∷ acts)
reported capacity queue code acts size room stands =
    rw (keep_all capacity (queue.codes ++ code ∷ []) (omega (arith, length-append queue.codes (code ∷ []))))
    (stands_for_reported queue code acts room stands)

-- The queue is full.
overflowed : (capacity : ℕ) (queue : Queue) (code : Code) (acts : List QueueAct) (count : ℕ) → capacity ≡ most
    → length queue.codes ≡ most → count ≡ min (queue.lost_count + 1) most_lost → StandsFor queue acts → StandsFor (record {
      codes = keep_last capacity (take (length queue.codes - 1) queue.codes ++ QueueOverflow ∷ []);
      lost_count = count;
    }) (Report code ∷ acts)
overflowed capacity queue code acts count size full counted stands =
    let front : length queue.codes - 1 ≡ (most - 1) = omega arith in
    let kept : keep_last capacity (take (length queue.codes - 1) queue.codes ++ QueueOverflow ∷ [])
    ≡ take (most - 1) queue.codes ++ QueueOverflow ∷ [] =
    ap (λ (n : ℕ). keep_last capacity (take n queue.codes ++ QueueOverflow ∷ [])) front
    ∙ keep_all capacity (take (most - 1) queue.codes ++ QueueOverflow ∷ [])
    (omega (
      arith,
      length-append (take (most - 1) queue.codes) (QueueOverflow ∷ []),
      length-take-le (most - 1) queue.codes (omega arith),
    )) in
    rw (kept, counted) (stands_for_overflowed queue code acts full stands)

pub returns-then-full-clause-stands : goal.returns-then-full-clause-stands
returns-then-full-clause-stands g c =
    rw (c.push_back.ensures.items, c.pop_back.ensures.items, ← c.self.view_is)
    (λ acts stands. overflowed c.self.inside.codes.capacity _ c.args.code acts _ c.self.invariant.0
    (omega arith) c.saturating_add-self-inside.ensures stands)

pub returns-else-full-clause-stands : goal.returns-else-full-clause-stands
returns-else-full-clause-stands g c =
    rw (c.push_back-else-full.ensures.items, ← c.self.view_is)
    (λ acts stands. reported c.self.inside.codes.capacity _ c.args.code acts c.self.invariant.0
    (omega arith) stands)

pub returns-then-full-clause-full : goal.returns-then-full-clause-full
returns-then-full-clause-full g c = search rules

pub returns-then-full-clause-answer : goal.returns-then-full-clause-answer
returns-then-full-clause-answer g c =
    let full : nat_le most c.len-full.result ≡ (length c.args.self.now.codes == most) = search rules in
    λ acts stands. full ∙ ap (λ (n : ℕ). n == most) (ap length stands.codes ∙ length-map (entries acts) (entry_code acts))
