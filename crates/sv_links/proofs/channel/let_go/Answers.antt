use Rattle.std.proofs.Common.{ℕ, List, sym, ap, ◌∙◌}
use Rattle.std.specs.Prelude.{slice_get}
use Rattle.sv_links.proofs.Going.{first_call_taken_partly, first_call_taken, no_call_left}
use Rattle.sv_links.proofs.channel.let_go.Goals as goal

pub returns-then-left-from : goal.returns-then-left-from
returns-then-left-from c =
    let sizes = c.loop-size.sizes.items in
    let first = sym c.in-Some.is ∙ c.copied.ensures ∙ c.first.ensures.value
    ∙ ap (λ (xs : List ℕ). slice_get xs 0) c.as_slice.ensures.value in
    first_call_taken_partly sizes c.as_mut_slice.result.now c.loop-size.left c.in-Some.size c.as_mut_slice.ensures.value first
    (rw c.from.ensures at c.if-left-from.true)
    ∙ c.loop-size.invariant

pub loop-size-preserved : goal.loop-size-preserved
loop-size-preserved c =
    let sizes = c.loop-size.sizes.items in
    let first = sym c.in-Some.is ∙ c.copied.ensures ∙ c.first.ensures.value
    ∙ ap (λ (xs : List ℕ). slice_get xs 0) c.as_slice.ensures.value in
    rw c.from-left.ensures (first_call_taken sizes c.remove.new.self.items c.loop-size.left c.in-Some.size first
    (rw c.from.ensures at c.if-left-from.false) c.remove.ensures.items
    ∙ c.loop-size.invariant)

pub returns : goal.returns
returns c =
    let none = sym c.in_default.is ∙ c.copied.ensures ∙ c.first.ensures.value
    ∙ ap (λ (xs : List ℕ). slice_get xs 0) c.as_slice.ensures.value in
    no_call_left c.loop-size.sizes.items c.loop-size.left none ∙ c.loop-size.invariant
