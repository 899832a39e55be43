-- Each turn of the loop reads one line.
use Rattle.std.proofs.Common.{◌≡◌, ◌+◌, [], ◌∷◌, refl, arith, rules}
use Rattle.sv_replay.specs.Script.{parts}
use Rattle.sv_replay.proofs.Scenarios.{read_line, read_last, reading_passes_fault_on}
use Rattle.sv_replay.proofs.scenario.read_scenario.Goals as goal

pub returns-in_err-least : goal.returns-in_err-least
returns-in_err-least g c =
    let cut = rw c.in_default-Some.is-1 at c.first_part.ensures.parts in
    reading_passes_fault_on _ c.args.text.now c.loop-line.rest.now c.first_part.result.0.now _ c.loop-line.number (c.loop-line.number + 1)
    c.loop-line.least c.loop-line.entries.items c.add.new.entries.items c.in_err-least.field-0.0 c.from_residual.result
    c.loop-line.invariant.0 cut refl c.in_err-least.ensures c.from_residual.ensures.0 c.from_residual.ensures.1

pub loop-line-preserved : goal.loop-line-preserved
loop-line-preserved g c = rw c.in_default-Some.is-1 (
  read_line c.args.text.now c.loop-line.rest.now c.first_part.result.0.now c.in_default-Some.behind.now c.loop-line.number
      (c.loop-line.number + 1) c.loop-line.least c.in_ok-least.least _ _ c.loop-line.invariant.0
      (rw c.in_default-Some.is-1 at c.first_part.ensures.parts) refl c.in_ok-least.ensures,
  omega (arith, rw c.in_default-Some.is-1 at c.first_part.ensures.shorter, c.loop-line.invariant.1),
)

pub returns-in_err-add : goal.returns-in_err-add
returns-in_err-add g c =
    let last : parts c.loop-line.rest.now ≡ c.loop-line.rest.now ∷ [] = search rules in
    reading_passes_fault_on _ c.args.text.now c.loop-line.rest.now c.loop-line.rest.now [] c.loop-line.number (c.loop-line.number + 1)
    c.loop-line.least
    c.loop-line.entries.items c.add-2.new.entries.items c.in_err-add.field-0.0 c.from_residual-in_err-add.result c.loop-line.invariant.0
    last refl c.in_err-add.ensures c.from_residual-in_err-add.ensures.0 c.from_residual-in_err-add.ensures.1

pub returns : goal.returns
returns g c =
    let last : parts c.loop-line.rest.now ≡ c.loop-line.rest.now ∷ [] = search rules in
    read_last c.args.text.now c.loop-line.rest.now c.loop-line.number (c.loop-line.number + 1) c.loop-line.least c.in_ok-add.field-0
    c.loop-line.entries.items c.add-2.new.entries.items c.loop-line.invariant.0 last c.in_ok-add.ensures
