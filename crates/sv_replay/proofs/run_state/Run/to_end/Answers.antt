use Rattle.std.proofs.Common.{false, true, ap, length, arith, sym, refl, ◌∙◌, []}
use Rattle.std.specs.Prelude.{Ok, Err}
use Rattle.sv_replay.specs.Text.{Held}
use Rattle.sv_replay.proofs.Heard.{input_fault_passed_on}
use Rattle.sv_replay.proofs.Going.{so_far_start, so_far_step, so_far_stop, so_far_end, so_far_at_end}
use Rattle.sv_replay.proofs.run_state.Run.to_end.Goals as goal

pub loop-init : goal.loop-init
loop-init g c =
    let (config, stands, none, zero_lines) = c.requires in (
      (λ config stands. so_far_start config c.args.self.now.mode c.args.self.now.server c.args.self.now.text.text c.args.self.now.lines
          _ _ stands (ap (λ (h : Held). h.text) none) zero_lines),
      omega (arith, zero_lines, ap (λ (h : Held). h.reads) none),
      omega (arith, zero_lines, ap (λ (h : Held). length h.text) none),
      omega (arith, ap (λ (h : Held). h.reads) none),
      ([], (refl, omega arith), sym (ap (λ (h : Held). h.reads) none)),
      refl,
    )

pub returns-in_err-turn-clause-runs : goal.returns-in_err-turn-clause-runs
returns-in_err-turn-clause-runs g c = λ config stands.
    so_far_stop config c.args.self.now.mode c.turn.new.self.server c.turn.new.self.text.text c.turn.new.self.lines _ _ _ _
    c.in_err-turn.field-0.0
    c.from_residual.result c.from_residual.ensures.0 c.from_residual.ensures.1
    (so_far_step config c.args.self.now.mode c.loop.self.mode c.loop.self.server c.turn.new.self.server c.loop.self.text.text
    c.turn.new.self.text.text c.loop.self.lines c.turn.new.self.lines _ _ _ _ _ _
    (Err c.in_err-turn.field-0.0) c.loop.invariant.5 (c.loop.invariant.0 config stands) (c.in_err-turn.ensures.goes config))

pub returns-then-not-branch-clause-runs : goal.returns-then-not-branch-clause-runs
returns-then-not-branch-clause-runs g c = λ config stands.
    so_far_end config c.args.self.now.mode c.turn.new.self.server c.turn.new.self.text.text c.turn.new.self.lines _ _ _ _
    (so_far_step config c.args.self.now.mode c.loop.self.mode c.loop.self.server c.turn.new.self.server c.loop.self.text.text
    c.turn.new.self.text.text c.loop.self.lines c.turn.new.self.lines _ _ _ _ _ _ (Ok false) c.loop.invariant.5
    (c.loop.invariant.0 config stands)
    (rw c.if-not-branch.true at (c.in_ok-turn.ensures.goes config)))

pub returns-then-not-branch-clause-end : goal.returns-then-not-branch-clause-end
returns-then-not-branch-clause-end g c =
    let (config, stands, none, zero_lines) = c.requires in
    so_far_at_end config c.args.self.now.mode c.turn.new.self.server c.turn.new.self.text.text c.turn.new.self.lines _ _ _ _
    (so_far_step config c.args.self.now.mode c.loop.self.mode c.loop.self.server c.turn.new.self.server c.loop.self.text.text
    c.turn.new.self.text.text c.loop.self.lines c.turn.new.self.lines _ _ _ _ _ _ (Ok false) c.loop.invariant.5
    (c.loop.invariant.0 config stands)
    (rw c.if-not-branch.true at (c.in_ok-turn.ensures.goes config)))

pub loop-preserved : goal.loop-preserved
loop-preserved g c =
    let e = c.if-not-branch.false in (
      (λ config stands. so_far_step config c.args.self.now.mode c.loop.self.mode c.loop.self.server c.turn.new.self.server
          c.loop.self.text.text c.turn.new.self.text.text c.loop.self.lines c.turn.new.self.lines _ _ _ _ _ _ (Ok true) c.loop.invariant.5
          (c.loop.invariant.0 config stands) (rw e at (c.in_ok-turn.ensures.goes config))),
      omega (arith, (rw e at c.in_ok-turn.ensures.progress).counted, c.loop.invariant.1),
      (rw e at c.in_ok-turn.ensures.progress).bounded c.loop.invariant.2,
      (rw e at c.in_ok-turn.ensures.progress).few c.loop.invariant.3,
      (let (reads, made, as_many) = c.loop.invariant.4 in
          let (others, they, count, on) = rw e at (c.in_ok-turn.ensures.heard _ reads made as_many) in (others, they, count)),
      (rw e at c.in_ok-turn.ensures.progress).alike ∙ c.loop.invariant.5,
    )

pub returns-in_err-turn-clause-reads : goal.returns-in_err-turn-clause-reads
returns-in_err-turn-clause-reads g c =
    let (reads, made, as_many) = c.loop.invariant.4 in
    let (others, they, going, on) = c.in_err-turn.ensures.heard _ reads made as_many in (
      others,
      they,
      input_fault_passed_on c.from_residual.result _ _ c.from_residual.ensures.0 c.from_residual.ensures.1 on,
    )

pub returns-then-not-branch-clause-reads : goal.returns-then-not-branch-clause-reads
returns-then-not-branch-clause-reads g c =
    let (reads, made, as_many) = c.loop.invariant.4 in
    let (others, they, going, on) = c.in_ok-turn.ensures.heard _ reads made as_many in (others, they, tt)
