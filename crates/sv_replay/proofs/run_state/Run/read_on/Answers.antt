use Rattle.std.proofs.Common.{◌+◌, refl}
use Rattle.sv_replay.proofs.Heard.{input_fault_passed_on, not_an_input_fault, while_going_after_fault}
use Rattle.sv_replay.proofs.Going.{go_long, go_output, go_input, go_read, go_last_stop, go_last}
use Rattle.sv_replay.proofs.run_state.Run.read_on.Goals as goal

pub returns-then-len-gt-LONGEST_LINE-clause-goes :
    goal.returns-then-len-gt-LONGEST_LINE-clause-goes
returns-then-len-gt-LONGEST_LINE-clause-goes g c = λ config.
    go_long config c.args.self.now.mode c.args.self.now.server c.args.self.now.text.text c.args.self.now.lines
    (c.args.self.now.lines + 1) _ _ c.requires.0
    (rw (← c.len.ensures) c.if-len-gt-LONGEST_LINE.true) refl

pub returns-in_err-flush-clause-goes : goal.returns-in_err-flush-clause-goes
returns-in_err-flush-clause-goes g c = λ config.
    go_output config c.args.self.now.mode c.args.self.now.server c.args.self.now.text.text c.args.self.now.lines _ _ _
    c.in_err-flush.field-0.0
    c.from_residual.result
    c.in_err-flush.ensures.kept c.in_err-flush.ensures.fault
    c.from_residual.ensures.0 c.from_residual.ensures.1

pub returns-in_err-fill-clause-goes : goal.returns-in_err-fill-clause-goes
returns-in_err-fill-clause-goes g c = λ config.
    let (more, took, is, given) = c.in_err-fill.ensures.took in
    go_input config c.args.self.now.mode c.args.self.now.server c.args.self.now.text.text c.fill.new.self.text more c.args.self.now.lines
    _ _ _ _
    c.from_residual-in_err-fill.result c.requires.0 c.in_ok-flush.ensures.kept took given
    c.from_residual-in_err-fill.ensures.0 c.from_residual-in_err-fill.ensures.1

pub returns-then-branch-clause-goes : goal.returns-then-branch-clause-goes
returns-then-branch-clause-goes g c = λ config.
    let (more, took, is, given) = c.in_ok-fill.ensures.took in
    go_read config c.args.self.now.mode c.args.self.now.server c.args.self.now.text.text c.fill.new.self.text more c.args.self.now.lines _
    _ _ _
    c.in_ok-flush.ensures.kept took is

pub returns-in_err-do_line-clause-goes : goal.returns-in_err-do_line-clause-goes
returns-in_err-do_line-clause-goes g c = λ config.
    let (more, took, is, (given, end)) = rw c.if-branch.false at c.in_ok-fill.ensures.took in
    go_last_stop config c.args.self.now.mode c.args.self.now.server c.do_line.new.server c.args.self.now.text.text c.fill.new.self.text
    c.front-line.result.now more
    c.args.self.now.lines (c.args.self.now.lines + 1) c.args.self.now.lines _ _ _ _ _
    c.in_err-do_line.field-0.0 c.from_residual-in_err-do_line.result c.requires.0 is given
    (rw (← c.len-2.ensures) c.front-line.ensures) refl took end c.in_ok-flush.ensures.kept
    c.from_residual-in_err-do_line.ensures.0 c.from_residual-in_err-do_line.ensures.1 (c.in_err-do_line.ensures.runs config)

pub returns-clause-goes : goal.returns-clause-goes
returns-clause-goes g c = λ config.
    let (more, took, is, (given, end)) = rw c.if-branch.false at c.in_ok-fill.ensures.took in
    go_last config c.args.self.now.mode c.args.self.now.server c.do_line.new.server c.args.self.now.text.text c.fill.new.self.text
    c.front-line.result.now more
    c.args.self.now.lines (c.args.self.now.lines + 1) c.args.self.now.lines _ _ _ _ _
    c.requires.0 is given (rw (← c.len-2.ensures) c.front-line.ensures) refl took end c.in_ok-flush.ensures.kept
    (c.in_ok-do_line.ensures.runs config)

pub returns-then-len-gt-LONGEST_LINE-clause-heard : goal.returns-then-len-gt-LONGEST_LINE-clause-heard
returns-then-len-gt-LONGEST_LINE-clause-heard g c = λ first reads made as_many. (reads, made, tt, tt)

pub returns-in_err-flush-clause-heard : goal.returns-in_err-flush-clause-heard
returns-in_err-flush-clause-heard g c = λ first reads made as_many. (
  reads,
  made,
  while_going_after_fault c.from_residual.result _ c.from_residual.ensures.0,
  input_fault_passed_on c.from_residual.result _ _ c.from_residual.ensures.0 c.from_residual.ensures.1 (rw c.in_err-flush.ensures.fault tt),
)

pub returns-in_err-fill-clause-heard : goal.returns-in_err-fill-clause-heard
returns-in_err-fill-clause-heard g c = λ first reads made as_many.
    let (others, they, last) = c.in_err-fill.ensures.heard first reads made as_many in (
      others,
      they,
      while_going_after_fault c.from_residual-in_err-fill.result _ c.from_residual-in_err-fill.ensures.0,
      input_fault_passed_on c.from_residual-in_err-fill.result _ _ c.from_residual-in_err-fill.ensures.0
          c.from_residual-in_err-fill.ensures.1 last,
    )

pub returns-then-branch-clause-heard : goal.returns-then-branch-clause-heard
returns-then-branch-clause-heard g c = λ first reads made as_many.
    let (others, they, count) = c.in_ok-fill.ensures.heard first reads made as_many in (others, they, count, tt)

pub returns-in_err-do_line-clause-heard : goal.returns-in_err-do_line-clause-heard
returns-in_err-do_line-clause-heard g c = λ first reads made as_many.
    let (others, they, count) = c.in_ok-fill.ensures.heard first reads made as_many in (
      others,
      they,
      while_going_after_fault c.from_residual-in_err-do_line.result _ c.from_residual-in_err-do_line.ensures.0,
      not_an_input_fault c.from_residual-in_err-do_line.result _ (input_fault_passed_on c.from_residual-in_err-do_line.result _ _
          c.from_residual-in_err-do_line.ensures.0 c.from_residual-in_err-do_line.ensures.1 c.in_err-do_line.ensures.input),
    )

pub returns-clause-heard : goal.returns-clause-heard
returns-clause-heard g c = λ first reads made as_many.
    let (others, they, count) = c.in_ok-fill.ensures.heard first reads made as_many in (others, they, tt, tt)
