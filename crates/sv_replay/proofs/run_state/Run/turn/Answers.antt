use Rattle.std.proofs.Common.{◌+◌, take, drop, refl, sym, ap, subst, ◌∙◌}
use Rattle.sv_replay.specs.Text.{Held}
use Rattle.sv_replay.specs.Stage.{IsStage}
use Rattle.sv_replay.proofs.Heard.{input_fault_passed_on, not_an_input_fault, while_going_after_fault}
use Rattle.sv_replay.proofs.Going.{go_line, go_line_stop}
use Rattle.sv_replay.proofs.run_state.Run.turn.Goals as goal

pub returns-in_err-do_line-in-Some-clause-goes : goal.returns-in_err-do_line-in-Some-clause-goes
returns-in_err-do_line-in-Some-clause-goes g c = λ config.
    go_line_stop config c.args.self.now.mode c.args.self.now.server c.do_line.new.server c.args.self.now.text.text c.front-line.result.now
    c.whole_line.new.self.text
    c.in-Some.len c.args.self.now.lines (c.args.self.now.lines + 1)
    c.args.self.now.lines _ _ _ c.in_err-do_line-in-Some.field-0.0 c.from_residual.result (sym c.in-Some.ensures.value)
    (c.front-line.ensures ∙ ap (λ (h : Held). take c.in-Some.len h.text) c.in-Some.ensures.same) refl c.from_residual.ensures.0
    c.from_residual.ensures.1 (c.in_err-do_line-in-Some.ensures.runs config)

pub returns-in_ok-do_line-in-Some-clause-goes : goal.returns-in_ok-do_line-in-Some-clause-goes
returns-in_ok-do_line-in-Some-clause-goes g c = λ config.
    go_line config c.args.self.now.mode c.args.self.now.server c.do_line.new.server c.args.self.now.text.text c.front-line.result.now
    c.drop_front.new.self.text
    c.in-Some.len c.args.self.now.lines (c.args.self.now.lines + 1) _ _ _
    (sym c.in-Some.ensures.value) (c.front-line.ensures ∙ ap (λ (h : Held). take c.in-Some.len h.text) c.in-Some.ensures.same)
    (ap (λ (h : Held). h.text) c.drop_front.ensures
    ∙ ap (λ (h : Held). drop (c.in-Some.len + 1) h.text) c.in-Some.ensures.same) refl (c.in_ok-do_line-in-Some.ensures.runs config)

pub returns-in-None-clause-goes : goal.returns-in-None-clause-goes
returns-in-None-clause-goes g c = λ config read text is.
    c.read_on.ensures.goes config read text
    (subst (λ (h : Held). IsStage config c.args.self.now.mode c.args.self.now.server h.text c.args.self.now.lines read text)
    (sym c.in-None.ensures.same) is)

pub returns-in_err-do_line-in-Some-clause-heard : goal.returns-in_err-do_line-in-Some-clause-heard
returns-in_err-do_line-in-Some-clause-heard g c = λ first reads made as_many. (
  reads,
  made,
  while_going_after_fault c.from_residual.result _ c.from_residual.ensures.0,
  not_an_input_fault c.from_residual.result _
      (input_fault_passed_on c.from_residual.result _ _ c.from_residual.ensures.0 c.from_residual.ensures.1
      c.in_err-do_line-in-Some.ensures.input),
)

pub returns-in_ok-do_line-in-Some-clause-heard : goal.returns-in_ok-do_line-in-Some-clause-heard
returns-in_ok-do_line-in-Some-clause-heard g c = λ first reads made as_many. (
  reads,
  made,
  as_many ∙ sym (ap (λ (h : Held). h.reads) c.drop_front.ensures ∙ ap (λ (h : Held). h.reads) c.in-Some.ensures.same),
  tt,
)

pub returns-in-None-clause-heard : goal.returns-in-None-clause-heard
returns-in-None-clause-heard g c = λ first reads made as_many.
    c.read_on.ensures.heard first reads made (as_many ∙ sym (ap (λ (h : Held). h.reads) c.in-None.ensures.same))
