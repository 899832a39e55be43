-- The position that the search finds is that of the first space.
use Rattle.std.proofs.Common.{◌≡◌, eqb, tests, cond, ltb, length, Some, None, rules, sym, ◌∙◌}
use Rattle.std.proofs.lemmas.Iterator.{YieldsList-from_slice}
use Rattle.std.proofs.lemmas.Iterator.Search.{position_from_yields_List}
use Rattle.sv_replay.proofs.Steps.{first_space, cut_none, none_is_past_end, some_is_within, cut_at_place}
use Rattle.sv_replay.proofs.line.cut.Goals as goal

pub returns-in_err-at-clause-exact : goal.returns-in_err-at-clause-exact
returns-in_err-at-clause-exact c =
    let e : c.position.result ≡ cond (ltb (first_space c.args.text.now) (length c.args.text.now))
    (Some (first_space c.args.text.now)) None =
    position_from_yields_List (λ byte. eqb byte 32) _ _ c.position.result c.position.ensures.ran (YieldsList-from_slice c.args.text.now cc)
    (λ x b q k. search (rules, tests)) in
    rw c.from_residual.ensures (sym (cut_none c.args.text.now
    (none_is_past_end (first_space c.args.text.now) (length c.args.text.now) (sym c.in_err-at.was ∙ e))))

pub returns-clause-exact : goal.returns-clause-exact
returns-clause-exact c =
    let e : c.position.result ≡ cond (ltb (first_space c.args.text.now) (length c.args.text.now))
    (Some (first_space c.args.text.now)) None =
    position_from_yields_List (λ byte. eqb byte 32) _ _ c.position.result c.position.ensures.ran (YieldsList-from_slice c.args.text.now cc)
    (λ x b q k. search (rules, tests)) in
    cut_at_place c.args.text.now c.in_ok-at.at (some_is_within c.in_ok-at.at (first_space c.args.text.now) (length c.args.text.now)
    (sym c.in_ok-at.was ∙ e))
