use Rattle.std.proofs.Common.{rules}
use Rattle.std.proofs.lemmas.Bool.{eqb-true, not-false}
use Rattle.sv_explain.proofs.Records.{same_bools, same_conns}
use Rattle.sv_explain.proofs.shown.ConnShown.is_same.Goals as goal

pub returns-then-self-other-3 : goal.returns-then-self-other-3
returns-then-self-other-3 c = λ e. same_conns c.args.self c.args.other (search (rules, c.if-ne.ensures, c.if-ne.false))
    (same_bools _ _ (not-false _ c.if-self-other.false)) (c.is_same_call.ensures c.if-not-is_same_call.false) c.if-self-other-2.false
    (same_bools _ _ c.if-self-other-3.true) (eqb-true _ _ e)
