use Rattle.std.proofs.Common.{rules}
use Rattle.sv_explain.proofs.Records.{same_bools, same_settings}
use Rattle.sv_explain.proofs.shown.SettingsShown.is_same.Goals as goal

pub returns : goal.returns
returns c = λ e. same_settings c.args.self c.args.other (search (rules, c.if-ne.ensures, c.if-ne.false)) c.if-self-other.false
    (search (rules, c.if-self-other-2.false)) c.if-self-other-3.false (search (rules, c.if-self-other-4.false))
    (search (rules, c.if-self-other-5.false)) (same_bools _ _ e)
