use Rattle.std.proofs.Common.{rules}
use Rattle.sv_explain.proofs.Records.{same_measurements}
use Rattle.sv_explain.proofs.shown.MeasurementShown.is_same.Goals as goal

pub returns-then-is_same_progress : goal.returns-then-is_same_progress
returns-then-is_same_progress c = λ e. same_measurements c.args.self c.args.other (search (rules, c.if-ne.ensures, c.if-ne.false))
    (c.is_same_progress.ensures c.if-is_same_progress.true) c.if-self-other.false (c.is_same.ensures.same e)
