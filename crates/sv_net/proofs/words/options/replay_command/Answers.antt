use Rattle.std.proofs.Common.{[], ◌∷◌, codes}
use Rattle.std.proofs.lemmas.Result.{IfOk-weaker}
use Rattle.sv_net.specs.Words.{optional}
use Rattle.sv_net.proofs.Added.{added_rules}
use Rattle.sv_net.proofs.words.options.replay_command.Goals as goal

pub returns : goal.returns
returns c =
    IfOk-weaker c.args-2.result _ _
    (λ command adds. added_rules c.new.result command (c.optional.result ∷ c.optional-2.result ∷ [])
    (optional (codes "core") ∷ optional (codes "abort") ∷ []) _ c.new.ensures.app
    (c.optional.ensures.local, c.optional.ensures.rule, (c.optional-2.ensures.local, c.optional-2.ensures.rule, tt))
    (rw c.in_ok-args.ensures.items at adds)) c.args-2.ensures
