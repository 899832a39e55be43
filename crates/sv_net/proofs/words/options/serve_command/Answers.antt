use Rattle.std.proofs.Common.{[], ◌∷◌, codes}
use Rattle.std.proofs.lemmas.Result.{IfOk-weaker}
use Rattle.sv_net.specs.Words.{option, optional}
use Rattle.sv_net.proofs.Added.{added_rules}
use Rattle.sv_net.proofs.words.options.serve_command.Goals as goal

pub returns : goal.returns
returns c =
    IfOk-weaker c.args-2.result _ _
    (λ command adds. added_rules c.new.result command
    (c.option.result ∷ c.option-2.result ∷ c.option-3.result ∷ c.option-4.result ∷ c.option-5.result
    ∷ c.optional.result ∷ c.optional-2.result ∷ [])
    (option (codes "core") ∷ option (codes "abort") ∷ option (codes "portmap") ∷ option (codes "scenario") ∷ option (codes "sweeps")
    ∷ optional (codes "record") ∷ optional (codes "control") ∷ [])
    _ c.new.ensures.app (
      c.option.ensures.local,
      c.option.ensures.rule,
      (
        c.option-2.ensures.local,
        c.option-2.ensures.rule,
        (
          c.option-3.ensures.local,
          c.option-3.ensures.rule,
          (
            c.option-4.ensures.local,
            c.option-4.ensures.rule,
            (
              c.option-5.ensures.local,
              c.option-5.ensures.rule,
              (
                c.optional.ensures.local,
                c.optional.ensures.rule,
                (c.optional-2.ensures.local, c.optional-2.ensures.rule, tt),
              ),
            ),
          ),
        ),
      ),
    )
    (rw c.in_ok-args.ensures.items at adds)) c.args-2.ensures
