use Rattle.std.proofs.Common.{List, ℕ, ap, inr, refl, subst, ◌∙◌}
use Rattle.std.specs.Prelude.{Err}
use Rattle.std.proofs.lemmas.Result.{err_from_is_err_and}
use Rattle.sv_instrument.specs.Command.Unit.{IsNamed}
use Rattle.sv_instrument.proofs.command.read_unit.Goals as goal

pub returns-in_err-command : goal.returns-in_err-command
returns-in_err-command g c = λ unit told.
    let read = rw c.in_ok-unit.was at told in
    let none = rw c.header-header.ensures.text at c.in_err-command.ensures in
    let fault = err_from_is_err_and c.from_residual-in_err-command.result c.from_residual-in_err-command.ensures.1 in
    inr (
      read.1,
      subst (λ (bytes : List ℕ). IsNamed c.args.path.now bytes c.from_residual-in_err-command.result c.args.path.now) read.0
          (inr (none.1, fault.1 ∙ ap Err (fault.2 ∙ none.0), refl)),
    )
