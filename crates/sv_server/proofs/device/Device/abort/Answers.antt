use Rattle.std.proofs.Common.{rules, ◌≡◌, ◌∙◌, ap}
use Rattle.std.specs.Prelude.{ℕ, Option, Some}
use Rattle.sv_history.specs.CoreCall.{lid_of}
use Rattle.sv_history.specs.AbortChannel.{owner_of, if_waiting, abort_result}
use Rattle.sv_server.proofs.device.Device.abort.Goals as goal

pub returns-clause-answer : goal.returns-clause-answer
returns-clause-answer g c = λ config acts is.
    let same : c.lid_of-lid.result ≡ lid_of (Some c.args.lid) = search (rules, c.lid_of-lid.ensures) in
    c.abort_result.ensures.answer config acts is ∙ ap (λ (lid : Option ℕ). abort_result lid acts) same

pub returns-clause-conn : goal.returns-clause-conn
returns-clause-conn g c = λ config acts is.
    let same : c.lid_of-lid.result ≡ lid_of (Some c.args.lid) = search (rules, c.lid_of-lid.ensures) in
    c.aborted.ensures config acts is ∙ ap (λ (lid : Option ℕ). if_waiting (owner_of lid acts) lid acts) same
