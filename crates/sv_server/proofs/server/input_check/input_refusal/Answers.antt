use Rattle.std.proofs.Common.{◌≡◌, rules, false, refl}
use Rattle.sv_history.specs.History.{is_beyond}
use Rattle.sv_server.proofs.server.input_check.input_refusal.Goals as goal

pub returns-in-Ok : goal.returns-in-Ok
returns-in-Ok c =
    let known = c.in-Ok.ensures in
    let near : is_beyond c.args.microvolts ≡ false = search (rules, known.2) in
    rw (known.1, near) refl
