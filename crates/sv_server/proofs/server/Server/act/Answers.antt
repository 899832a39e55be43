use Rattle.std.proofs.Common.{rules, sym, subst}
use Rattle.sv_history.specs.declared.event.Event.{Event}
use Rattle.sv_history.specs.Event.{Input, plain}
use Rattle.sv_server.specs.Server.Inside.Acting.{Acts}
use Rattle.sv_server.proofs.server.Server.act.Goals as goal

pub returns-in-Input-clause-acts : goal.returns-in-Input-clause-acts
returns-in-Input-clause-acts g c = λ config log rep.
    let did : Acts config (Input c.in-Input.channel c.in-Input.microvolts) log c.input.result c.input.new.self =
    search (rules, c.input.ensures.acts config log rep) in
    subst (λ (e : Event). Acts config (plain e) log c.input.result c.input.new.self) (sym c.in-Input.is) did
