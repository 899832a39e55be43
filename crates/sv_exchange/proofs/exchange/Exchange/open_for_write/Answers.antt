use Rattle.std.proofs.Common.{not, ap, sym, ◌∙◌}
use Rattle.sv_exchange.specs.Contents.{Contents}
use Rattle.sv_exchange.proofs.Dues.{has_ended_by_contents}
use Rattle.sv_exchange.proofs.exchange.Exchange.open_for_write.Goals as goal

pub returns-clause-answer : goal.returns-clause-answer
returns-clause-answer g c = λ acts s. ap (λ (contents : Contents). not contents.ended) c.self.view_is
    ∙ sym (ap not (has_ended_by_contents c.args.self.now acts s))
