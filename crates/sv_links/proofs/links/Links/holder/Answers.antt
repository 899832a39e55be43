use Rattle.std.proofs.Common.{◌∙◌, sym, ap, rules}
use Rattle.sv_links.specs.Table.{Table}
use Rattle.sv_links.proofs.Locks.{holder_is}
use Rattle.sv_links.proofs.links.Links.holder.Goals as goal

pub returns-clause-answer : goal.returns-clause-answer
returns-clause-answer g c acts is =
    ap (λ (table : Table). table.holder) c.self.view_is ∙ sym (holder_is c.args.self.now acts is)

pub returns-clause-value : goal.returns-clause-value
returns-clause-value g c = search rules
