use Rattle.std.proofs.Common.{◌∙◌, sym, ap}
use Rattle.sv_links.specs.Links.{is_this}
use Rattle.sv_links.specs.Table.{Table}
use Rattle.sv_links.proofs.Locks.{holder_is, other_link_holds, this_link_holds, is_table_unlocked}
use Rattle.sv_links.proofs.links.Links.unlock.Goals as goal

pub returns-then-ne-clause-answer : goal.returns-then-ne-clause-answer
returns-then-ne-clause-answer g c acts is =
    let same = ap (λ (table : Table). table.holder) c.self.view_is ∙ sym (holder_is c.args.self.now acts is) in
    other_link_holds c.args.lid c.self.inside.holder c.ne.result c.ne.ensures c.if-ne.true ∙ ap (is_this c.args.lid) same

pub returns-clause-answer : goal.returns-clause-answer
returns-clause-answer g c acts is =
    let same = ap (λ (table : Table). table.holder) c.self.view_is ∙ sym (holder_is c.args.self.now acts is) in
    this_link_holds c.args.lid c.self.inside.holder c.ne.result c.ne.ensures c.if-ne.false ∙ ap (is_this c.args.lid) same

pub returns-clause-stands : goal.returns-clause-stands
returns-clause-stands g c e acts is =
    is_table_unlocked _ c.args.lid acts (this_link_holds c.args.lid c.self.inside.holder c.ne.result c.ne.ensures c.if-ne.false)
    (rw c.self.view_is is)
