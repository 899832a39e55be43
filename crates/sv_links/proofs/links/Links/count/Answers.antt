use Rattle.std.proofs.Common.{◌∙◌, ap}
use Rattle.sv_links.specs.Table.{count_of}
use Rattle.sv_links.proofs.Tables.{count_is_live}
use Rattle.sv_links.proofs.links.Links.count.Goals as goal

pub returns-clause-answer : goal.returns-clause-answer
returns-clause-answer g c acts is = c.len.ensures ∙ ap count_of c.self.view_is ∙ count_is_live c.args.self.now acts is
