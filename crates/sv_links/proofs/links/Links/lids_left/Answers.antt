use Rattle.std.proofs.Common.{rules}
use Rattle.sv_links.proofs.links.Links.lids_left.Goals as goal

pub returns : goal.returns
returns g c = search rules
