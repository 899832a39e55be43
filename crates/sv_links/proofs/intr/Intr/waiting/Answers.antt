use Rattle.std.proofs.Common.{◌<◌, refl, rules, sym, arith, ◌∙◌}
use Rattle.std.proofs.lemmas.Option.{slice_get_read}
use Rattle.sv_links.specs.Limits.{max_connections}
use Rattle.sv_links.proofs.intr.Intr.waiting.Goals as goal

pub returns-else-is_open-clause-same : goal.returns-else-is_open-clause-same
returns-else-is_open-clause-same g c =
    let items = c.self.inside.channels.items in
    let within : c.from.result < max_connections = omega (arith, c.requires, c.from.ensures) in
    let here =
    slice_get_read items max_connections c.from.result c.index-channel.result.now (sym c.self.invariant.0) within
    c.index-channel.ensures in
    rw (← c.self.view_is, ← c.from.ensures, here, sym c.is_open.ensures ∙ c.if-is_open.false) refl

pub returns-else-is_open-clause-answer : goal.returns-else-is_open-clause-answer
returns-else-is_open-clause-answer g c = search rules

pub returns-else-is_open-clause-bounded : goal.returns-else-is_open-clause-bounded
returns-else-is_open-clause-bounded g c = search rules
