use Rattle.std.proofs.Common.{rules, sym, ap, ◌∙◌, Ok}
use Rattle.sv_xdr.specs.Reader.{signed_at}
use Rattle.sv_xdr.proofs.Fields.{signed_reads, ok_pair_parts}
use Rattle.sv_xdr.proofs.reader.Reader.i32.Goals as goal

pub returns-clause-exact : goal.returns-clause-exact
unfolding signed_at
returns-clause-exact c = rw (c.in_ok-word.ensures.exact) (search rules)

pub returns-clause-only : goal.returns-clause-only
returns-clause-only c = λ z after b.
    let parts = ok_pair_parts _ z c.u32.new.self after (sym (returns-clause-exact c) ∙ signed_reads c.args.self.now after z b) in
    (ap (λ y. Ok y) parts.0, parts.1)

pub returns-clause-found : goal.returns-clause-found
returns-clause-found c = search rules
