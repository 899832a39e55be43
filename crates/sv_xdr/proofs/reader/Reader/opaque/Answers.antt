use Rattle.std.proofs.Common.{rules, sym, ap, ◌∙◌}
use Rattle.sv_xdr.specs.Reader.{unsigned_at, opaque_at}
use Rattle.sv_xdr.proofs.Fields.{opaque_takes, opaque_length_decides, ok_pair_parts}
use Rattle.sv_xdr.proofs.reader.Reader.opaque.Goals as goal

pub returns-in_err-text-clause-only : goal.returns-in_err-text-clause-only
returns-in_err-text-clause-only c = λ text after b short.
    let first = ap unsigned_at (sym c.self.view_is) ∙ c.in_ok-size.ensures.exact in
    let e = opaque_length_decides c.args.max c.in_ok-size.size c.args.self.now c.u32.new.self text after _ first c.if-max-size.false
    c.in_err-text.ensures.0 b short in absurd cc

pub returns-clause-found : goal.returns-clause-found
returns-clause-found c =
    let begins = c.in_ok-size.ensures.found in
    rw c.ahead.view_is (opaque_takes c.args.self.now begins.0 c.u32.new.self c.in_ok-text.text.now c.padded.new.self c.in_ok-size.size
    c.args.max (sym c.self.view_is ∙ begins.2) begins.1 c.if-max-size.false c.in_ok-text.ensures)

pub returns-clause-only : goal.returns-clause-only
returns-clause-only c = λ text after b short.
    let first = ap unsigned_at (sym c.self.view_is) ∙ c.in_ok-size.ensures.exact in
    let e = opaque_length_decides c.args.max c.in_ok-size.size c.args.self.now c.u32.new.self text after _ first c.if-max-size.false
    c.in_ok-text.ensures b short in
    let parts = ok_pair_parts c.in_ok-text.text.now text c.padded.new.self after e in
    (parts.0, rw c.ahead.view_is parts.1)

pub returns-clause-exact : goal.returns-clause-exact
unfolding opaque_at
returns-clause-exact c = search rules

pub returns-then-max-size-clause-only : goal.returns-then-max-size-clause-only
returns-then-max-size-clause-only c = search rules

pub returns-then-max-size-clause-exact : goal.returns-then-max-size-clause-exact
unfolding opaque_at
returns-then-max-size-clause-exact c = search rules

pub returns-in_err-text-clause-exact : goal.returns-in_err-text-clause-exact
unfolding opaque_at
returns-in_err-text-clause-exact c = search rules
