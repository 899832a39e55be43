use Rattle.std.proofs.Common.{subst, sym, ◌∙◌, arith}
use Rattle.sv_rpc.specs.Call.{CallIs}
use Rattle.sv_rpc.proofs.Calls.{call_is, call_at_is_unique}
use Rattle.sv_rpc.proofs.call.read_call.Goals as goal

pub returns-clause-found : goal.returns-clause-found
returns-clause-found c = subst (CallIs c.args.bytes.now) (sym c.call_of.ensures)
    (call_is c.args.bytes.now (λ i. omega (arith, c.type_inv.bytes i)))

pub returns-clause-only : goal.returns-clause-only
returns-clause-only c = λ outcome h. c.call_of.ensures ∙ call_at_is_unique c.args.bytes.now outcome (λ i. omega (arith, c.type_inv.bytes i))
    h
