use Rattle.std.proofs.Common.{subst, sym, arith}
use Rattle.sv_vxi.specs.Arguments.{ArgumentsAre}
use Rattle.sv_vxi.proofs.ArgumentBytes.{arguments_unique, arguments_are}
use Rattle.sv_vxi.proofs.reading.read_args.Goals as goal

pub returns-clause-found : goal.returns-clause-found
returns-clause-found c = subst (ArgumentsAre c.args.proc c.args.bytes.now) (sym c.args_of.ensures)
    (arguments_are c.args.proc c.args.bytes.now (λ i. omega (arith, c.type_inv.bytes i)) c.requires)

pub returns-clause-only : goal.returns-clause-only
returns-clause-only c = λ outcome h. arguments_unique c.args.proc c.args.bytes.now _ outcome (returns-clause-found c) h
