use Rattle.std.proofs.Common.{rules}
use Rattle.sv_xdr.specs.Reader.{boolean_at}
use Rattle.sv_xdr.proofs.reader.Reader.boolean.Goals as goal

pub returns-clause-found : goal.returns-clause-found
returns-clause-found c = search rules

pub returns-clause-exact : goal.returns-clause-exact
unfolding boolean_at
returns-clause-exact c = search rules
