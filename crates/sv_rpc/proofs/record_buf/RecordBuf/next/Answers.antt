use Rattle.std.proofs.Common.{arith}
use Rattle.std.proofs.lemmas.Grind.{common_steps}
use Rattle.sv_rpc.proofs.record_buf.RecordBuf.next.Goals as goal

pub returns-in-TooLong-clause-value : goal.returns-in-TooLong-clause-value
returns-in-TooLong-clause-value g c = grind (arith, common_steps)

pub returns-in-TooLong-clause-answer : goal.returns-in-TooLong-clause-answer
returns-in-TooLong-clause-answer g c = grind (arith, common_steps)

pub returns-in-Some-clause-value : goal.returns-in-Some-clause-value
returns-in-Some-clause-value g c = grind (arith, common_steps)

pub returns-in-Some-clause-answer : goal.returns-in-Some-clause-answer
returns-in-Some-clause-answer g c = grind (arith, common_steps)

pub returns-in-Header-clause-value : goal.returns-in-Header-clause-value
returns-in-Header-clause-value g c = grind (arith, common_steps)

pub returns-in-Header-clause-answer : goal.returns-in-Header-clause-answer
returns-in-Header-clause-answer g c = grind (arith, common_steps)
