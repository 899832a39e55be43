use Rattle.std.proofs.Common.{rules, tests, arith}
use Rattle.std.proofs.lemmas.Grind.{common_steps}
use Rattle.sv_instrument.proofs.readings.put_readings.Goals as goal

pub returns-in_default-clause-text : goal.returns-in_default-clause-text
returns-in_default-clause-text g c = search (tests, rules)

pub put_reading-requires-clause-room : goal.put_reading-requires-clause-room
put_reading-requires-clause-room g c = search (tests, rules)

pub put_reading-requires-clause-small : goal.put_reading-requires-clause-small
put_reading-requires-clause-small g c = search (tests, rules)

pub loop-reading-init : goal.loop-reading-init
loop-reading-init g c = grind (arith, common_steps)

pub append-requires : goal.append-requires
append-requires g c = search (tests, rules)

pub put_reading-requires-in-loop-reading-clause-room : goal.put_reading-requires-in-loop-reading-clause-room
put_reading-requires-in-loop-reading-clause-room g c = grind (arith, common_steps)

pub put_reading-requires-in-loop-reading-clause-small : goal.put_reading-requires-in-loop-reading-clause-small
put_reading-requires-in-loop-reading-clause-small g c = grind (arith, common_steps)

pub loop-reading-preserved : goal.loop-reading-preserved
loop-reading-preserved g c = grind (arith, common_steps)

pub returns-clause-text : goal.returns-clause-text
returns-clause-text g c = grind (arith, common_steps)

pub returns-clause-capacity : goal.returns-clause-capacity
returns-clause-capacity g c = search (tests, rules)
