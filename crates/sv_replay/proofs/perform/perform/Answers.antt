use Rattle.std.proofs.Common.{[], refl}
use Rattle.sv_history.specs.Event.{plain}
use Rattle.sv_print.proofs.Taking.{appends_none}
use Rattle.sv_replay.proofs.Printed.{performs_one}
use Rattle.sv_replay.proofs.perform.perform.Goals as goal

pub returns-in-Blank : goal.returns-in-Blank
returns-in-Blank g c = λ config history s. rw c.in-Blank.is ([], history, (refl, refl), s, appends_none _)

pub returns-in-One : goal.returns-in-One
returns-in-One g c = λ config history s.
    let (text, after, prints, stands, put) = c.apply.ensures config history s in
    rw c.in-One.is (
      text,
      after,
      performs_one c.args.mode c.args.number config history (plain c.in-One.event) c.apply.result text after prints,
      stands,
      put,
    )

pub returns-in-Ticks : goal.returns-in-Ticks
returns-in-Ticks g c = λ config history s. rw c.in-Ticks.is (c.pass.ensures config history s)
