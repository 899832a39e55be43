use Rattle.std.proofs.Common.{refl, rules, drop, ◌+◌, arith}
use Rattle.std.proofs.lemmas.Option.{slice_get_read}
use Rattle.sv_serve.proofs.Joined.{drop_from_entry}
use Rattle.sv_history.specs.Event.{plain}
use Rattle.sv_history.specs.History.{history_after}
use Rattle.sv_serve.proofs.driver.Driver.play_one.Goals as goal

pub returns-clause-goes : goal.returns-clause-goes
returns-clause-goes g c = rw (← c.self.view_is) (λ first config history stands.
    let (log, is_log, answers) = c.apply-answer.ensures.answers config history stands.0 in
    let seen = rw c.deref.ensures.value at c.in-Some.ensures.lookup in
    let after = history_after (plain c.event-event.result) c.apply-answer.result history in (
      after,
      (c.apply-answer.ensures.stands config history stands.0, c.note.ensures _ history stands.1),
      (
        c.in-Some.entry.now,
        drop (c.self.inside.next + 1) c.self.inside.scenario.items,
        record {
          wire = c.self.inside.wire;
          history = after;
          dials = c.self.inside.dials;
          ahead = drop c.self.inside.next c.self.inside.scenario.items;
          ticks = c.self.inside.ticks;
        },
        drop_from_entry c.self.inside.scenario.items c.self.inside.next (c.self.inside.next + 1) c.in-Some.entry.now (omega arith)
            (slice_get_read c.self.inside.scenario.items _ c.self.inside.next c.in-Some.entry.now refl seen.3.0 seen.1),
        search (rules, c.if-entry-self.false),
        rw (← c.event-event.ensures) (c.apply-answer.result, (log, is_log, answers, refl)),
        refl,
      ),
    ))
