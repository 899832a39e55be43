use Rattle.std.proofs.Common.{refl, rules, drop, inl, inr}
use Rattle.std.proofs.lemmas.List.{nil_from_length}
use Rattle.sv_serve.proofs.driver.Driver.write.Goals as goal

pub returns-then-is_empty : goal.returns-then-is_empty
returns-then-is_empty g c = λ first config history stands. (
  history,
  stands,
  (
    c.waiting-bytes.result.now,
    c.waiting-bytes.ensures.waiting config history (rw (← c.self.view_is) at stands.0),
    inl (nil_from_length _ (search (rules, c.is_empty.ensures, c.if-is_empty.true)), refl),
  ),
)

pub returns : goal.returns
returns g c = rw (← c.self.view_is) (λ first config history stands.
    let waits = c.waiting-bytes.ensures.waiting config history stands.0 in
    let (h0, s0, p0) = c.record_write.ensures _ config history stands
    (c.waiting-bytes.result.now, waits, search rules, c.write-answer.ensures.within) in (
      h0,
      s0,
      (
        c.waiting-bytes.result.now,
        waits,
        inr (
          search rules,
          c.write-answer.result,
          c.write-answer.ensures.within,
          (
            record {
              wire = c.write-answer.new.self;
              history = history;
              dials = c.self.inside.dials;
              ahead = drop c.self.inside.next c.self.inside.scenario.items;
              ticks = c.self.inside.ticks;
            },
            (c.write-answer.new.self, c.write-answer.ensures.heard, refl),
            p0,
          ),
        ),
      ),
    ))
