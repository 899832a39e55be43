use Rattle.std.proofs.Common.{◌≡◌, ℕ, ◌+◌, ◌-◌, ◌≤◌, [], ◌∷◌, ◌++◌, length, take, drop, slice_range, ap, refl, rules, arith, inl, inr, Ok, Err, Some, None}
use Rattle.std.proofs.lemmas.List.{places}
use Rattle.std.proofs.lemmas.Result.{err_from_is_err_and}
use Rattle.sv_replay.specs.Text.{Held, IsKept}
use Rattle.sv_replay.proofs.Heard.{read_failed}
use Rattle.sv_replay.proofs.Texts.{written, read_keeps}
use Rattle.sv_replay.proofs.text.Text.fill.Given.{Over}
use Rattle.sv_replay.proofs.text.Text.fill.Goals as goal
use Rattle.sv_replay.proofs.text.Text.fill.Goals.{After-read_behind}

-- After the read, the buffer holds the text followed by the `count` bytes that were read.
kept : (g : Over) (c : After-read_behind g) (count last more : ℕ)
    → count ≤ length (drop (c.self.inside.end - c.make_room-moved.result) c.read_behind.new.buffer)
    → last ≡ c.self.inside.end - c.make_room-moved.result + count → more ≤ c.self.inside.reads + 1
    → (let all = written c.self.inside.buffer.len c.read_behind.new.buffer
    (written c.self.inside.buffer.len c.make_room-moved.new.buffer c.self.inside.buffer.items) in
    let start = c.self.inside.start - c.make_room-moved.result in
    IsKept all start (c.self.inside.clean - c.make_room-moved.result) last more
    × (slice_range all start last
    ≡ c.args.self.now.text ++ take count (drop (c.self.inside.end - c.make_room-moved.result) c.read_behind.new.buffer)))
kept g c count last more some last_is few =
    read_keeps c.self.inside.buffer.items c.deref_mut.result.now c.make_room-moved.new.buffer c.deref_mut-2.result.now
    c.read_behind.new.buffer c.self.inside.buffer.len _ _ _ _ c.make_room-moved.result count last more c.args.self.now.text
    c.self.invariant (ap (λ (held : Held). held.text) c.self.view_is) c.requires (search (rules, places)) c.deref_mut.ensures.value
    (search (rules, places)) c.make_room-moved.ensures.within c.make_room-moved.ensures.moved c.make_room-moved.ensures.room
    c.deref_mut-2.ensures.value (search (rules, places)) c.read_behind.ensures.front some last_is
    (omega (arith, few, c.if-self-ge-MOST_READS.false, c.self.invariant.few))

pub invariant_of-self : goal.invariant_of-self
invariant_of-self g c =
    (kept g (goal.at.invariant_of-self g c).After-read_behind 0 (c.self.inside.end - c.make_room-moved.result) c.self.inside.reads
    (omega arith) (omega arith) (omega arith)).0

pub returns-in_err-came-clause-took : goal.returns-in_err-came-clause-took
returns-in_err-came-clause-took g c =
    let p = err_from_is_err_and c.from_residual.result c.from_residual.ensures.1 in
    rw p.1 (
      [],
      c.in_err-came.ensures.came,
      (kept g (goal.at.returns-in_err-came-clause-took g c).After-read_behind 0 (c.self.inside.end - c.make_room-moved.result)
          c.self.inside.reads (omega arith) (omega arith) (omega arith)).1,
      refl,
    )

pub invariant_of-self-in-Some : goal.invariant_of-self-in-Some
invariant_of-self-in-Some g c =
    let came = rw c.in-Some.is at c.in_ok-came.ensures.came in
    (kept g (goal.at.invariant_of-self-in-Some g c).After-read_behind c.in-Some.count
    (c.self.inside.end - c.make_room-moved.result + c.in-Some.count) (c.self.inside.reads + 1) came.0 refl (omega arith)).0

pub returns-in-Some-clause-took : goal.returns-in-Some-clause-took
returns-in-Some-clause-took g c =
    let came = rw c.in-Some.is at c.in_ok-came.ensures.came in (
      take c.in-Some.count (drop (c.self.inside.end - c.make_room-moved.result) c.read_behind.new.buffer),
      came.1,
      (kept g (goal.at.returns-in-Some-clause-took g c).After-read_behind c.in-Some.count
          (c.self.inside.end - c.make_room-moved.result + c.in-Some.count) (c.self.inside.reads + 1) came.0 refl (omega arith)).1,
      tt,
    )

pub invariant_of-self-in-None : goal.invariant_of-self-in-None
invariant_of-self-in-None g c =
    (kept g (goal.at.invariant_of-self-in-None g c).After-read_behind 0 (c.self.inside.end - c.make_room-moved.result)
    (c.self.inside.reads + 1) (omega arith) (omega arith) (omega arith)).0

pub returns-in-None-clause-took : goal.returns-in-None-clause-took
returns-in-None-clause-took g c =
    let came = rw c.in-None.is at c.in_ok-came.ensures.came in (
      [],
      came.0,
      (kept g (goal.at.returns-in-None-clause-took g c).After-read_behind 0 (c.self.inside.end - c.make_room-moved.result)
          (c.self.inside.reads + 1) (omega arith) (omega arith) (omega arith)).1,
      (refl, came.1),
    )

pub returns-then-self-ge-MOST_READS-clause-heard : goal.returns-then-self-ge-MOST_READS-clause-heard
returns-then-self-ge-MOST_READS-clause-heard g c = λ first reads made as_many. (
  reads,
  made,
  inr (omega (
    arith,
    as_many,
    ap (λ (held : Held). held.reads) c.self.view_is,
    c.if-self-ge-MOST_READS.true,
    c.self.invariant.few,
  )),
)

pub returns-in_err-came-clause-heard : goal.returns-in_err-came-clause-heard
returns-in_err-came-clause-heard g c = λ first reads made as_many.
    read_failed _ first _ _ (Err c.in_err-came.field-0.0 ∷ reads) c.from_residual.result c.from_residual.ensures.0 (
      (_, made.0, c.in_err-came.ensures.heard),
      omega (
        arith,
        as_many,
        ap (λ (held : Held). held.reads) c.self.view_is,
        c.if-self-ge-MOST_READS.false,
      ),
    ) (inl tt)

pub returns-in-Some-clause-heard : goal.returns-in-Some-clause-heard
returns-in-Some-clause-heard g c = λ first reads made as_many. (
  Ok (Some c.in-Some.count) ∷ reads,
  (
    (_, made.0, rw c.in-Some.is at c.in_ok-came.ensures.heard),
    omega (arith, as_many, ap (λ (held : Held). held.reads) c.self.view_is, c.if-self-ge-MOST_READS.false),
  ),
  omega (arith, as_many, ap (λ (held : Held). held.reads) c.self.view_is),
)

pub returns-in-None-clause-heard : goal.returns-in-None-clause-heard
returns-in-None-clause-heard g c = λ first reads made as_many. (
  Ok None ∷ reads,
  (
    (_, made.0, rw c.in-None.is at c.in_ok-came.ensures.heard),
    omega (arith, as_many, ap (λ (held : Held). held.reads) c.self.view_is, c.if-self-ge-MOST_READS.false),
  ),
  omega (arith, as_many, ap (λ (held : Held). held.reads) c.self.view_is),
)
