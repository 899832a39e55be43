use Rattle.std.proofs.Common.{◌≡◌, ◌<◌, ◌≤◌, ◌∷◌, refl, rules, take, length, min, inl, sym, ap, subst, ◌∙◌}
use Rattle.sv_history.specs.Event.{Bytes}
use Rattle.sv_history.specs.History.{Answers, history_after}
use Rattle.sv_server.specs.Server.State.{StandsFor}
use Rattle.sv_serve.specs.Heard.{IsWithin}
use Rattle.sv_serve.specs.DriverView.{driver_view}
use Rattle.sv_serve.proofs.Suited.{suited_is_applied, bytes_suit, room_means_open}
use Rattle.sv_serve.proofs.Pieces.{within_piece, overwritten_whole, read_size_is, reads_up_to_answer}
use Rattle.sv_serve.proofs.driver.Driver.read_up_to.Goals as goal

pub invariant_of-self : goal.invariant_of-self
invariant_of-self g c = (
  c.self.invariant.0,
  c.self.invariant.1,
  c.self.invariant.2,
  ap length (overwritten_whole c.self.inside.buffer.len c.self.inside.buffer.items c.deref_mut.result.now c.read_into.new.buffer
      c.deref_mut.ensures.len c.read_into.auto.buffer) ∙ c.read_into.auto.buffer ∙ ap length c.deref_mut.ensures.value ∙ c.self.invariant.3,
)

pub invariant_of-self-in-Pending : goal.invariant_of-self-in-Pending
invariant_of-self-in-Pending g c = (
  c.self.invariant.0,
  c.self.invariant.1,
  c.self.invariant.2,
  ap length (overwritten_whole c.self.inside.buffer.len c.self.inside.buffer.items c.deref_mut.result.now c.read_into.new.buffer
      c.deref_mut.ensures.len c.read_into.auto.buffer) ∙ c.read_into.auto.buffer ∙ ap length c.deref_mut.ensures.value ∙ c.self.invariant.3,
)

pub invariant_of-self-in-Failed : goal.invariant_of-self-in-Failed
invariant_of-self-in-Failed g c = (
  c.self.invariant.0,
  c.self.invariant.1,
  c.self.invariant.2,
  ap length (overwritten_whole c.self.inside.buffer.len c.self.inside.buffer.items c.deref_mut.result.now c.read_into.new.buffer
      c.deref_mut.ensures.len c.read_into.auto.buffer) ∙ c.read_into.auto.buffer ∙ ap length c.deref_mut.ensures.value ∙ c.self.invariant.3,
)

pub returns-then-room-eq0 : goal.returns-then-room-eq0
returns-then-room-eq0 g c = λ first config history stands has.
    let none : c.args.room ≡ 0 = search rules in
    let (h0, s0, p0) = c.probe.ensures _ config history stands in
    (h0, s0, inl (none, p0))

pub returns-in-Got : goal.returns-in-Got
returns-in-Got g c = rw (← c.self.view_is) (λ first config history stands has.
    let some : 0 < c.args.room = search rules in
    let asked : c.min-size.result ≡ min c.args.room 16384 = read_size_is c.len.result c.args.room c.min-size.result c.min-size.ensures
    (c.len.ensures ∙ sym c.deref_mut.ensures.len ∙ ap length c.deref_mut.ensures.value ∙ c.self.invariant.3) in
    let bytes = take c.in-Got.count c.read_into.new.buffer in
    let same : take c.in-Got.count c.deref.result.now ≡ bytes = ap (take c.in-Got.count) (c.deref.ensures.value
    ∙ overwritten_whole c.self.inside.buffer.len c.self.inside.buffer.items c.deref_mut.result.now c.read_into.new.buffer
    c.deref_mut.ensures.len
    c.read_into.auto.buffer) in
    let piece = within_piece c.read_into.result c.read_into.new.buffer (min c.args.room 16384)
    (subst (λ n. IsWithin c.read_into.result n) asked c.read_into.ensures.within) in
    let (log, is_log, says) = c.apply-answer.ensures.answers config history stands.0 in
    let answers = subst (λ l. Answers config (Bytes c.args.conn l) log c.apply-answer.result) same says in
    let few : length bytes ≤ min c.args.room 16384 = rw c.in-Got.is at piece in
    let done = suited_is_applied config (Bytes c.args.conn bytes) (driver_view c.args.self.now history) log c.apply-answer.result is_log
    answers
    (bytes_suit c.args.conn c.args.room bytes config (driver_view c.args.self.now history) c.requires some few has) in (
      Bytes c.args.conn bytes ∷ history,
      (
        subst (λ r. StandsFor c.apply-answer.new.self config (history_after (Bytes c.args.conn bytes) r history)) done
            (subst (λ l. StandsFor c.apply-answer.new.self config (history_after (Bytes c.args.conn l) c.apply-answer.result history)) same
            (c.apply-answer.ensures.stands config history stands.0)),
        subst (λ r. g.J.Journal.notes first (history_after (Bytes c.args.conn bytes) r history) c.note.new.journal) done
            (subst (λ l. g.J.Journal.notes first (history_after
            (Bytes c.args.conn l) c.apply-answer.result history) c.note.new.journal) same
            (c.note.ensures _ history stands.1)),
      ),
      reads_up_to_answer g.W.Wire.hears config c.args.conn c.args.room c.min-size.result c.read_into.result c.read_into.new.buffer _ _
          c.read_into.new.wire some asked c.read_into.ensures.within c.read_into.ensures.heard
          (rw c.in-Got.is (log, is_log, subst (λ r. Answers config (Bytes c.args.conn bytes) log r) done answers, refl)),
    ))

pub returns-in-Pending : goal.returns-in-Pending
returns-in-Pending g c = rw (← c.self.view_is) (λ first config history stands has.
    let some : 0 < c.args.room = search rules in
    let asked : c.min-size.result ≡ min c.args.room 16384 = read_size_is c.len.result c.args.room c.min-size.result c.min-size.ensures
    (c.len.ensures ∙ sym c.deref_mut.ensures.len ∙ ap length c.deref_mut.ensures.value ∙ c.self.invariant.3) in (
      history,
      stands,
      reads_up_to_answer g.W.Wire.hears config c.args.conn c.args.room c.min-size.result c.read_into.result c.read_into.new.buffer _ _
          c.read_into.new.wire some asked c.read_into.ensures.within c.read_into.ensures.heard (rw c.in-Pending.is refl),
    ))

pub returns-in-Failed : goal.returns-in-Failed
returns-in-Failed g c = rw (← c.self.view_is) (λ first config history stands has.
    let some : 0 < c.args.room = search rules in
    let asked : c.min-size.result ≡ min c.args.room 16384 = read_size_is c.len.result c.args.room c.min-size.result c.min-size.ensures
    (c.len.ensures ∙ sym c.deref_mut.ensures.len ∙ ap length c.deref_mut.ensures.value ∙ c.self.invariant.3) in
    let is_open = room_means_open c.args.conn c.args.room config (driver_view c.args.self.now history) c.requires some has in
    let (h0, s0, p0) = c.close.ensures _ config history stands is_open in (
      h0,
      s0,
      reads_up_to_answer g.W.Wire.hears config c.args.conn c.args.room c.min-size.result c.read_into.result c.read_into.new.buffer _ _
          c.read_into.new.wire some asked c.read_into.ensures.within c.read_into.ensures.heard (rw c.in-Failed.is p0),
    ))
