use Rattle.std.proofs.Common.{◌≡◌, ◌+◌, ◌*◌, length, ◌∙◌, arith}
use Rattle.sv_rpc.specs.RecordBuf.{room_of}
use Rattle.sv_rpc.specs.Representation.{begun_of}
use Rattle.sv_rpc.proofs.Records.{room_is_of_stream, room_by_parts}
use Rattle.sv_rpc.proofs.record_buf.RecordBuf.room.Given.{Over}
use Rattle.sv_rpc.proofs.record_buf.RecordBuf.room.Goals as goal
use Rattle.sv_rpc.proofs.record_buf.RecordBuf.room.Goals.{in-Header, in-Data, in-TooLong}

value : (g : Over) (c : goal.After-saturating_sub g) → c.saturating_sub.result ≡ room_of c.args.self.now
value g c =
    let begun : c.match-self.begun ≡ begun_of c.self.inside.place c.self.inside.header_len =
    elim c.match-self.branch [
      | in-Header w ↦ rw w.in-Header.is w.begun-is
      | in-Data w ↦ rw w.in-Data.is w.begun-is
      | in-TooLong w ↦
          rw w.in-TooLong.is w.begun-is
    ] in
    let parts = room_by_parts _ _ _ _ _ _ _ _ _ c.self.invariant begun in
    let counted : 4 * c.len.result + c.len-2.result + 4 + c.match-self.begun
    ≡ 4 * length c.self.inside.lengths.items + length c.self.inside.bytes.items + 4 + c.match-self.begun = omega arith in
    c.saturating_sub.ensures ∙ rw (← c.self.view_is) (rw counted parts)

pub returns-clause-value : goal.returns-clause-value
returns-clause-value g c = value g c

pub returns-clause-answer : goal.returns-clause-answer
returns-clause-answer g c = λ stream dropped s. room_is_of_stream c.args.self.now stream dropped _ (value g c) s
