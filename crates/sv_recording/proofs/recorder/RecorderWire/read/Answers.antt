use Rattle.std.proofs.Common.{◌≡◌, IfOk, length, subst, sym}
use Rattle.sv_serve.specs.Heard.{WasRead, bytes_of}
use Rattle.sv_recording.specs.Recorded.{heard_of}
use Rattle.sv_recording.proofs.recorder.RecorderWire.read.Goals as goal

pub returns-clause-heard : goal.returns-clause-heard
returns-clause-heard g c =
    let kept = subst (λ n. IfOk c.read_call.result (λ call. heard_of call ≡ WasRead c.args.conn n
    (bytes_of c.read-answer.result c.read-answer.new.buffer)))
    c.read-answer.auto.buffer c.read_call.ensures in
    let both = c.keep_if-2.ensures (WasRead c.args.conn (length c.args.buffer.now)
    (bytes_of c.read-answer.result c.read-answer.new.buffer)) kept in
    rw (← c.self.view_is) (
      subst (λ w. g.W.Wire.hears c.self.inside.wire (WasRead c.args.conn (length c.args.buffer.now)
          (bytes_of c.read-answer.result c.read-answer.new.buffer)) w)
          (sym both.1) c.read-answer.ensures.heard,
      both.0,
    )
