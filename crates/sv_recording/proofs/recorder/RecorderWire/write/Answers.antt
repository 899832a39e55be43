use Rattle.std.proofs.Common.{subst, sym}
use Rattle.sv_serve.specs.Heard.{WasWritten}
use Rattle.sv_recording.proofs.recorder.RecorderWire.write.Goals as goal

pub returns-clause-heard : goal.returns-clause-heard
returns-clause-heard g c =
    let both = c.keep_if-2.ensures (WasWritten c.args.port c.args.bytes.now c.write-answer.result) c.write_call.ensures in
    rw (← c.self.view_is) (
      subst (λ w. g.W.Wire.hears c.self.inside.wire (WasWritten c.args.port c.args.bytes.now c.write-answer.result) w)
          (sym both.1) c.write-answer.ensures.heard,
      both.0,
    )
