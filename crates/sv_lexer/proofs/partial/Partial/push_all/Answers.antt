use Rattle.std.proofs.Common.{◌≡◌, ◌∙◌, refl, ap, inl, inr}
use Rattle.sv_lexer.specs.Inside.Moved.{progress_to}
use Rattle.sv_lexer.specs.declared.stage.Stage.{Stage}
use Rattle.sv_lexer.proofs.Finished.{reads_byte, reads_next_byte}
use Rattle.sv_lexer.proofs.partial.Partial.push_all.Goals.{in-WhiteSpace, in-Asterisk, in-Colon, in-CommonMnemonic, in-HeaderSeparator, in-ProgramData, in-DataSpace}
use Rattle.sv_lexer.proofs.partial.Partial.push_all.Goals as goal
use Rattle.sv_lexer.proofs.partial.Partial.push_all.Invariants.{progress_of}

pub loop-byte-preserved : goal.loop-byte-preserved
loop-byte-preserved c =
    let size = c.saturating_add-self-inside.ensures in
    let moved : progress_of c.match-self.self-inside ≡ progress_to c.next-self-inside.result (progress_of c.loop-byte.self-inside) =
    elim c.match-self.branch [
      | in-WhiteSpace w ↦ rw (w.self-inside-is, w.in-WhiteSpace.is, size) refl
      | in-Asterisk w ↦ elim w.in-Asterisk.is [
        | inl e ↦ rw (w.self-inside-is, e, size) refl
        | inr e ↦ rw (w.self-inside-is, e, size) refl
      ]
      | in-Colon w ↦ rw (w.self-inside-is, w.in-Colon.is, size, w.max-self-inside.ensures) refl
      | in-CommonMnemonic w ↦ elim w.in-CommonMnemonic.is [
        | inl e ↦ rw (w.self-inside-is, e, size, w.saturating_add-self-inside-in-CommonMnemonic.ensures) refl
        | inr e ↦ rw (w.self-inside-is, e, size, w.saturating_add-self-inside-in-CommonMnemonic.ensures) refl
      ]
      | in-HeaderSeparator w ↦ rw (w.self-inside-is, w.in-HeaderSeparator.is, size) refl
      | in-ProgramData w ↦ rw (w.self-inside-is, w.in-ProgramData.is, size) refl
      | in-DataSpace w ↦ elim w.in-DataSpace.is [
        | inl e ↦ rw (w.self-inside-is, e, size) refl
        | inr (inl e) ↦ rw (w.self-inside-is, e, size) refl
        | inr (inr e) ↦ rw (w.self-inside-is, e, size) refl
      ]
    ] in
    let stage = ap (λ (s : Stage). progress_to s (progress_of c.loop-byte.self-inside)) c.next-self-inside.ensures in
    λ before reads.
    reads_next_byte _ before _ _ c.loop-byte-test.true
    (reads_byte (progress_of c.loop-byte.self-inside) _ _ _ (moved ∙ stage) (c.loop-byte.invariant before reads))
