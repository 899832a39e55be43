-- What a recorder records of the calls of a wire's methods.
use Rattle.std.specs.Prelude.{◌≡◌, Bool, true, List, ◌∷◌, ◌++◌}
use Rattle.sv_serve.specs.declared.wire.Answer.{Answer}
use Rattle.sv_serve.specs.declared.wire.Answer.TheVariants.{Got, Pending, Failed}
use Rattle.sv_serve.specs.Heard.{Heard, WasAccepted, WasRead, WasProbed, WasWritten, WasDialed, PeerAnswered, WasClosed, Through}
use Rattle.sv_recording.specs.declared.call.Call.{Call}
use Rattle.sv_recording.specs.declared.call.Call.TheVariants.{Accept, Read, Probe, Write, Dial, Dialed, Close}

-- a recorded call in the form of the specification
abbrev pub heard_of : Call → Heard
heard_of (Accept role conn answer) = WasAccepted role conn answer
heard_of (Read conn most Pending) = WasRead conn most Pending
heard_of (Read conn most Failed) = WasRead conn most Failed
heard_of (Read conn most (Got bytes)) = WasRead conn most (Got bytes.items)
heard_of (Probe conn drops answer) = WasProbed conn drops answer
heard_of (Write port bytes answer) = WasWritten port bytes.items answer
heard_of (Dial conn dial answer) = WasDialed conn dial answer
heard_of (Dialed conn answer) = PeerAnswered conn answer
heard_of (Close port) = WasClosed port

-- the state of a recorder: the wire whose methods it calls for the driver; the recorded calls and
-- their answers, the newest first; and whether all calls were recorded
pub record Recording (W : Type 0) : Type 0 where
  pub wire : W
  pub trace : List Heard
  pub is_whole : Bool

-- If the recorder's trace is complete after this call, the trace was complete before the call, and
-- the call was added to its front.
abbrev pub Keeps : {W : Type 0} → Recording W → Heard → Recording W → Type 0
Keeps before heard after = after.is_whole ≡ true → (before.is_whole ≡ true) × (after.trace ≡ heard ∷ before.trace)

-- The method of the recorded wire was called, and returned this answer. The call is recorded,
-- unless memory for this call or for an earlier call was refused.
abbrev pub Passes : {W : Type 0} → (W → Heard → W → Type 0) → Recording W → Heard → Recording W → Type 0
Passes hears before heard after = hears before.wire heard after.wire × Keeps before heard after

-- When a method of the recorder is called, the recorder calls the same method of the recorded wire,
-- and returns the wire's answer. If all calls could be recorded, the recorder's trace now has the
-- new calls in front of those recorded before.
abbrev pub TraceIsKept : {W : Type 0} → (W → Heard → W → Type 0) → (Recording W → Heard → Recording W → Type 0) → Type 0
TraceIsKept hears recorded = (trace : List Heard) (start now : Recording _) → Through recorded trace start now
    → Through hears trace start.wire now.wire × (now.is_whole ≡ true → now.trace ≡ trace ++ start.trace)
