use Rattle.sv_recording.proofs.Traces.{whole_trace_is_kept, recorded_calls_were_made}
use Rattle.sv_recording.proofs.laws.trace_is_kept.Goals as goal

pub returns : goal.returns
returns g c = λ trace start now through. (
  recorded_calls_were_made g.W.Wire.hears trace start now through,
  λ whole. whole_trace_is_kept g.W.Wire.hears trace start now through
      whole,
)
