use Rattle.std.proofs.Common.{◌≡◌, ℕ, ◌<◌, List, ◌++◌, length}
use Rattle.sv_rpc.specs.Representation.{InRoom, GoesOn, Keeps}
use Rattle.sv_rpc.proofs.record_buf.RecordBuf.push.Given as goal

-- The bytes pushed so far have extended the stream, and the remaining ones fit.
abbrev pub invariant-loop-rest : goal.invariant-loop-rest
invariant-loop-rest g l = record {
  fits : 0 < length l.rest → InRoom l.self (length l.rest);
  stands : (taken : List ℕ) × (l.fn.piece ≡ taken ++ l.rest) × GoesOn l.fn.self l.self taken;
  keeps : Keeps l.fn.self l.self;
}

abbrev pub decreases-loop-rest : goal.decreases-loop-rest
decreases-loop-rest g l = length l.rest
