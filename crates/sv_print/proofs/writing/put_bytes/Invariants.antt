use Rattle.std.proofs.Common.{◌≡◌, ℕ, List, ◌++◌}
use Rattle.std.specs.Io.KnownBytes.{Appends}
use Rattle.sv_print.proofs.writing.put_bytes.Given as goal

-- The bytes that were accepted and the remaining ones are the text.
abbrev pub invariant-loop : goal.invariant-loop
invariant-loop g l = (done : List ℕ) × (l.bytes ≡ done ++ l.rest)
    × Appends (g.W.Write.contents l.fn.writer) (g.W.Write.contents l.writer) done
