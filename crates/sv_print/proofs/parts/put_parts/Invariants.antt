use Rattle.std.proofs.Common.{take}
use Rattle.std.specs.Io.KnownBytes.{Appends}
use Rattle.sv_print.specs.Parts.{parts_text}
use Rattle.sv_print.proofs.parts.put_parts.Given as goal

-- The parts before the index were accepted.
abbrev pub invariant-loop-part : goal.invariant-loop-part
invariant-loop-part g l = Appends (g.W.Write.contents l.fn.writer) (g.W.Write.contents l.writer) (parts_text (take l.part-index l.parts))
