use Rattle.std.proofs.Common.{◌≡◌, ◌++◌, take}
use Rattle.sv_print.specs.Parts.{parts_text}
use Rattle.sv_print.proofs.parts.append_all.Given as goal

-- The parts before the index are appended.
abbrev pub invariant-loop-part : goal.invariant-loop-part
invariant-loop-part l = l.text.items ≡ l.fn.text.items ++ parts_text (take l.part-index l.parts)
