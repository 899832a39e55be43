use Rattle.std.proofs.Common.{◌≡◌, ◌++◌, take}
use Rattle.sv_print.proofs.parts.append_bytes.Given as goal

-- The bytes before the index are appended.
abbrev pub invariant-loop-byte : goal.invariant-loop-byte
invariant-loop-byte l = l.text.items ≡ l.fn.text.items ++ take l.byte-index l.bytes
