use Rattle.std.proofs.Common.{◌≡◌, map, take}
use Rattle.std.specs.List.{concat}
use Rattle.sv_xdr.specs.Spelling.{spelling, Unsigned}
use Rattle.sv_xdr.specs.Writer.{Appends}
use Rattle.sv_rpc.proofs.reply.words.Given as goal

-- The words before the index are written, in the same output buffer.
abbrev pub invariant-loop-word : goal.invariant-loop-word
invariant-loop-word l = record {
  same_buffer : l.writer.out.ghost_name ≡ l.fn.writer.out.ghost_name;
  written : Appends (concat (map (λ word. spelling (Unsigned word)) (take l.word-index l.words))) l.fn.writer l.writer;
}
