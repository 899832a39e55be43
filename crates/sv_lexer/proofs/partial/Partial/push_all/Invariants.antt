use Rattle.std.proofs.Common.{ℕ, List, ◌++◌, take}
use Rattle.sv_lexer.specs.Partial.{Progress, Reads}
use Rattle.sv_lexer.specs.declared.partial.Partial.TheInside.{Inside}
use Rattle.sv_lexer.proofs.partial.Partial.push_all.Given as goal

-- The progress that the fields record.
abbrev pub progress_of : Inside → Progress
progress_of p = record {
  stage = p.stage;
  size = p.size;
  header_start = p.header_start;
  header_end = p.header_end;
  mnemonic = p.mnemonic;
  longest = p.longest;
  data_start = p.data_start;
  data_end = p.data_end;
}

-- The bytes before the index were read.
abbrev pub invariant-loop-byte : goal.invariant-loop-byte
invariant-loop-byte l = (before : List ℕ) → Reads l.fn.self before → Reads (progress_of l.self-inside) (before ++ take l.byte-index l.bytes)
