use Rattle.std.proofs.Common.{rules, ℕ, map, take, drop, suc, arith, ap, length}
use Rattle.sv_xdr.specs.Spelling.{spelling, Unsigned}
use Rattle.std.proofs.lemmas.Result.{err_from_is_err_and}
use Rattle.sv_rpc.proofs.Written.{appends_next_piece, split_at_piece, appends_stays}
use Rattle.sv_rpc.proofs.reply.words.Goals as goal

pub returns-in_err-u32-clause-writes : goal.returns-in_err-u32-clause-writes
returns-in_err-u32-clause-writes c =
    let p = err_from_is_err_and c.from_residual.result c.from_residual.ensures.1 in
    let f = λ (word : ℕ). spelling (Unsigned word) in
    let i = c.loop-word.word-index in
    let words = c.args.words.now in
    let e = c.in_err-u32.ensures.exact in
    let written = appends_stays _ c.args.writer.now c.loop-word.writer c.u32.new.self c.loop-word.invariant.written e.2 in
    rw (p.1, p.2) (
      e.0,
      map f (take i words),
      map f (drop (suc i) words),
      _,
      split_at_piece f words i c.loop-word-test.true,
      written,
      omega (arith, ap length e.2.rest),
    )

pub loop-word-preserved : goal.loop-word-preserved
loop-word-preserved c =
    record {
      same_buffer = search rules;
      written =
          appends_next_piece (λ word. spelling (Unsigned word)) c.args.words.now c.loop-word.word-index c.args.writer.now c.loop-word.writer
          c.u32.new.self c.loop-word-test.true c.loop-word.invariant.written c.in_ok-u32.ensures.exact;
    }
