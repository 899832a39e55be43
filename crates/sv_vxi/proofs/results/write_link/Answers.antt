use Rattle.std.proofs.Common.{rules, pos}
use Rattle.sv_xdr.specs.Spelling.{spelling, Signed}
use Rattle.sv_xdr.specs.Writer.{Appends}
use Rattle.sv_xdr.proofs.Appended.{each_stops_at_fault, each_first, each_last}
use Rattle.sv_vxi.specs.ErrorCode.{unless_error}
use Rattle.sv_vxi.specs.Results.{error_field}
use Rattle.sv_vxi.proofs.results.write_link.Goals as goal

pub returns-in_err-i32-clause-writes : goal.returns-in_err-i32-clause-writes
returns-in_err-i32-clause-writes c = search (rules, each_stops_at_fault)

pub returns-in_err-i32-2-clause-writes : goal.returns-in_err-i32-2-clause-writes
returns-in_err-i32-2-clause-writes c = search (rules, each_stops_at_fault, each_first, c.in_ok-i32.ensures.exact)

pub returns-in_err-u32-clause-writes : goal.returns-in_err-u32-clause-writes
returns-in_err-u32-clause-writes c =
    let first : Appends (spelling (error_field c.args.error)) c.args.writer.now c.i32.new.self =
    search (rules, c.in_ok-i32.ensures.exact) in
    let second : Appends (spelling (Signed (unless_error c.args.error c.args.lid (pos 0)))) c.i32.new.self c.i32-2.new.self =
    search (rules, c.in_ok-i32-2.ensures.exact) in
    search (rules, each_stops_at_fault, each_first, first, second)

pub returns-clause-writes : goal.returns-clause-writes
returns-clause-writes c = search (
  rules,
  each_first,
  each_last,
  c.in_ok-i32.ensures.exact,
  c.in_ok-i32-2.ensures.exact,
  c.in_ok-u32.ensures.exact,
)
