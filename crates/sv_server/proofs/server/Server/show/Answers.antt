use Rattle.sv_history.specs.Print.{port_line}
use Rattle.std.proofs.Common.{List, ℕ, ap}
use Rattle.sv_server.proofs.OnReplay.Shown.{stands_after_took, nothing_shown, part_shown_if_writer_fails}
use Rattle.sv_server.proofs.server.Server.show.Goals as goal

pub returns-then-count-gt0 : goal.returns-then-count-gt0
returns-then-count-gt0 g c = λ config history channel_log log s. (
  port_line c.args.port c.outgoing-bytes.result.now,
  c.in_ok-put_line.ensures,
  (
    ap (λ (l : List ℕ). port_line c.args.port l) (c.outgoing-bytes.ensures.exact config log channel_log s.1 s.3),
    stands_after_took c.args.port c.outgoing-bytes.result.now config history channel_log log c.args.self.now c.port_took.new.self
        c.port_took.result s
        (c.outgoing-bytes.ensures.exact config log channel_log s.1 s.3) c.if-count-gt0.true c.outgoing-bytes.ensures.bounded
        (c.port_took.ensures.acts config log s.1),
  ),
)

pub returns-else-count-gt0 : goal.returns-else-count-gt0
returns-else-count-gt0 g c = λ config history channel_log log s.
    nothing_shown c.args.port c.outgoing-bytes.result.now config history channel_log log c.args.self.now _ _ s
    (c.outgoing-bytes.ensures.exact config log channel_log s.1 s.3) c.if-count-gt0.false c.in_ok-put_line.ensures

pub returns-in_err-put_line : goal.returns-in_err-put_line
returns-in_err-put_line g c = λ config history channel_log log s.
    part_shown_if_writer_fails c.args.port c.outgoing-bytes.result.now config history channel_log log c.args.self.now _ _
    c.in_err-put_line.field-0.0
    c.from_residual.result s (c.outgoing-bytes.ensures.exact config log channel_log s.1 s.3) c.from_residual.ensures.0
    c.in_err-put_line.ensures
