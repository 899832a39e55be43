use Rattle.std.proofs.Common.{[], refl, sym}
use Rattle.std.specs.Prelude.{Ok, Err}
use Rattle.sv_history.specs.Print.{refusal_line}
use Rattle.sv_print.proofs.Taking.{appends_none}
use Rattle.sv_server.specs.declared.replay.ReplayFault.TheVariants.{Write}
use Rattle.sv_server.proofs.OnServer.Standing.{error_passed_on}
use Rattle.sv_server.proofs.OnReplay.Replayed.{replay_shown, replay_stopped, replay_no_memory, other_refusal}
use Rattle.sv_server.proofs.server.Server.print.Goals as goal

pub returns-in_err-show_all-in-Ok : goal.returns-in_err-show_all-in-Ok
returns-in_err-show_all-in-Ok g c = λ config history event log is_log so s.
    rw c.in-Ok.is (replay_shown config history event (Ok c.in-Ok.field-0) c.args.self.now c.show_all.new.self [] _ _ _
    (Err c.in_err-show_all-in-Ok.field-0.0) c.from_residual.result (λ e. cc) refl refl
    (error_passed_on c.from_residual.result Write c.from_residual.ensures.0 c.from_residual.ensures.1) (log, is_log, rw c.in-Ok.is at so)
    (rw c.in-Ok.is at s) (appends_none _)
    (c.in_err-show_all-in-Ok.ensures config))

pub returns-in_err-put_refusal-in-Err : goal.returns-in_err-put_refusal-in-Err
returns-in_err-put_refusal-in-Err g c = λ config history event log is_log so s.
    rw c.in-Err.is (replay_stopped config history event c.in-Err.refused c.args.self.now _ _ c.in_err-put_refusal-in-Err.field-0.0
    c.from_residual-in_err-put_refusal-in-Err.result
    (error_passed_on c.from_residual-in_err-put_refusal-in-Err.result Write c.from_residual-in_err-put_refusal-in-Err.ensures.0
    c.from_residual-in_err-put_refusal-in-Err.ensures.1)
    (log, is_log, rw c.in-Err.is at so) (rw c.in-Err.is at s) c.in_err-put_refusal-in-Err.ensures)

pub returns-then-is_no_memory : goal.returns-then-is_no_memory
returns-then-is_no_memory g c = λ config history event log is_log so s.
    rw c.in-Err.is (replay_no_memory config history event c.in-Err.refused c.args.self.now _ _
    (sym c.if-is_no_memory.ensures) (log, is_log, rw c.in-Err.is at so)
    (rw c.in-Err.is at s) c.in_ok-put_refusal-in-Err.ensures)

pub returns-in_err-show_all-in-Err : goal.returns-in_err-show_all-in-Err
returns-in_err-show_all-in-Err g c = λ config history event log is_log so s.
    rw c.in-Err.is (let other = other_refusal c.in-Err.refused (sym c.if-is_no_memory.ensures) in
    replay_shown config history event (Err c.in-Err.refused) c.args.self.now c.show_all-in-Err.new.self
    (refusal_line c.in-Err.refused) _ _ _ (Err c.in_err-show_all-in-Err.field-0.0)
    c.from_residual-in_err-show_all-in-Err.result other.0 other.1 refl
    (error_passed_on c.from_residual-in_err-show_all-in-Err.result Write c.from_residual-in_err-show_all-in-Err.ensures.0
    c.from_residual-in_err-show_all-in-Err.ensures.1)
    (log, is_log, rw c.in-Err.is at so) (rw c.in-Err.is at s) c.in_ok-put_refusal-in-Err.ensures
    (c.in_err-show_all-in-Err.ensures config))

pub returns-in_ok-show_all-in-Ok : goal.returns-in_ok-show_all-in-Ok
returns-in_ok-show_all-in-Ok g c = λ config history event log is_log so s.
    rw c.in-Ok.is (replay_shown config history event (Ok c.in-Ok.field-0) c.args.self.now c.show_all.new.self [] _ _ _
    (Ok c.in_ok-show_all-in-Ok.field-0) (Ok tt) (λ e. cc) refl refl
    refl (log, is_log, rw c.in-Ok.is at so) (rw c.in-Ok.is at s) (appends_none _)
    (c.in_ok-show_all-in-Ok.ensures config))

pub returns-in_ok-show_all-in-Err : goal.returns-in_ok-show_all-in-Err
returns-in_ok-show_all-in-Err g c = λ config history event log is_log so s.
    rw c.in-Err.is (let other = other_refusal c.in-Err.refused (sym c.if-is_no_memory.ensures) in
    replay_shown config history event (Err c.in-Err.refused) c.args.self.now c.show_all-in-Err.new.self
    (refusal_line c.in-Err.refused) _ _ _ (Ok c.in_ok-show_all-in-Err.field-0) (Ok tt)
    other.0 other.1 refl refl (log, is_log, rw c.in-Err.is at so)
    (rw c.in-Err.is at s) c.in_ok-put_refusal-in-Err.ensures (c.in_ok-show_all-in-Err.ensures config))
