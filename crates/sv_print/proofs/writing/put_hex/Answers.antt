use Rattle.sv_print.proofs.Taking.{hex_none, hex_more, hex_stop, take_and_drop_join}
use Rattle.sv_print.proofs.writing.put_hex.Goals as goal

pub loop-rest-init : goal.loop-rest-init
loop-rest-init g c = hex_none _ c.args.bytes.now

pub returns-in_err-put_piece : goal.returns-in_err-put_piece
returns-in_err-put_piece g c =
    hex_stop c.args.bytes.now c.loop-rest.invariant.0 c.loop-rest.rest.now c.split_at.result.0.now c.split_at.result.1.now _ _ _
    c.in_err-put_piece.field-0.0 c.from_residual.result c.loop-rest.invariant.1
    (take_and_drop_join _ c.loop-rest.rest.now _ _ c.split_at.ensures.front c.split_at.ensures.back) c.from_residual.ensures.0
    c.loop-rest.invariant.2
    c.in_err-put_piece.ensures

pub loop-rest-preserved : goal.loop-rest-preserved
loop-rest-preserved g c =
    hex_more c.args.bytes.now c.loop-rest.invariant.0 c.loop-rest.rest.now c.split_at.result.0.now c.split_at.result.1.now _ _ _
    c.loop-rest.invariant.1
    (take_and_drop_join _ c.loop-rest.rest.now _ _ c.split_at.ensures.front c.split_at.ensures.back) c.loop-rest.invariant.2
    c.in_ok-put_piece.ensures
