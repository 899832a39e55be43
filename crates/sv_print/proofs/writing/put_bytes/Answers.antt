use Rattle.sv_print.proofs.Taking.{more_bytes_taken}
use Rattle.sv_print.proofs.writing.put_bytes.Goals as goal

pub loop-preserved : goal.loop-preserved
loop-preserved g c =
    more_bytes_taken c.args.bytes.now c.loop.invariant.0 c.loop.rest.now c.in_ok-count.count _ _ _ c.loop.invariant.1
    c.in_ok-count.ensures.within
    c.loop.invariant.2 c.in_ok-count.ensures.taken
