use Rattle.std.proofs.Common.{w16, FitsSigned, rules, sym, arith}
use Rattle.std.proofs.lemmas.Int.{to_z-of_z}
use Rattle.sv_errors.specs.Code.{number_of}
use Rattle.sv_errors.specs.ErrorQueue.{queue_codes}
use Rattle.sv_server.proofs.OnShown.Lists.{one_more}
use Rattle.sv_server.proofs.explain.shown.list_errors.Goals as goal

pub loop-index-preserved : goal.loop-index-preserved
loop-index-preserved g c =
    let fits : FitsSigned w16 c.number.result = search rules in
    let put = rw (to_z-of_z w16 c.number.result fits, c.number.ensures) at c.push.ensures.items in
    record {
      count = omega (arith, c.push.ensures.len, c.loop-index.invariant.count);
      are = λ acts queue. one_more number_of (queue_codes acts) c.loop-index.index c.in-Some.code c.loop-index.found.items
          c.push.new.self.items (sym (c.in-Some.ensures acts queue)) put (c.loop-index.invariant.are acts queue);
    }
