use Rattle.sv_server.proofs.OnServer.Settled.{then_more_steps, any_settled}
use Rattle.sv_server.proofs.server.Server.settle.Goals as goal

pub loop-preserved : goal.loop-preserved
loop-preserved g c = then_more_steps c.args.self.now c.loop.self c.settle_to_call.new.self _ c.loop.invariant c.loop-test.ensures.goes

pub returns : goal.returns
returns g c = any_settled c.args.self.now c.loop.self c.settle_to_call.new.self c.loop.invariant c.loop-test.ensures.goes
