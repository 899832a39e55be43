use Rattle.std.proofs.Common.{rules, [], refl}
use Rattle.sv_server.proofs.server.Server.new.Goals as goal
use Rattle.sv_history.proofs.StillSettled.{empty_log_is_settled}

pub returns : goal.returns
returns g c = record {
  log = [];
  is_log = ((search rules, search rules, search rules), refl);
  represents = record {
    each = λ k other lt. c.in_ok-connections.ensures.1 k other lt;
    beyond = λ k h. refl;
    connections_used = ((λ k h. refl), (λ k e. absurd cc));
    device = c.in_ok-new.ensures.stands;
    taken = rw c.in_ok-new.ensures.waiting tt;
  };
  settled = empty_log_is_settled c.args.config;
}
