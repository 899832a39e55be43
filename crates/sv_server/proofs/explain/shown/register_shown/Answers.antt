use Rattle.sv_server.proofs.explain.shown.register_shown.Goals as goal

pub returns : goal.returns
returns g c = λ log all. record {
  enable_is = c.enabled.ensures log all.stands;
  rise_is = c.rise.ensures log all.stands;
  fall_is = c.fall.ensures log all.stands;
  condition_is = c.condition.ensures log all.stands;
  events_are = c.events.ensures log all.stands;
}
