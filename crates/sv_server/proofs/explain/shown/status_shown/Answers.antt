use Rattle.sv_server.proofs.explain.shown.status_shown.Goals as goal

pub returns : goal.returns
returns g c = λ log all. record {
  opc_is = c.has_opc.ensures log all.stands;
  enable_is = c.standard_enable.ensures log all.stands;
  events_are = c.standard_events.ensures log all.stands;
  service_is = c.service.ensures log all.stands;
  byte_is = c.status_byte.ensures log all.stands;
  request_is = c.has_request.ensures log all.stands;
}
