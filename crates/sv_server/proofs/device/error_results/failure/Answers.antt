use Rattle.sv_server.proofs.device.error_results.failure.Goals as goal

pub returns-in-OnLink-clause-result_is : goal.returns-in-OnLink-clause-result_is
returns-in-OnLink-clause-result_is c = rw c.in-OnLink.is (c.call_failure.ensures.result_is c.in-OnLink.lid)
