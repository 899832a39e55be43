use Rattle.sv_server.proofs.device.Device.generic_call.Goals as goal

pub returns-in-Readstb-clause-ends : goal.returns-in-Readstb-clause-ends
returns-in-Readstb-clause-ends g c = λ config polled acts known conn lid flags lock_timeout io_timeout.
    rw c.in-Readstb.is (c.device_readstb.ensures.ends config polled acts known)

pub returns-in-Trigger-clause-ends : goal.returns-in-Trigger-clause-ends
returns-in-Trigger-clause-ends g c = λ config polled acts known conn lid flags lock_timeout io_timeout.
    rw c.in-Trigger.is (c.device_trigger.ensures.ends config acts known.0)

pub returns-in-Clear-clause-ends : goal.returns-in-Clear-clause-ends
returns-in-Clear-clause-ends g c = λ config polled acts known conn lid flags lock_timeout io_timeout.
    rw c.in-Clear.is (c.device_clear.ensures.ends config acts known.0)
