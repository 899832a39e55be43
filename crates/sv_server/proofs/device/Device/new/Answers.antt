use Rattle.sv_server.proofs.OnDevice.Parts.{device_none, empty_log_empty_queue}
use Rattle.sv_server.proofs.device.Device.new.Goals as goal

pub returns-clause-stands : goal.returns-clause-stands
returns-clause-stands g c = device_none c.new.result c.in_ok-new.field-0 c.in_ok-new-2.field-0 c.in_ok-new-3.field-0 c.args.config
    c.new.ensures c.in_ok-new.ensures c.in_ok-new-2.ensures c.in_ok-new-3.ensures

pub returns-clause-waiting : goal.returns-clause-waiting
returns-clause-waiting g c = empty_log_empty_queue c.in_ok-new.field-0 c.in_ok-new.ensures
