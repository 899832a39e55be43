use Rattle.sv_server.proofs.device.Device.suspend.Goals as goal

pub returns-in-Dial : goal.returns-in-Dial
returns-in-Dial g c = rw c.in-Dial.is c.await_peer.ensures

pub returns-in-Lock : goal.returns-in-Lock
returns-in-Lock g c = rw c.in-Lock.is c.await_device.ensures

pub returns-in-Input : goal.returns-in-Input
returns-in-Input g c = rw c.in-Input.is c.await_device-in-Input.ensures

pub returns-in-Response : goal.returns-in-Response
returns-in-Response g c = rw c.in-Response.is c.await_device-in-Response.ensures
