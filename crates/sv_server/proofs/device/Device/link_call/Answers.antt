use Rattle.std.proofs.Common.{pos, sym, [], ◌∷◌}
use Rattle.sv_history.specs.Act.{instrument_acts}
use Rattle.sv_exchange.specs.Exchange.{Accepted}
use Rattle.sv_layers.specs.Act.{Exchanged}
use Rattle.sv_server.proofs.OnDevice.Raising.{device_ran}
use Rattle.sv_server.proofs.OnDevice.Calls.{unended_of, answerable_of, written_ends}
use Rattle.sv_server.proofs.device.Device.link_call.Goals as goal

pub returns-in-DeviceWrite-clause-ends : goal.returns-in-DeviceWrite-clause-ends
returns-in-DeviceWrite-clause-ends g c = λ config polled acts known needs.
    let is = rw (← c.self.view_is) at known.0 in
    let log = instrument_acts acts in
    let bytes = c.in-DeviceWrite.bytes.now in
    let stands = device_ran _ c.write-raised.new.self _ config acts (Exchanged (Accepted bytes c.has_end.result) ∷ [])
    c.write-raised.result is (c.write-raised.ensures log is.1) c.raise.ensures.stands in
    rw c.in-DeviceWrite.is (written_ends config acts _ c.in-DeviceWrite.flags.0 bytes c.has_end.result _
    (rw c.in-DeviceWrite.is at c.requires.within) (unended_of _ _ (rw c.in-DeviceWrite.is at needs)) c.has_end.ensures
    c.written.ensures stands)

pub returns-in-DeviceRead-clause-ends : goal.returns-in-DeviceRead-clause-ends
returns-in-DeviceRead-clause-ends g c = λ config polled acts known needs.
    rw c.in-DeviceRead.is (c.device_read.ensures.ends config acts known.0
    (answerable_of _ _ (rw c.in-DeviceRead.is at needs)))

pub returns-in-Generic-clause-ends : goal.returns-in-Generic-clause-ends
returns-in-Generic-clause-ends g c = λ config polled acts known needs.
    rw c.in-Generic.is (c.generic_call.ensures.ends config polled acts known c.args.conn.number c.args.lid _ _ _)

pub returns-in-DeviceLock-clause-ends : goal.returns-in-DeviceLock-clause-ends
returns-in-DeviceLock-clause-ends g c = λ config polled acts known needs.
    rw c.in-DeviceLock.is (c.device_lock.ensures.ends config acts known.0)

pub returns-in-DeviceUnlock-clause-ends : goal.returns-in-DeviceUnlock-clause-ends
returns-in-DeviceUnlock-clause-ends g c = λ config polled acts known needs.
    rw c.in-DeviceUnlock.is (c.device_unlock.ensures.ends config acts known.0)

pub returns-in-DeviceEnableSrq-clause-ends : goal.returns-in-DeviceEnableSrq-clause-ends
returns-in-DeviceEnableSrq-clause-ends g c = λ config polled acts known needs.
    rw c.in-DeviceEnableSrq.is (c.device_enable_srq.ensures.ends config acts known.0)

pub returns-in-DestroyLink-clause-ends : goal.returns-in-DestroyLink-clause-ends
returns-in-DestroyLink-clause-ends g c = λ config polled acts known needs.
    rw c.in-DestroyLink.is (c.destroy_link.ensures.ends config acts known.0)

pub returns-in-DeviceDocmd-clause-ends : goal.returns-in-DeviceDocmd-clause-ends
returns-in-DeviceDocmd-clause-ends g c = λ config polled acts known needs.
    rw c.in-DeviceDocmd.is (rw c.in-DeviceDocmd.is at (sym (c.call_failure.ensures.result_is (pos c.args.lid))), known.0)
