use Rattle.std.proofs.Common.{ℕ, [], ◌∷◌, ap, refl}
use Rattle.sv_vxi.specs.declared.error_code.ErrorCode.TheVariants.{NoError}
use Rattle.sv_vxi.specs.Results.{Status}
use Rattle.sv_layers.specs.Act.{Polled}
use Rattle.sv_layers.specs.StatusByte.{PolledBit}
use Rattle.sv_layers.proofs.PolledByte.{one_word}
use Rattle.sv_history.specs.Act.{instrument_acts}
use Rattle.sv_server.proofs.OnDevice.Raising.{device_ran, device_raised}
use Rattle.sv_server.proofs.device.Device.device_readstb.Goals as goal

pub returns-clause-ends : goal.returns-clause-ends
returns-clause-ends g c = λ config polled acts known.
    let is = rw (← c.self.view_is) at known.0 in
    let log = instrument_acts acts in
    let same = one_word (λ k. PolledBit k log) polled c.poll.result known.1 (c.poll.ensures.status log is.1) in (
      ap (λ (byte : ℕ). Status NoError byte) same,
      device_ran _ c.poll.new.self _ config acts (Polled ∷ []) 0 is (c.poll.ensures.ran log is.1) (λ config acts adds done raised.
          device_raised _ _ config acts adds 0 done raised (λ channel_log are. are) refl (λ d ready. ready)),
    )
