-- The result and the acts of a device_write and of a device_read that fails.
use Rattle.std.proofs.Common.{◌≡◌, ℕ, ◌==◌, Bool, true, false, cond, List, ◌∷◌, ◌++◌, length, nat_lt, refl, sym, subst}
use Rattle.std.specs.Int.{bit_at}
use Rattle.std.specs.Prelude.{Option, Some, None}
use Rattle.sv_links.specs.declared.waiting.Wait.{Wait}
use Rattle.sv_errors.specs.declared.code.Code.TheVariants.{QueryUnterminated}
use Rattle.sv_vxi.specs.declared.error_code.ErrorCode.TheVariants.{NoError, IoTimeout}
use Rattle.sv_vxi.specs.Results.{Outcome as VxiOutcome, Size}
use Rattle.sv_exchange.specs.Exchange.{Accepted, TextDropped, has_ended, response, is_something}
use Rattle.sv_exchange.specs.Limits.{max_message}
use Rattle.sv_layers.specs.Act.{Exchanged, Reported}
use Rattle.sv_instrument.specs.Step.{is_answerable}
use Rattle.sv_history.specs.declared.event.Config.{Config}
use Rattle.sv_history.specs.Act.{DeviceAct, Applied, instrument_acts, exchange_acts}
use Rattle.sv_history.specs.CoreCall.{no_bytes}
use Rattle.sv_history.specs.CoreChannel.{device_write, device_read}
use Rattle.sv_server.specs.Device.Representation.{IsDevice, Device}
use Rattle.sv_server.specs.Device.Inside.Outcome.{IsResult}

-- A write that needn't wait finds no message that has ended; a read that needn't wait can be
-- answered.
pub unended_of : (wait : Wait × ℕ) (b : Bool) → cond b (Some wait) None ≡ None → b ≡ false
unended_of wait true e = absurd cc
unended_of wait false e = refl

pub answerable_of : (wait : Wait × ℕ) (b : Bool) → cond b None (Some wait) ≡ None → b ≡ true
answerable_of wait true e = refl
answerable_of wait false e = absurd cc

pub written_ends : (config : Config) (acts : List DeviceAct) (new : Device) (flags : ℕ) (bytes : List ℕ) (ended : Bool)
    (encoded : VxiOutcome)
    → nat_lt max_message (length bytes) ≡ false → has_ended (exchange_acts acts) ≡ false → ended ≡ (bit_at flags 3 == 1)
    → encoded ≡ Size NoError (length bytes) → IsDevice new config (Applied (Exchanged (Accepted bytes ended)) ∷ acts)
    → IsResult (device_write flags bytes acts).result encoded × IsDevice new config ((device_write flags bytes acts).adds ++ acts)
written_ends config acts new flags bytes ended encoded short unended end tells stands = rw (short, unended)
    (sym tells, subst (λ (b : Bool). IsDevice new config (Applied (Exchanged (Accepted bytes b)) ∷ acts)) end stands)

pub unread_ends : (config : Config) (acts : List DeviceAct) (new : Device) (most : ℕ) (term : Option ℕ) (encoded : VxiOutcome)
    → is_something (response (exchange_acts acts)) ≡ false → is_answerable (instrument_acts acts) ≡ true → encoded ≡ no_bytes IoTimeout
    → IsDevice new config (Applied (Reported QueryUnterminated) ∷ Applied (Exchanged TextDropped) ∷ acts)
    → IsResult (device_read most term acts).result encoded × IsDevice new config ((device_read most term acts).adds ++ acts)
unread_ends config acts new most term encoded nothing none tells stands = rw (none, nothing) (sym tells, stands)
