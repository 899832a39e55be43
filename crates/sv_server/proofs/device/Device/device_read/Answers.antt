use Rattle.std.proofs.Common.{sym, [], ◌∷◌}
use Rattle.sv_errors.specs.declared.code.Code.TheVariants.{QueryUnterminated}
use Rattle.sv_exchange.specs.Exchange.{TextDropped}
use Rattle.sv_layers.specs.Act.{Exchanged, Reported}
use Rattle.sv_server.proofs.OnDevice.Raising.{device_ran}
use Rattle.sv_history.specs.Act.{instrument_acts}
use Rattle.sv_history.specs.CoreChannel.{term_of}
use Rattle.sv_server.proofs.OnDevice.Calls.{unread_ends}
use Rattle.sv_server.proofs.device.Device.device_read.Goals as goal

pub returns-clause-ends : goal.returns-clause-ends
returns-clause-ends g c = λ config acts old answerable.
    let is = rw (← c.self.view_is) at old in
    let log = instrument_acts acts in
    let stands = device_ran _ c.unterminated-raised.new.self _ config acts (Reported QueryUnterminated ∷ Exchanged TextDropped ∷ [])
    c.unterminated-raised.result is (c.unterminated-raised.ensures log is.1) c.raise.ensures.stands in
    unread_ends config acts _ c.args.most (term_of c.args.flags.0 c.args.term_char) _ (sym (c.if-readable.ensures.answer log is.1))
    answerable c.nothing_read.ensures.result_is stands
