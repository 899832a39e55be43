use Rattle.std.proofs.Common.{ℕ, [], ◌∷◌, length, subst}
use Rattle.sv_rpc.specs.declared.reply.Reply.TheVariants.{Success}
use Rattle.sv_vxi.specs.Results.{Outcome, result_fields}
use Rattle.sv_exchange.specs.Exchange.{ResponseRead}
use Rattle.sv_layers.specs.Act.{Exchanged}
use Rattle.sv_history.specs.Act.{Replied, Applied, instrument_acts}
use Rattle.sv_history.specs.Reply.{reply_record}
use Rattle.sv_server.specs.Connection.Representation.{IsConnection}
use Rattle.sv_server.specs.Device.Representation.{IsDevice}
use Rattle.sv_server.proofs.OnDevice.Raising.{device_ran}
use Rattle.sv_server.proofs.OnServer.Turned.{read_is}
use Rattle.sv_server.proofs.device.Device.answer_read.Goals as goal

pub returns-clause-ends : goal.returns-clause-ends
returns-clause-ends g c = λ config acts before is busy old.
    let device = rw (← c.self.view_is) at old in
    let log = instrument_acts before in
    let given = c.peek-read.ensures.answer log device.1 in
    let count = length c.peek-read.result.bytes.now in
    let taken = device_ran _ c.take-raised.new.self _ config before (Exchanged (ResponseRead count) ∷ []) c.take-raised.result
    device (c.take-raised.ensures log device.1) c.raise.ensures.stands in (
      subst (λ (o : Outcome). IsConnection c.answer.new.self (Replied (reply_record c.args.xid Success (result_fields o)) ∷ acts))
          (read_is c.peek-read.result _ c.args.most c.args.term given) (c.answer.ensures acts is busy),
      subst (λ (n : ℕ). IsDevice c.raise.new.self config (Applied (Exchanged (ResponseRead n)) ∷ before)) given.size taken,
    )
