use Rattle.std.proofs.Common.{◌≡◌, true, false, Some, sym}
use Rattle.sv_history.specs.CoreChannel.{owns}
use Rattle.sv_server.proofs.device.Device.device_enable_srq.Goals as goal

pub returns-then-not-owns-clause-ends : goal.returns-then-not-owns-clause-ends
returns-then-not-owns-clause-ends g c = λ config acts old.
    let another : owns c.args.conn.number (Some c.args.lid) acts ≡ false = sym (c.if-not-owns.ensures config acts old) in
    rw another (sym c.plain.ensures, old)

pub returns-clause-ends : goal.returns-clause-ends
returns-clause-ends g c = λ config acts old.
    let own : owns c.args.conn.number (Some c.args.lid) acts ≡ true = sym (c.if-not-owns.ensures config acts old) in
    rw own (c.enable_srq.ensures.ends config acts old own)
