use Rattle.std.proofs.Common.{◌≤◌, length, sym}
use Rattle.std.proofs.lemmas.Bool.{le-ltb}
use Rattle.sv_history.specs.Act.{link_acts}
use Rattle.sv_links.specs.Links.{owner}
use Rattle.sv_links.specs.Limits.{max_handle}
use Rattle.sv_server.proofs.OnDevice.Parts.{same_channels_stay_ready}
use Rattle.sv_server.proofs.OnDevice.Channeled.{device_disabled, device_enabled, owner_is}
use Rattle.sv_server.proofs.device.Device.enable_srq.Goals as goal

pub returns-then-not-enable-clause-ends : goal.returns-then-not-enable-clause-ends
returns-then-not-enable-clause-ends g c = λ config acts old owns.
    let is = rw (← c.self.view_is) at old in
    rw (c.if-not-enable.true) (
      sym c.plain.ensures,
      device_disabled _ c.disable.new.self config acts c.args.lid is c.disable.ensures.stands
          (same_channels_stay_ready c.self.inside.intr c.disable.new.self c.disable.ensures.ready),
    )

pub returns-clause-ends : goal.returns-clause-ends
returns-clause-ends g c = λ config acts old owns.
    let is = rw (← c.self.view_is) at old in
    let short : length c.args.handle.now ≤ max_handle = c.if-handle-gt-MAX_HANDLE.false in
    rw (c.if-not-enable.false, le-ltb max_handle (length c.args.handle.now) short) (
      sym c.plain-2.ensures,
      device_enabled _ c.enable.new.self config acts c.args.lid c.args.conn.number c.args.handle.now is
          (owner_is c.args.conn.number (owner c.args.lid (link_acts acts)) owns) (c.enable.ensures.stands short)
          (same_channels_stay_ready c.self.inside.intr c.enable.new.self c.enable.ensures.ready),
    )
