use Rattle.std.proofs.Common.{◌≤◌, List, length, subst, arith}
use Rattle.sv_links.specs.Channels.{ChannelAct, enabled_links}
use Rattle.sv_links.specs.ChannelRepresentation.{AreChannels}
use Rattle.sv_links.specs.Limits.{max_links}
use Rattle.sv_history.specs.Act.{link_acts}
use Rattle.sv_history.proofs.Telling.{channel_log_unique}
use Rattle.sv_links.proofs.Rising.{enabled_sorted}
use Rattle.sv_server.specs.Device.Representation.{AreOwned}
use Rattle.sv_server.proofs.OnShown.Lists.{all_found}
use Rattle.sv_server.proofs.OnShown.Links.{listed_enabled, asking_more, asking_end, asking_few}
use Rattle.sv_server.proofs.device.Device.list_asking_links.Goals as goal

pub returns-in-None : goal.returns-in-None
returns-in-None g c = λ config acts channel_log old heard.
    let is = rw (← c.self.view_is) at old in
    let are : AreChannels c.self.inside.intr channel_log =
    subst (λ (l : List ChannelAct). AreChannels c.self.inside.intr l) (channel_log_unique acts is.6.0 channel_log is.6.1 heard) is.6.2 in
    asking_end (enabled_links channel_log) c.loop-index.index c.loop-index.found.items (c.in-None.ensures channel_log are)
    (c.loop-index.invariant.are config acts channel_log old heard)

pub loop-index-preserved : goal.loop-index-preserved
loop-index-preserved g c = record {
  count = omega (arith, c.push.ensures.len, c.loop-index.invariant.count);
  are = λ config acts channel_log old heard.
      let is = rw (← c.self.view_is) at old in
      let are : AreChannels c.self.inside.intr channel_log =
      subst (λ (l : List ChannelAct). AreChannels c.self.inside.intr l) (channel_log_unique acts is.6.0 channel_log is.6.1 heard) is.6.2 in
      asking_more (enabled_links channel_log) c.loop-index.index c.in-Some.lid c.in-Some.conn c.loop-index.found.items
      c.push.new.self.items (c.in-Some.ensures channel_log are) c.push.ensures.items
      (c.loop-index.invariant.are config acts channel_log old heard);
}

pub returns : goal.returns
returns g c = λ config acts channel_log old heard.
    let is = rw (← c.self.view_is) at old in
    let are : AreChannels c.self.inside.intr channel_log =
    subst (λ (l : List ChannelAct). AreChannels c.self.inside.intr l) (channel_log_unique acts is.6.0 channel_log is.6.1 heard) is.6.2 in
    let owned : AreOwned (enabled_links channel_log) (link_acts acts) = rw (← are.enabled) is.6.3 in
    let few : length (enabled_links channel_log) ≤ max_links =
    asking_few (enabled_links channel_log) (link_acts acts) (enabled_sorted channel_log) owned (omega (arith, is.5.0)) in
    all_found listed_enabled (enabled_links channel_log) c.loop-index.index c.loop-index.found.items
    (omega (arith, few, c.loop-index-test.false)) (c.loop-index.invariant.are config acts channel_log old heard)
