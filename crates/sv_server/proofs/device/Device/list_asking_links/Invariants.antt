use Rattle.std.proofs.Common.{◌≡◌, List, length, map, take}
use Rattle.sv_links.specs.Channels.{ChannelAct, enabled_links}
use Rattle.sv_history.specs.declared.event.Config.{Config}
use Rattle.sv_history.specs.Act.{DeviceAct}
use Rattle.sv_history.specs.Requests.{HearsOf}
use Rattle.sv_server.specs.Device.Representation.{IsDevice}
use Rattle.sv_server.proofs.device.Device.list_asking_links.Given as goal

-- The links found so far are the first ones with service requests enabled.
abbrev pub invariant-loop-index : goal.invariant-loop-index
invariant-loop-index g l = record {
  count : length l.found.items ≡ l.index;
  are : (config : Config) (acts : List DeviceAct) (channel_log : List ChannelAct) → IsDevice l.self config acts → HearsOf acts channel_log
      → l.found.items ≡ map (λ link. record { lid = link.lid; conn = link.conn }) (take l.index (enabled_links channel_log));
}
