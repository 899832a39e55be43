use Rattle.std.proofs.Common.{◌≡◌, List, length, map, take}
use Rattle.std.specs.Prelude.{slice_get}
use Rattle.sv_links.specs.Links.{live}
use Rattle.sv_history.specs.declared.event.Config.{Config}
use Rattle.sv_history.specs.Act.{DeviceAct, link_acts}
use Rattle.sv_server.specs.Device.Representation.{IsDevice}
use Rattle.sv_server.proofs.device.Device.list_links.Given as goal

-- The links found so far are the first live ones, and `next` is the live link after them.
abbrev pub invariant-loop : goal.invariant-loop
invariant-loop g l = record {
  count : length l.found.items ≡ l.counter;
  are : (config : Config) (acts : List DeviceAct) → IsDevice l.self config acts
      → l.found.items ≡ map (λ link. record { lid = link.lid; conn = link.conn }) (take l.counter (live (link_acts acts)));
  next : (config : Config) (acts : List DeviceAct) → IsDevice l.self config acts → l.next ≡ slice_get (live (link_acts acts)) l.counter;
}
