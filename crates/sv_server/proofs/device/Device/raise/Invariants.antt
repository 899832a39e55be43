use Rattle.std.proofs.Common.{◌≡◌, ℕ}
use Rattle.sv_links.specs.ChannelRepresentation.{IsReady}
use Rattle.sv_server.proofs.OnDevice.Raising.{Tolls}
use Rattle.sv_server.proofs.device.Device.raise.Given as goal

-- The channels were sent one service request per round so far; all else is unchanged.
abbrev pub invariant-loop : goal.invariant-loop
invariant-loop g l = record {
  tolls : Tolls l.fn.self.intr l.self-inside.intr l.counter;
  enabled : l.self-inside.intr.enabled ≡ l.fn.self.intr.enabled;
  ready : (c : ℕ) → IsReady l.fn.self.intr c → IsReady l.self-inside.intr c;
  links : l.self-inside.links ≡ l.fn.self.links;
  waiting : l.self-inside.waiting ≡ l.fn.self.waiting;
  instrument : l.self-inside.instrument ≡ l.fn.self.instrument;
  config : l.self-inside.config ≡ l.fn.self.config;
  clock : l.self-inside.clock ≡ l.fn.self.clock;
}
