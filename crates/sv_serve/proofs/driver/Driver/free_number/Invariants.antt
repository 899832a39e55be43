use Rattle.std.proofs.Common.{ℕ, ◌<◌, List}
use Rattle.std.specs.Prelude.{true}
use Rattle.sv_history.specs.declared.event.Config.{Config}
use Rattle.sv_history.specs.declared.event.Port.TheVariants.{Conn}
use Rattle.sv_history.specs.Event.{PlainEvent}
use Rattle.sv_server.specs.Server.State.{StandsFor}
use Rattle.sv_serve.specs.Asked.{IsOpen}
use Rattle.sv_serve.specs.DriverView.{driver_view}
use Rattle.sv_serve.proofs.driver.Driver.free_number.Given as goal

-- Each connection below this number is open.
abbrev pub invariant-loop-conn : goal.invariant-loop-conn
invariant-loop-conn g l = (config : Config) (history : List PlainEvent) → StandsFor l.fn.self.server config history
    → (d : ℕ) → d < l.conn → IsOpen (Conn d) config (driver_view l.fn.self history) true
