use Rattle.std.proofs.Common.{ℕ, ◌<◌, List}
use Rattle.std.specs.Prelude.{false}
use Rattle.sv_history.specs.declared.event.Config.{Config}
use Rattle.sv_history.specs.Event.{PlainEvent}
use Rattle.sv_server.specs.Server.State.{StandsFor}
use Rattle.sv_serve.specs.Asked.{IsReady}
use Rattle.sv_serve.specs.DriverView.{driver_view}
use Rattle.sv_net.proofs.sleep_time.is_ready.Given as goal

-- No connection below this number has a call to take.
abbrev pub invariant-loop-conn : goal.invariant-loop-conn
invariant-loop-conn g l = (config : Config) (history : List PlainEvent) → StandsFor l.fn.driver.server config history
    → (c : ℕ) → c < l.conn → IsReady c config (driver_view l.fn.driver history) false
