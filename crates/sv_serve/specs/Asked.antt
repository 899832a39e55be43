-- The server's answers to the driver's queries at a moment. The server's history determines these
-- answers.
use Rattle.std.specs.Prelude.{ℕ, ◌<◌, not, Bool, true, false, List, Option, Some, None}
use Rattle.sv_history.specs.declared.event.Config.{Config}
use Rattle.sv_history.specs.declared.event.Dial.{Dial}
use Rattle.sv_history.specs.declared.event.Port.{Port}
use Rattle.sv_history.specs.declared.event.Port.TheVariants.{Conn}
use Rattle.sv_history.specs.Act.{Act, of}
use Rattle.sv_history.specs.Connection.{room, is_idle, is_overlong, is_faulted}
use Rattle.sv_history.specs.Interrupts.{dial_of}
use Rattle.sv_history.specs.History.{is_port_shut, IsLogOf}
use Rattle.sv_history.specs.Queries.{Answered, WaitOn, IsUnused}
use Rattle.sv_serve.specs.DriverView.{DriverView}

-- The answer says whether a connection or an interrupt channel is open.
abbrev pub IsOpen : {W : Type 0} → Port → Config → DriverView W → Bool → Type 0
IsOpen port config at answer = Answered (λ log. not (is_port_shut port log)) config at.history answer

-- The answer is the number of bytes for which a connection has room.
abbrev pub HasRoom : {W : Type 0} → ℕ → Config → DriverView W → ℕ → Type 0
HasRoom c config at answer = Answered (λ log. room (of c log)) config at.history answer

-- The answer says whether there is a call to take on a connection.
abbrev pub IsReady : {W : Type 0} → ℕ → Config → DriverView W → Bool → Type 0
IsReady c config at answer = Answered (λ log. not (is_idle (of c log))) config at.history answer

-- The answer says whether a record that is too long came on a connection, so that the server stores
-- no more bytes of this connection.
abbrev pub IsOverlong : {W : Type 0} → ℕ → Config → DriverView W → Bool → Type 0
IsOverlong c config at answer = Answered (λ log. is_overlong (of c log)) config at.history answer

-- The answer says whether a connection is at fault, so that it can only be closed.
abbrev pub IsFaulted : {W : Type 0} → ℕ → Config → DriverView W → Bool → Type 0
IsFaulted c config at answer = Answered (λ log. is_faulted (of c log)) config at.history answer

-- The answer is where to connect the interrupt channel of a connection; `None` if no
-- create_intr_chan of this connection is suspended.
abbrev pub Wants : {W : Type 0} → ℕ → Config → DriverView W → Option Dial → Type 0
Wants c config at answer = Answered (λ log. dial_of c log) config at.history answer

-- These bytes wait to be sent on a port.
abbrev pub Waits : {W : Type 0} → Port → Config → DriverView W → List ℕ → Type 0
Waits port config at bytes = WaitOn port config at.history bytes

-- No connection with this number or a higher one was ever opened.
abbrev pub NoneUsed : {W : Type 0} → ℕ → Config → DriverView W → Type 0
NoneUsed n config at = (log : List Act) × IsLogOf config at.history log × IsUnused n log

-- The answer is the lowest of the numbers 0 to 15 whose connection isn't open; `None` if all 16
-- connections are open.
abbrev pub IsLowest : {W : Type 0} → Option ℕ → Config → DriverView W → Type 0
IsLowest (Some c) config at = (c < 16) × IsOpen (Conn c) config at false × ((d : ℕ) → d < c → IsOpen (Conn d) config at true)
IsLowest None config at = (d : ℕ) → d < 16 → IsOpen (Conn d) config at true
