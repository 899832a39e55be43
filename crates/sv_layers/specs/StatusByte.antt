-- The status byte and requests for service (IEEE 488.2, 11.2 and 11.3), by searches of the
-- instrument's log.
use Rattle.std.specs.Prelude.{◌≡◌, ◌⊎◌, ℕ, true, List, [], ◌∷◌, Some, None}
use Rattle.std.specs.Int.{bit_at}
use Rattle.sv_logs.specs.Since.{Since, last_given}
use Rattle.sv_errors.specs.ErrorQueue.{entries}
use Rattle.sv_status.specs.declared.register_name.RegisterName.TheVariants.{Operation, Questionable}
use Rattle.sv_exchange.specs.Exchange.{response, is_something}
use Rattle.sv_layers.specs.declared.change.StatusChange.TheVariants.{EnableService}
use Rattle.sv_layers.specs.Act.{Act, Polled, exchange_acts, queue_acts, StatusChanged}
use Rattle.sv_layers.specs.Event.{Summary}
use Rattle.sv_layers.specs.Standard.{Summary as StandardSummary}

-- A summary bit is set. Bit 7: the operation register. Bit 5: the standard events. Bit 4: a message
-- is available. Bit 3: the questionable register. Bit 2: the error queue isn't empty.
abbrev pub SummaryBit : ℕ → List Act → Type 0
SummaryBit k log = ((k ≡ 7) × Summary Operation log) ⊎ ((k ≡ 5) × StandardSummary log)
    ⊎ ((k ≡ 4) × (is_something (response (exchange_acts log)) ≡ true)) ⊎ ((k ≡ 3) × Summary Questionable log)
    ⊎ ((k ≡ 2) × (is_something (entries (queue_acts log)) ≡ true))

-- the service request enable that was set last; 0 at first. Bit 6 isn't removed here: the order of
-- an `*SRE` has a mask without bit 6.
abbrev pub service : List Act → ℕ
service = last_given (elim [ StatusChanged (EnableService mask) ↦ Some mask | _ ↦ None ]) 0

-- Summary bit k of the status byte is set, and enabled in the service request enable.
abbrev pub ServiceRequested : ℕ → List Act → Type 0
ServiceRequested k log = SummaryBit k log × (bit_at (service log) k ≡ 1)

-- The master summary is set: some summary bit is set and enabled.
abbrev pub Master : List Act → Type 0
Master log = (k : ℕ) × ServiceRequested k log

-- A reason for service arises at the newest act: some summary bit is set and enabled after the act,
-- and this bit wasn't both set and enabled before the act.
abbrev pub Reason : List Act → Type 0
Reason [] = ⊥
Reason (act ∷ before) = (k : ℕ) × ServiceRequested k (act ∷ before) × (ServiceRequested k before → ⊥)

-- The newest act doesn't end a request for service: it isn't a poll, and the master summary is set
-- after it.
abbrev pub Lasts : List Act → Type 0
Lasts (Polled ∷ log) = ⊥
Lasts log = Master log

-- A request for service is pending: a reason arose, and at each moment since then the master
-- summary was set and no poll happened.
abbrev pub Request : List Act → Type 0
Request log = Since Reason Lasts log

-- A request for service is raised at the newest act: a request is pending after this act, and none
-- was pending before it.
abbrev pub IsRaised : List Act → Type 0
IsRaised [] = ⊥
IsRaised (act ∷ before) = Request (act ∷ before) × (Request before → ⊥)

-- A bit of the status byte as a poll returns it: bit 6 is the request for service.
abbrev pub PolledBit : ℕ → List Act → Type 0
PolledBit k log = SummaryBit k log ⊎ ((k ≡ 6) × Request log)

-- A bit of the status byte as `*STB?` returns it (IEEE 488.2, 11.2.2.2): bit 6 is the master
-- summary.
abbrev pub MasterBit : ℕ → List Act → Type 0
MasterBit k log = SummaryBit k log ⊎ ((k ≡ 6) × Master log)
