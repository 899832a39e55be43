-- The status byte and requests for service (IEEE 488.2, 11.2 and 11.3). They are defined by a
-- search of the acts, the newest first.
use Rattle.std.specs.Prelude.{◌≡◌, ◌≢◌, ◌↔◌, ◌⊎◌, ℕ, Bool, true, List, [], ◌∷◌, Some, None}
use Rattle.std.specs.Int.{bit_at}
use Rattle.sv_logs.specs.Since.{Since, last_given}
use Rattle.sv_status.specs.declared.status_byte.StatusAct.{StatusAct}
use Rattle.sv_status.specs.declared.status_byte.StatusAct.TheVariants.{Update, Poll}

-- the summary bits, as they were set last; 0 at first
abbrev pub bits : List StatusAct → ℕ
bits = last_given (elim [ Update word mask ↦ Some word | _ ↦ None ]) 0

-- the service request enable, as it was set last; 0 at first
abbrev pub enable : List StatusAct → ℕ
enable = last_given (elim [ Update word mask ↦ Some mask | _ ↦ None ]) 0

-- Bit k is set in `word` and enabled in `mask`. k isn't 6, because bit 6 is no summary bit.
abbrev pub ServiceRequested : ℕ → ℕ → ℕ → Type 0
ServiceRequested k word mask = (k ≢ 6) × (bit_at word k ≡ 1) × (bit_at mask k ≡ 1)

-- After these acts, summary bit k is set and enabled. k isn't 6, because bit 6 is no summary bit.
abbrev pub ServiceRequestedAt : ℕ → List StatusAct → Type 0
ServiceRequestedAt k acts = ServiceRequested k (bits acts) (enable acts)

-- The master summary is set: some summary bit is set and enabled.
abbrev pub Master : List StatusAct → Type 0
Master acts = (k : ℕ) × ServiceRequestedAt k acts

-- A reason for service arises at the newest act: some summary bit is both set and enabled after
-- this act, and wasn't both before the act.
abbrev pub Reason : List StatusAct → Type 0
Reason [] = ⊥
Reason (act ∷ before) = (k : ℕ) × ServiceRequestedAt k (act ∷ before) × (ServiceRequestedAt k before → ⊥)

-- A pending request for service remains pending at the newest act: this act isn't a poll, and the
-- master summary is set after it.
abbrev pub Lasts : List StatusAct → Type 0
Lasts (Poll ∷ acts) = ⊥
Lasts acts = Master acts

-- A request for service is pending: a reason arose, and at each moment since then the master
-- summary was set and no poll came.
abbrev pub Request : List StatusAct → Type 0
Request acts = Since Reason Lasts acts

-- A request for service is raised at the newest act: one is pending after this act, and none was
-- pending before the act.
abbrev pub IsRaised : List StatusAct → Type 0
IsRaised [] = ⊥
IsRaised (act ∷ before) = Request (act ∷ before) × (Request before → ⊥)

-- Bit k of the status byte that a poll returns is set. Bit 6 is the request for service.
abbrev pub StatusBit : ℕ → List StatusAct → Type 0
StatusBit k acts = ((k ≢ 6) × (bit_at (bits acts) k ≡ 1)) ⊎ ((k ≡ 6) × Request acts)

-- Bit k of the status byte that `*STB?` returns is set (IEEE 488.2, 11.2.2.2). Bit 6 is the master
-- summary.
abbrev pub MasterBit : ℕ → List StatusAct → Type 0
MasterBit k acts = ((k ≢ 6) × (bit_at (bits acts) k ≡ 1)) ⊎ ((k ≡ 6) × Master acts)

-- the state of the status byte
pub record Latches : Type 0 where
  pub bits : ℕ
  pub enable : ℕ
  pub request : Bool

-- The state of the status byte stands for the acts.
pub record StandsFor (latches : Latches) (acts : List StatusAct) : Type 0 where
  pub bits : latches.bits ≡ bits acts
  pub enable : latches.enable ≡ enable acts
  pub request : (latches.request ≡ true) ↔ Request acts
