-- What each act of the status layers returns, after a list of acts.
use Rattle.std.specs.Prelude.{◌≡◌, ◌↔◌, ℕ, true, ⊤, List, ◌∷◌}
use Rattle.std.specs.Int.{bit_at}
use Rattle.sv_status.specs.declared.register.RegisterAct.{RegisterAct}
use Rattle.sv_status.specs.declared.register.RegisterAct.TheVariants as register
use Rattle.sv_status.specs.declared.register.RegisterAnswer.{RegisterAnswer}
use Rattle.sv_status.specs.declared.register.RegisterAnswer.TheVariants as register_answer
use Rattle.sv_status.specs.declared.standard_event.StandardAct.{StandardAct}
use Rattle.sv_status.specs.declared.standard_event.StandardAct.TheVariants as standard
use Rattle.sv_status.specs.declared.standard_event.StandardAnswer.{StandardAnswer}
use Rattle.sv_status.specs.declared.standard_event.StandardAnswer.TheVariants as standard_answer
use Rattle.sv_status.specs.declared.status_byte.StatusAct.{StatusAct}
use Rattle.sv_status.specs.declared.status_byte.StatusAct.TheVariants as status
use Rattle.sv_status.specs.declared.status_byte.StatusAnswer.{StatusAnswer}
use Rattle.sv_status.specs.declared.status_byte.StatusAnswer.TheVariants as status_answer
use Rattle.sv_status.specs.Register.{EventStands}
use Rattle.sv_status.specs.StandardEvent.{Stands}
use Rattle.sv_status.specs.StatusByte.{StatusBit, IsRaised}

-- Reading an event register returns the bits that are set. No other act returns anything.
abbrev pub RegisterGives : List RegisterAct → RegisterAct → RegisterAnswer → Type 0
RegisterGives acts register.ReadEvent (register_answer.Event word) = (k : ℕ) → (bit_at word k ≡ 1) ↔ EventStands k acts
RegisterGives acts register.ReadEvent register_answer.Done = ⊥
RegisterGives acts _ (register_answer.Event word) = ⊥
RegisterGives acts _ register_answer.Done = ⊤

-- Reading the standard event status register returns the bits that are set. No other act returns
-- anything.
abbrev pub StandardGives : List StandardAct → StandardAct → StandardAnswer → Type 0
StandardGives acts standard.Read (standard_answer.Event word) = (k : ℕ) → (bit_at word k ≡ 1) ↔ Stands k acts
StandardGives acts standard.Read standard_answer.Done = ⊥
StandardGives acts _ (standard_answer.Event word) = ⊥
StandardGives acts _ standard_answer.Done = ⊤

-- An update returns whether it raises a request for service. A poll returns the status byte.
abbrev pub StatusGives : List StatusAct → StatusAct → StatusAnswer → Type 0
StatusGives acts (status.Update bits enable) (status_answer.Raised raised) = (raised ≡ true) ↔ IsRaised (status.Update bits enable ∷ acts)
StatusGives acts status.Poll (status_answer.Status word) = (k : ℕ) → (bit_at word k ≡ 1) ↔ StatusBit k acts
StatusGives acts (status.Update bits enable) (status_answer.Status word) = ⊥
StatusGives acts status.Poll (status_answer.Raised raised) = ⊥
