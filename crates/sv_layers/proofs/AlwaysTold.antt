-- For each log, the definitions give one list of changes of the status byte, and no second one.
use Rattle.std.proofs.Common.{◌≡◌, ℕ, Bool, true, eqb, List, [], ◌∷◌, refl, bit_and}
use Rattle.std.specs.Prelude.{◌↔◌, not}
use Rattle.sv_status.specs.declared.register.RegisterAct.{RegisterAct}
use Rattle.sv_status.specs.declared.register.RegisterAct.TheVariants.{Condition, SetFilter, SetEnable, ReadEvent, Preset, Clear}
use Rattle.sv_status.specs.declared.standard_event.StandardAct.{StandardAct}
use Rattle.sv_status.specs.declared.standard_event.StandardAct.TheVariants as standard
use Rattle.sv_status.specs.declared.status_byte.StatusAct.{StatusAct}
use Rattle.sv_status.specs.Register as register
use Rattle.sv_status.specs.StandardEvent as standards
use Rattle.sv_status.proofs.Words.{some_enabled_bit, zero_has_no_bit}
use Rattle.sv_status.proofs.Registers as registers
use Rattle.sv_status.proofs.StandardEvents as events
use Rattle.sv_status.specs.declared.register_name.RegisterName.TheVariants.{Operation, Questionable}
use Rattle.sv_layers.specs.Act.{Act}
use Rattle.sv_layers.specs.Filter.{start as start_of}
use Rattle.sv_layers.specs.Inside.LayerLogs.{LayerLogs, layer_logs}
use Rattle.sv_layers.specs.Inside.Representation.{IsSummary, IsStatus}
use Rattle.sv_layers.specs.Laws.{OneAccount, SameRaising}
use Rattle.sv_layers.proofs.OneStatus.{one_status}
use Rattle.sv_layers.proofs.SameRequests.{same_raised}

-- For each log of a register there are latches that stand for it.
register_has_latches : (start : ℕ) (acts : List RegisterAct) → (latches : register.Latches) × register.StandsFor start latches acts
register_has_latches start [] = (
  record { condition = 0; rise = 32767; fall = 0; event = 0; enable = start; start = start },
  record {
    begins = refl;
    condition = refl;
    rise = refl;
    fall = refl;
    enable = refl;
    event = λ k. zero_has_no_bit k _ (registers.event_none k);
  },
)
register_has_latches start (Condition word ∷ acts) = let h = register_has_latches start acts in
    (_, registers.stands_for_condition start h.0 acts word h.1)
register_has_latches start (SetFilter up down ∷ acts) =
    let h = register_has_latches start acts in (_, registers.stands_for_filter start h.0 acts up down h.1)
register_has_latches start (SetEnable word ∷ acts) = let h = register_has_latches start acts in
    (_, registers.stands_for_enable start h.0 acts word h.1)
register_has_latches start (ReadEvent ∷ acts) = let h = register_has_latches start acts in (_, registers.stands_for_read start h.0 acts h.1)
register_has_latches start (Preset ∷ acts) = let h = register_has_latches start acts in (_, registers.stands_for_preset start h.0 acts h.1)
register_has_latches start (Clear ∷ acts) = let h = register_has_latches start acts in (_, registers.stands_for_cleared start h.0 acts h.1)

standard_has_latches : (acts : List StandardAct) → (latches : standards.Latches) × standards.StandsFor latches acts
standard_has_latches [] = (_, events.stands_for_new)
standard_has_latches (standard.Occur bits ∷ acts) = let h = standard_has_latches acts in (_, events.stands_for_occurred h.0 acts bits h.1)
standard_has_latches (standard.Read ∷ acts) = let h = standard_has_latches acts in (_, events.stands_for_read h.0 acts h.1)
standard_has_latches (standard.SetEnable word ∷ acts) = let h = standard_has_latches acts in (_, events.stands_for_enable h.0 acts word h.1)
standard_has_latches (standard.Clear ∷ acts) = let h = standard_has_latches acts in (_, events.stands_for_cleared h.0 acts h.1)

-- Whether some event bit is set and enabled can be decided.
register_test : (start : ℕ) (acts : List RegisterAct) → (stands : Bool) × ((stands ≡ true) ↔ register.Summary start acts)
register_test start acts = let h = register_has_latches start acts in
    (not (eqb (bit_and h.0.event h.0.enable) 0), some_enabled_bit _ _ _ h.1.enable h.1.event)

standard_test : (acts : List StandardAct) → (stands : Bool) × ((stands ≡ true) ↔ standards.Summary acts)
standard_test acts = let h = standard_has_latches acts in
    (not (eqb (bit_and h.0.event h.0.enable) 0), some_enabled_bit _ _ _ h.1.enable h.1.event)

-- For all logs of the layers there is a status byte with exactly their summary bits.
summary_exists : (at : LayerLogs) → (word : ℕ) × IsSummary word at
summary_exists at = (
  _,
  record {
    operates = (register_test (start_of Operation) (at.registers Operation)).0;
    happened = (standard_test at.standard).0;
    questioned = (register_test (start_of Questionable) (at.registers Questionable)).0;
    operation = (register_test (start_of Operation) (at.registers Operation)).1;
    standard = (standard_test at.standard).1;
    questionable = (register_test (start_of Questionable) (at.registers Questionable)).1;
    word_is = refl;
  },
)

status_log_exists : (log : List Act) → (status_log : List StatusAct) × IsStatus log status_log
status_log_exists [] = ([], refl)
status_log_exists (act ∷ log) =
    let before = status_log_exists log in
    let summary = summary_exists (layer_logs (act ∷ log)) in
    (_, (summary.0, before.0, summary.1, before.1, refl))

pub one_account : OneAccount
one_account log = let h = status_log_exists log in (h.0, h.1, λ other is. one_status log other h.0 is h.1)

pub same_raising : SameRaising
same_raising log =
    let is = status_log_exists log in
    ((λ h. (same_raised log h.0 h.1).0 h.2), (λ r. (is.0, is.1, (same_raised log is.0 is.1).1 r)))
