-- The event bits of a status register, computed from its own acts, are those computed from all acts
-- of the instrument.
use Rattle.std.proofs.Common.{◌≡◌, ℕ, Bool, true, false, List, [], ◌∷◌, refl, ◌⊎◌}
use Rattle.std.specs.Prelude.{◌↔◌, not, if◌then◌else◌}
use Rattle.sv_logs.proofs.Since.{since_unique, step_kept, step_ended, iff_transitive}
use Rattle.sv_status.specs.declared.register_name.RegisterName.{RegisterName}
use Rattle.sv_status.specs.declared.register.RegisterAct.{RegisterAct}
use Rattle.sv_status.specs.declared.register.RegisterAct.TheVariants as register
use Rattle.sv_status.specs.Register as stands
use Rattle.sv_status.proofs.Registers.{event_none, event_condition, event_read, event_cleared, event_filter, event_enable, event_preset}
use Rattle.sv_layers.specs.declared.change.RegisterChange.TheVariants.{ReadEvents, Enable, SetRise, SetFall}
use Rattle.sv_layers.specs.declared.change.StatusChange.TheVariants.{Register}
use Rattle.sv_layers.specs.Act.{Act, Cleared, Preset, StatusChanged}
use Rattle.sv_layers.specs.Condition.{condition}
use Rattle.sv_layers.specs.Filter.{is_same, rise, fall}
use Rattle.sv_layers.specs.Inside.LayerLogs.{own, layer_logs, register_acts}
use Rattle.sv_layers.specs.Laws.{SameEvents}
use Rattle.sv_layers.proofs.Registered.{register_acts_after_act}
use Rattle.sv_layers.proofs.Either.{iff_refl, either_congruent}
use Rattle.sv_layers.proofs.Transitions.{Passes, NotCleared, changes_is}
use Rattle.sv_layers.proofs.SameWords.{same_words}

pub iff_sym : {P Q : Type 0} → P ↔ Q → Q ↔ P
iff_sym same = (same.1, same.0)

-- After a new condition an event bit is set if a transition passes its filter, or if it was set
-- before.
events_after_condition : (name : RegisterName) (k : ℕ) (act : Act) (log : List Act)
    → stands.EventStands k (register.Condition (condition name (act ∷ log)) ∷ register_acts name (layer_logs log))
    ↔ (Passes name k (act ∷ log) ⊎ stands.EventStands k (register_acts name (layer_logs log)))
events_after_condition name k act log =
    let words = same_words name log in
    let told = rw (words.0, words.1, words.2) at (event_condition k (condition name (act ∷ log)) (register_acts name (layer_logs log))) in
    let is = changes_is k (condition name log) (condition name (act ∷ log)) (rise name log) (fall name log) in
    either_congruent told (iff_sym is) iff_refl

-- An act of a register that neither sets nor clears event bits may be left out.
events_if_none_touched : {R : Type 0} (b : Bool) (k : ℕ) (act : RegisterAct) (acts : List RegisterAct)
    → stands.EventStands k (act ∷ acts) ↔ stands.EventStands k acts → stands.EventStands k acts ↔ R
    → stands.EventStands k (if b then act ∷ acts else acts) ↔ R
events_if_none_touched true k act acts same h = iff_transitive same h
events_if_none_touched false k act acts same h = h

-- A read clears the event register that it names, and no other.
events_after_read : {F Q : Type 0} (b : Bool) (k : ℕ) (acts : List RegisterAct) → stands.EventStands k acts ↔ (F ⊎ Q)
    → stands.EventStands k (if b then register.ReadEvent ∷ acts else acts) ↔ ((not b ≡ true) × (F ⊎ Q))
events_after_read true k acts h = step_ended (λ e. absurd cc) (event_read k acts)
events_after_read false k acts h = step_kept refl h

own_event : (name : RegisterName) (k : ℕ) (act : Act) (log : List Act) (acts : List RegisterAct) (Q : Type 0)
    → stands.EventStands k acts ↔ (Passes name k (act ∷ log) ⊎ Q)
    → stands.EventStands k (own name act acts) ↔ (NotCleared name (act ∷ log) × (Passes name k (act ∷ log) ⊎ Q))
own_event name k Cleared log acts Q h = step_ended (λ kept. absurd cc) (event_cleared k acts)
own_event name k Preset log acts Q h = step_kept refl (iff_transitive (event_preset k acts) h)
own_event name k (StatusChanged (Register other ReadEvents)) log acts Q h = events_after_read (is_same name other) k acts h
own_event name k (StatusChanged (Register other (Enable mask))) log acts Q h =
    step_kept refl (events_if_none_touched (is_same name other) k _ acts (event_enable k _ acts) h)
own_event name k (StatusChanged (Register other (SetRise mask))) log acts Q h =
    step_kept refl (events_if_none_touched (is_same name other) k _ acts (event_filter k _ _ acts) h)
own_event name k (StatusChanged (Register other (SetFall mask))) log acts Q h =
    step_kept refl (events_if_none_touched (is_same name other) k _ acts (event_filter k _ _ acts) h)
own_event name k _ log acts Q h = step_kept refl h

event_step : (name : RegisterName) (k : ℕ) (act : Act) (log : List Act) → stands.EventStands k (register_acts name (layer_logs (act ∷ log)))
    ↔ (NotCleared name (act ∷ log) × (Passes name k (act ∷ log) ⊎ stands.EventStands k (register_acts name (layer_logs log))))
event_step name k act log = rw (register_acts_after_act name act log) (own_event name k act log _ _ (events_after_condition name k act log))

none_first : (name : RegisterName) (k : ℕ) → stands.EventStands k (register_acts name (layer_logs [])) → ⊥
none_first name k = event_none k

pub same_events : SameEvents
same_events name k = since_unique (Passes name k) (NotCleared name) (λ log. stands.EventStands k (register_acts name (layer_logs log)))
    ((λ s. absurd (none_first name k s)), (λ h. absurd (let none = h.0 in cc))) (event_step name k)
