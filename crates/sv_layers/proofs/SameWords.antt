-- A register's own log and the instrument's log agree on its condition, filters and enable.
use Rattle.std.proofs.Common.{◌≡◌, ℕ, Bool, true, false, List, [], ◌∷◌, refl, ◌∙◌, subst, sym}
use Rattle.std.specs.Prelude.{◌^◌, Some, None, unwrap_or, if◌then◌else◌}
use Rattle.std.proofs.Math.Nat.{mod-mod}
use Rattle.sv_status.specs.declared.register_name.RegisterName.{RegisterName}
use Rattle.sv_status.specs.declared.register.RegisterAct.{RegisterAct}
use Rattle.sv_status.specs.declared.register.RegisterAct.TheVariants.{Condition, SetFilter, SetEnable, ReadEvent}
use Rattle.sv_status.specs.declared.register.RegisterAct.TheVariants as register
use Rattle.sv_status.specs.Register as register_words
use Rattle.sv_status.specs.Register.{without_top_bit}
use Rattle.sv_layers.specs.declared.change.RegisterChange.TheVariants.{ReadEvents, Enable, SetRise, SetFall}
use Rattle.sv_layers.specs.declared.change.StatusChange.TheVariants.{Register}
use Rattle.sv_layers.specs.Act.{Act, Preset, StatusChanged}
use Rattle.sv_layers.specs.Condition.{condition}
use Rattle.sv_layers.specs.Filter.{is_same, start, rise, fall, enable}
use Rattle.sv_layers.specs.Inside.LayerLogs.{own, layer_logs, register_acts}
use Rattle.sv_layers.specs.Laws.{SameWords}
use Rattle.sv_layers.proofs.EachRegister.{first_condition}
use Rattle.sv_layers.proofs.Registered.{register_acts_after_act}

-- These acts give the register this condition, these filters and this enable.
abbrev Words : ℕ → List RegisterAct → ℕ → ℕ → ℕ → ℕ → Type 0
Words s acts c r f e = (register_words.condition acts ≡ c) × (register_words.rise acts ≡ r) × (register_words.fall acts ≡ f)
    × (register_words.enable s acts ≡ e)

abbrev WordsOf : RegisterName → List RegisterAct → List Act → Type 0
WordsOf name acts log = Words (start name) acts (condition name log) (rise name log) (fall name log) (enable name log)

-- A filter never has bit 15.
filters_masked : (acts : List RegisterAct) → (without_top_bit (register_words.rise acts) ≡ register_words.rise acts)
    × (without_top_bit (register_words.fall acts) ≡ register_words.fall acts)
filters_masked [] = (refl, refl)
filters_masked (SetFilter up down ∷ acts) = (mod-mod up (2 ^ 15), mod-mod down (2 ^ 15))
filters_masked (register.Preset ∷ acts) = (refl, refl)
filters_masked (_ ∷ acts) = filters_masked acts

-- An act changes only the register that it names.
read_words : (s : ℕ) (b : Bool) (acts : List RegisterAct) (c r f e : ℕ) → Words s acts c r f e
    → Words s (if b then ReadEvent ∷ acts else acts) c r f e
read_words s true acts c r f e h = h
read_words s false acts c r f e h = h

enabled_words : (s : ℕ) (b : Bool) (mask : ℕ) (acts : List RegisterAct) (c r f e : ℕ) → Words s acts c r f e
    → Words s (if b then SetEnable mask ∷ acts else acts) c r f (unwrap_or (if b then Some (without_top_bit mask) else None) e)
enabled_words s true mask acts c r f e h = (h.0, h.1, h.2, refl)
enabled_words s false mask acts c r f e h = h

rise_words : (s : ℕ) (b : Bool) (mask : ℕ) (acts : List RegisterAct) (c r f e : ℕ) → Words s acts c r f e
    → Words s (if b then SetFilter mask (register_words.fall acts) ∷ acts else acts) c
    (unwrap_or (if b then Some (without_top_bit mask) else None) r) f e
rise_words s true mask acts c r f e h = (h.0, refl, (filters_masked acts).1 ∙ h.2, h.3)
rise_words s false mask acts c r f e h = h

fall_words : (s : ℕ) (b : Bool) (mask : ℕ) (acts : List RegisterAct) (c r f e : ℕ) → Words s acts c r f e
    → Words s (if b then SetFilter (register_words.rise acts) mask ∷ acts else acts) c r
    (unwrap_or (if b then Some (without_top_bit mask) else None) f) e
fall_words s true mask acts c r f e h = (h.0, (filters_masked acts).0 ∙ h.1, refl, h.3)
fall_words s false mask acts c r f e h = h

-- After the direct effect of an act, a register's words are those of the instrument's log.
own_words : (name : RegisterName) (act : Act) (log : List Act) (acts : List RegisterAct)
    → Words (start name) acts (condition name (act ∷ log)) (rise name log) (fall name log) (enable name log)
    → WordsOf name (own name act acts) (act ∷ log)
own_words name Preset log acts h = (h.0, refl, refl, refl)
own_words name (StatusChanged (Register other ReadEvents)) log acts h = read_words (start name) (is_same name other) acts _ _ _ _ h
own_words name (StatusChanged (Register other (Enable mask))) log acts h =
    enabled_words (start name) (is_same name other) mask acts _ _ _ _ h
own_words name (StatusChanged (Register other (SetRise mask))) log acts h = rise_words (start name) (is_same name other) mask acts _ _ _ _ h
own_words name (StatusChanged (Register other (SetFall mask))) log acts h = fall_words (start name) (is_same name other) mask acts _ _ _ _ h
own_words name _ log acts h = h

pub same_words : SameWords
same_words name [] = (sym (first_condition name), refl, refl, refl)
same_words name (act ∷ log) =
    let h = same_words name log in
    subst (λ (acts : List RegisterAct). WordsOf name acts (act ∷ log)) (sym (register_acts_after_act name act log))
    (own_words name act log (Condition (condition name (act ∷ log)) ∷ register_acts name (layer_logs log)) (refl, h.1, h.2, h.3))
