-- After acts are added to a log: which acts are those of one connection, and which those of the
-- device.
use Rattle.std.proofs.Common.{◌≡◌, ◌≢◌, ℕ, List, [], ◌∷◌, ◌++◌, refl, sym, ap, ◌∙◌, append_assoc, eq-eqb, eqb, inl, inr}
use Rattle.std.specs.Prelude.{map}
use Rattle.std.proofs.lemmas.Bool.{ne_eqb, cases_Bool}
use Rattle.sv_links.specs.Links.{LinkAct}
use Rattle.sv_layers.specs.Act.{Act as InstrumentAct}
use Rattle.sv_history.specs.Act.{Act, ConnAct, DeviceAct, Linked, Applied, On, OnDevice, of, device_acts, link_acts, wait_acts, instrument_acts, ticks}
use Rattle.sv_history.specs.Effect.{Effect, acts_of}

-- An act of the connection itself, and of another one.
pub of_own_act : (c : ℕ) (act : ConnAct) (log : List Act) → of c (On c act ∷ log) ≡ act ∷ of c log
of_own_act c act log = rw (eq-eqb c c refl) refl

pub of_other_act : (c d : ℕ) (act : ConnAct) (log : List Act) → d ≢ c → of d (On c act ∷ log) ≡ of d log
of_other_act c d act log ne = rw (ne_eqb c d (λ e. ne (sym e))) refl

pub of_append : (c : ℕ) (adds log : List Act) → of c (adds ++ log) ≡ of c adds ++ of c log
of_append c [] log = refl
of_append c (OnDevice act ∷ adds) log = of_append c adds log
of_append c (On d act ∷ adds) log = elim (cases_Bool (eqb d c)) [
  | inl e ↦ rw e (ap (λ (l : List ConnAct). act ∷ l) (of_append c adds log))
  | inr e ↦ rw e (of_append c adds log)
]

-- Acts of the device.
pub of_device_acts : (c : ℕ) (adds : List DeviceAct) (log : List Act) → of c (map OnDevice adds ++ log) ≡ of c log
of_device_acts c [] log = refl
of_device_acts c (act ∷ adds) log = of_device_acts c adds log

pub device_acts_append : (adds : List DeviceAct) (log : List Act) → device_acts (map OnDevice adds ++ log) ≡ adds ++ device_acts log
device_acts_append [] log = refl
device_acts_append (act ∷ adds) log = ap (λ (acts : List DeviceAct). act ∷ acts) (device_acts_append adds log)

-- Acts of one connection.
of_own : (c : ℕ) (own : List ConnAct) (log : List Act) → of c (map (On c) own ++ log) ≡ own ++ of c log
of_own c [] log = refl
of_own c (act ∷ own) log = of_own_act c act (map (On c) own ++ log) ∙ ap (λ (acts : List ConnAct). act ∷ acts) (of_own c own log)

of_else : (c d : ℕ) (own : List ConnAct) (log : List Act) → d ≢ c → of d (map (On c) own ++ log) ≡ of d log
of_else c d [] log ne = refl
of_else c d (act ∷ own) log ne = of_other_act c d act (map (On c) own ++ log) ne ∙ of_else c d own log ne

device_own : (c : ℕ) (own : List ConnAct) (log : List Act) → device_acts (map (On c) own ++ log) ≡ device_acts log
device_own c [] log = refl
device_own c (act ∷ own) log = device_own c own log

-- The acts of an effect.
effect_parts : (c : ℕ) (effect : Effect) (log : List Act)
    → acts_of c effect ++ log ≡ map (On c) effect.own ++ (map OnDevice effect.adds ++ log)
effect_parts c effect log = append_assoc (map (On c) effect.own) (map OnDevice effect.adds) log

pub of_effect : (c : ℕ) (effect : Effect) (log : List Act) → of c (acts_of c effect ++ log) ≡ effect.own ++ of c log
of_effect c effect log = ap (of c) (effect_parts c effect log) ∙ of_own c effect.own (map OnDevice effect.adds ++ log)
    ∙ ap (λ (acts : List ConnAct). effect.own ++ acts) (of_device_acts c effect.adds log)

pub of_others_effect : (c d : ℕ) (effect : Effect) (log : List Act) → d ≢ c → of d (acts_of c effect ++ log) ≡ of d log
of_others_effect c d effect log ne = ap (of d) (effect_parts c effect log) ∙ of_else c d effect.own (map OnDevice effect.adds ++ log) ne
    ∙ of_device_acts d effect.adds log

pub device_effect : (c : ℕ) (effect : Effect) (log : List Act) → device_acts (acts_of c effect ++ log) ≡ effect.adds ++ device_acts log
device_effect c effect log = ap device_acts (effect_parts c effect log) ∙ device_own c effect.own (map OnDevice effect.adds ++ log)
    ∙ device_acts_append effect.adds log

-- Acts of links, and of the instrument.
pub link_acts_links : (links : List LinkAct) (acts : List DeviceAct) → link_acts (map Linked links ++ acts) ≡ links ++ link_acts acts
link_acts_links [] acts = refl
link_acts_links (act ∷ links) acts = ap (λ (xs : List LinkAct). act ∷ xs) (link_acts_links links acts)

pub instrument_acts_links : (links : List LinkAct) (acts : List DeviceAct)
    → instrument_acts (map Linked links ++ acts) ≡ instrument_acts acts
instrument_acts_links [] acts = refl
instrument_acts_links (act ∷ links) acts = instrument_acts_links links acts

pub ticks_links : (links : List LinkAct) (acts : List DeviceAct) → ticks (map Linked links ++ acts) ≡ ticks acts
ticks_links [] acts = refl
ticks_links (act ∷ links) acts = ticks_links links acts

pub link_acts_applied : (adds : List InstrumentAct) (acts : List DeviceAct) → link_acts (map Applied adds ++ acts) ≡ link_acts acts
link_acts_applied [] acts = refl
link_acts_applied (act ∷ adds) acts = link_acts_applied adds acts

pub instrument_acts_applied : (adds : List InstrumentAct) (acts : List DeviceAct)
    → instrument_acts (map Applied adds ++ acts) ≡ adds ++ instrument_acts acts
instrument_acts_applied [] acts = refl
instrument_acts_applied (act ∷ adds) acts = ap (λ (xs : List InstrumentAct). act ∷ xs) (instrument_acts_applied adds acts)

pub ticks_applied : (adds : List InstrumentAct) (acts : List DeviceAct) → ticks (map Applied adds ++ acts) ≡ ticks acts
ticks_applied [] acts = refl
ticks_applied (act ∷ adds) acts = ticks_applied adds acts

pub wait_acts_applied : (adds : List InstrumentAct) (acts : List DeviceAct) → wait_acts (map Applied adds ++ acts) ≡ wait_acts acts
wait_acts_applied [] acts = refl
wait_acts_applied (act ∷ adds) acts = wait_acts_applied adds acts

pub wait_acts_links : (links : List LinkAct) (acts : List DeviceAct) → wait_acts (map Linked links ++ acts) ≡ wait_acts acts
wait_acts_links [] acts = refl
wait_acts_links (act ∷ links) acts = wait_acts_links links acts
