-- Acts of the instrument and of links change only their own part of the device. A record that is
-- taken adds the acts of its effect to the log.
use Rattle.std.proofs.Common.{◌≡◌, ◌≢◌, ℕ, ◌+◌, ◌≤◌, length, List, [], ◌∷◌, ◌++◌, ap, ◌∙◌, append_assoc}
use Rattle.std.specs.Prelude.{map}
use Rattle.sv_links.specs.Links.{LinkAct, live}
use Rattle.sv_links.specs.Table.{Table, IsTable}
use Rattle.sv_links.specs.Queue.{creations}
use Rattle.sv_links.specs.ChannelRepresentation.{Channels, IsReady}
use Rattle.sv_links.specs.Limits.{max_links}
use Rattle.sv_layers.specs.Act.{Act as InstrumentAct}
use Rattle.sv_instrument.specs.Representation.{Kept, StandsFor}
use Rattle.sv_history.specs.declared.event.Config.{Config}
use Rattle.sv_history.specs.Act.{Act, ConnAct, DeviceAct, CallTaken, Linked, On, of, device_acts, link_acts, instrument_acts}
use Rattle.sv_history.specs.Effect.{Effect, acts_of}
use Rattle.sv_history.proofs.Projections.{of_own_act, of_other_act, of_device_acts, of_effect, of_others_effect, device_effect, link_acts_links, instrument_acts_links, ticks_links, wait_acts_links}
use Rattle.sv_server.specs.Device.Representation.{IsDevice, HasDone, AreTold, Device as KeptDevice}

-- Acts of the instrument change only the instrument.
pub device_done : (kept : KeptDevice) (instrument : Kept) (config : Config) (acts : List DeviceAct) (adds : List InstrumentAct)
    → IsDevice kept config acts → StandsFor instrument (adds ++ instrument_acts acts)
    → HasDone adds (record kept { instrument = instrument }) config acts
device_done kept instrument config acts adds (links, before, set_up, clock, waiting, reserved, told, ready) stands =
    (links, stands, set_up, clock, waiting, reserved, told, ready)

-- Acts of links change the table of links, and which links have service requests enabled.
pub device_linked : (kept : KeptDevice) (links : Table) (intr : Channels) (config : Config) (acts : List DeviceAct) (adds : List LinkAct)
    → IsDevice kept config acts → IsTable links (adds ++ link_acts acts)
    → length (live (adds ++ link_acts acts)) + creations kept.waiting ≤ max_links → creations kept.waiting ≤ links.spare
    → AreTold intr (map Linked adds ++ acts) → ((c : ℕ) → IsReady kept.intr c → IsReady intr c)
    → IsDevice (record kept { links = links; intr = intr }) config (map Linked adds ++ acts)
device_linked kept links intr config acts adds is stands few spare told still = (
  rw (link_acts_links adds acts) stands,
  rw (instrument_acts_links adds acts) is.1,
  is.2,
  rw (ticks_links adds acts) is.3,
  rw (wait_acts_links adds acts) is.4,
  (rw (link_acts_links adds acts) few, spare),
  told,
  rw (wait_acts_links adds acts) (λ c dials. still c (is.7 c dials)),
)

-- ---- the acts of a record that was taken

taken_parts : (c : ℕ) (effect : Effect) (call : List ℕ) (log : List Act)
    → (acts_of c effect ++ On c (CallTaken call) ∷ []) ++ log ≡ acts_of c effect ++ On c (CallTaken call) ∷ log
taken_parts c effect call log = append_assoc (acts_of c effect) (On c (CallTaken call) ∷ []) log

pub own_acts_after_taken : (c : ℕ) (effect : Effect) (call : List ℕ) (log : List Act)
    → of c ((acts_of c effect ++ On c (CallTaken call) ∷ []) ++ log) ≡ effect.own ++ CallTaken call ∷ of c log
own_acts_after_taken c effect call log = ap (of c) (taken_parts c effect call log) ∙ of_effect c effect (On c (CallTaken call) ∷ log)
    ∙ ap (λ (acts : List ConnAct). effect.own ++ acts) (of_own_act c (CallTaken call) log)

pub other_acts_after_taken : (c d : ℕ) (effect : Effect) (call : List ℕ) (log : List Act) → d ≢ c
    → of d ((acts_of c effect ++ On c (CallTaken call) ∷ []) ++ log) ≡ of d log
other_acts_after_taken c d effect call log ne = ap (of d) (taken_parts c effect call log)
    ∙ of_others_effect c d effect (On c (CallTaken call) ∷ log) ne ∙ of_other_act c d (CallTaken call) log ne

pub device_taken : (c : ℕ) (effect : Effect) (call : List ℕ) (log : List Act)
    → device_acts ((acts_of c effect ++ On c (CallTaken call) ∷ []) ++ log) ≡ effect.adds ++ device_acts log
device_taken c effect call log = ap device_acts (taken_parts c effect call log) ∙ device_effect c effect (On c (CallTaken call) ∷ log)

-- An effect without acts of its connection leaves the acts of every connection.
pub acts_of_effect_without_own : (c d : ℕ) (effect : Effect) (log : List Act) → effect.own ≡ [] → of d (acts_of c effect ++ log) ≡ of d log
acts_of_effect_without_own c d effect log none = rw none (of_device_acts d effect.adds log)
