-- The state of the device, and when a state stands for the device's acts.
use Rattle.std.specs.Prelude.{◌≡◌, ℕ, ◌+◌, ◌<◌, ◌≤◌, true, List, [], ◌++◌, length, Some}
use Rattle.std.specs.List.{AllByRecursion}
use Rattle.sv_links.specs.declared.waiting.Entry.{Entry}
use Rattle.sv_links.specs.declared.enabled.Enabled.{Enabled}
use Rattle.sv_links.specs.Links.{LinkAct, live, owner}
use Rattle.sv_links.specs.Table.{Table, IsTable}
use Rattle.sv_links.specs.Waiting.{WaitAct}
use Rattle.sv_links.specs.Queue.{IsQueue, creations}
use Rattle.sv_links.specs.Channels.{ChannelAct}
use Rattle.sv_links.specs.ChannelRepresentation.{Channels, AreChannels, IsReady}
use Rattle.sv_links.specs.Limits.{max_links}
use Rattle.sv_instrument.specs.Representation.{Kept, StandsFor}
use Rattle.sv_history.specs.declared.event.Config.{Config}
use Rattle.sv_layers.specs.Act.{Act as InstrumentAct}
use Rattle.sv_history.specs.Act.{DeviceAct, link_acts, wait_acts, instrument_acts, ticks}
use Rattle.sv_history.specs.Requests.{HearsOf}
use Rattle.sv_history.specs.Interrupts.{is_dialing}

-- the state of the device: the table of links, the queue of suspended calls, the interrupt
-- channels, the instrument, the configuration, the clock
pub record Device : Type 0 where
  pub links : Table
  pub waiting : List Entry
  pub intr : Channels
  pub instrument : Kept
  pub config : Config
  pub clock : ℕ

-- The table of links has places and memory for the links that all suspended create_link calls will
-- make.
abbrev pub IsReserved : Device → List DeviceAct → Type 0
IsReserved kept acts = (length (live (link_acts acts)) + creations kept.waiting ≤ max_links) × (creations kept.waiting ≤ kept.links.spare)

-- The table of links has a place and memory for one more link, besides the links that all suspended
-- create_link calls will make.
abbrev pub HasPlace : Device → List DeviceAct → Type 0
HasPlace kept acts = (length (live (link_acts acts)) + creations kept.waiting < max_links) × (creations kept.waiting < kept.links.spare)

-- Each link with service requests enabled exists, and the link's owner is the connection that the
-- list `links` stores for the link.
abbrev pub AreOwned : List Enabled → List LinkAct → Type 0
AreOwned links acts = AllByRecursion (λ link. owner link.lid acts ≡ Some link.conn) links

-- The interrupt channels have the state that their log determines. The owner of each link with
-- service requests enabled is the connection that `kept` stores for this link.
abbrev pub AreTold : Channels → List DeviceAct → Type 0
AreTold kept acts = (channel_log : List ChannelAct) × HearsOf acts channel_log × AreChannels kept channel_log
    × AreOwned kept.enabled (link_acts acts)

-- For each connection whose create_intr_chan is suspended, an interrupt channel is prepared: the
-- channel can be opened without more memory.
abbrev pub AreReady : Channels → List WaitAct → Type 0
AreReady kept acts = (c : ℕ) → is_dialing c acts ≡ true → IsReady kept c

-- The device has the state that its acts `acts` determine, except that its instrument has also done
-- the acts `adds`. The acts `adds` may have raised service requests that aren't sent on the
-- interrupt channels yet.
abbrev pub HasDone : List InstrumentAct → Device → Config → List DeviceAct → Type 0
HasDone adds kept config acts = IsTable kept.links (link_acts acts) × StandsFor kept.instrument (adds ++ instrument_acts acts)
    × (kept.config ≡ config) × (kept.clock ≡ config.clock + ticks acts) × IsQueue kept.waiting (wait_acts acts) × IsReserved kept acts
    × AreTold kept.intr acts × AreReady kept.intr (wait_acts acts)

-- The device has the state that its acts determine.
abbrev pub IsDevice : Device → Config → List DeviceAct → Type 0
IsDevice kept config acts = HasDone [] kept config acts
