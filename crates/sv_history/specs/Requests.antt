-- The log of the interrupt channels (VXI-11 revision 1.0, section B.6, device_intr_srq; IEEE 488.2,
-- 11.3). This log has the acts of the channels, and each request for service that is raised. For
-- each link that is destroyed, the log has an act that disables the link's service requests.
use Rattle.std.specs.Prelude.{◌≡◌, ◌↔◌, Bool, true, false, List, [], ◌∷◌}
use Rattle.sv_links.specs.Links.{LinkAct, Destroyed}
use Rattle.sv_links.specs.Channels.{ChannelAct, SrqDisabled, Requested}
use Rattle.sv_layers.specs.StatusByte.{IsRaised}
use Rattle.sv_history.specs.Act.{DeviceAct, Linked, Channel, Applied, instrument_acts}

-- the log of the interrupt channels after an act of a link; if the act destroys the link, an act
-- that disables the link's service requests is added
abbrev pub link_told : LinkAct → List ChannelAct → List ChannelAct
link_told (Destroyed lid) channel_log = SrqDisabled lid ∷ channel_log
link_told _ channel_log = channel_log

-- the log of the interrupt channels after an act of the instrument; if the act raises a request for
-- service, the request is added in front
abbrev pub request_told : Bool → List ChannelAct → List ChannelAct
request_told true channel_log = Requested ∷ channel_log
request_told false channel_log = channel_log

-- These acts of the device lead to this log of the interrupt channels.
abbrev pub HearsOf : List DeviceAct → List ChannelAct → Type 0
HearsOf [] channel_log = channel_log ≡ []
HearsOf (Channel act ∷ acts) channel_log = (before : List ChannelAct) × HearsOf acts before × (channel_log ≡ act ∷ before)
HearsOf (Linked act ∷ acts) channel_log = (before : List ChannelAct) × HearsOf acts before × (channel_log ≡ link_told act before)
HearsOf (Applied act ∷ acts) channel_log = (before : List ChannelAct) × (raised : Bool) × HearsOf acts before
    × ((raised ≡ true) ↔ IsRaised (act ∷ instrument_acts acts)) × (channel_log ≡ request_told raised before)
HearsOf (_ ∷ acts) channel_log = HearsOf acts channel_log
