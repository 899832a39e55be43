-- The act that each `Change` of the code makes.
use Rattle.sv_layers.specs.declared.change.Change.{Change}
use Rattle.sv_layers.specs.declared.change.Change.TheVariants as changes
use Rattle.sv_layers.specs.Act.{Act, Scanned, Held, Reported, EntryTaken, Cleared, Preset, OpcAsked, StatusChanged}

-- the act of the instrument that is done when the code executes this `Change`
abbrev pub act_of : Change → Act
act_of (changes.Scan act) = Scanned act
act_of (changes.Hold awaited) = Held awaited
act_of (changes.Report code) = Reported code
act_of changes.TakeEntry = EntryTaken
act_of changes.ClearStatus = Cleared
act_of changes.Preset = Preset
act_of changes.AskComplete = OpcAsked
act_of (changes.Status change) = StatusChanged change
