-- Histories that differ only in how bytes, records or writes are split: the laws of
-- specs/Cuts.antt.
pub mod ReadsOn
pub mod SameView
pub mod SameExchange
pub mod SameStatus
pub mod SameInstrument
pub mod SameDevice
pub mod SharedSteps
pub mod SharedEvents
pub mod KeptLogs
pub mod RecordsCut
pub mod SameAhead
pub mod SharedLogs
pub mod LongerText
pub mod NoCallTaken
pub mod BytesBehind
pub mod Fed
pub mod Suspended
pub mod WriteOutcome
pub mod Written
pub mod FirstPart
pub mod Beside
pub mod AllTaken
pub mod WritesCut
