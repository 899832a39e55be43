pub mod Limits
pub mod Links
pub mod Table
pub mod Waiting
pub mod Queue
pub mod Request
pub mod Channels
pub mod ChannelRepresentation
