pub mod OnConnection
pub mod OnDevice
pub mod OnServer
pub mod OnReplay
pub mod OnShown
