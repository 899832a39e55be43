pub mod Connection
pub mod Device
pub mod Server
pub mod Replay
pub mod Explain
