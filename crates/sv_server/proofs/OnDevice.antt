-- Lemmas about the state of the device.
pub mod Effects
pub mod Owned
pub mod Raising
pub mod Parts
pub mod Calls
pub mod Channeled
pub mod Granted
pub mod Channels
