-- The device: links, the lock, suspended calls, interrupt channels, the instrument and the clock.
pub mod Representation
pub mod Inside
