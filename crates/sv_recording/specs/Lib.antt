pub mod Recorded
pub mod Tape
