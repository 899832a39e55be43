-- Lemmas about what a replay and `explain` write.
pub mod Ports
pub mod Shown
pub mod Replayed
pub mod Telling
pub mod Explained
