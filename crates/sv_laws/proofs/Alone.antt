-- Queries whose response is read before anything else is written: the laws of
-- specs/QueryAlone.antt.
pub mod Texts
pub mod Steps
pub mod Written
pub mod Turns
pub mod Quiet
pub mod Heard
pub mod Sound
pub mod Unbegun
pub mod Asked
pub mod Phases
pub mod Moves
pub mod Held
pub mod Locked
pub mod Commands
pub mod Rounds
pub mod Example
