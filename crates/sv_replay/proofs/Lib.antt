pub mod Hexes
pub mod Lines
pub mod Numbers
pub mod Options
pub mod Steps
pub mod Texts
pub mod Parts
pub mod Staged
pub mod Printed
pub mod Going
pub mod Ending
mod Filter
pub mod Entries
pub mod Scenarios
mod Heard
mod TellsInOrder
