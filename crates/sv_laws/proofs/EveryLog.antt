-- Invariants of the logs of all histories, and how the steps of a log follow one another.
pub mod Done
pub mod Taken
pub mod Fit
pub mod EachEvent
pub mod Known
pub mod Steps
pub mod Due
pub mod EachAct
pub mod BusyWaits
pub mod Keeps
